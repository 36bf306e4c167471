-- `stream_grammar::fields::number8` meets its contract. Four bytes and four.
-- Assumes nothing.
use Rattle.stream_grammar.proofs.Bytes.{number_8}
use Rattle.stream_grammar.proofs.fields.number8.Goals as goal

pub returns : goal.returns
returns c = number_8 c.args.at c.args.bytes.now _ _ c.number4.ensures.0 c.number4-2.ensures.0
