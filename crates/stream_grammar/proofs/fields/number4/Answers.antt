-- `stream_grammar::fields::number4` meets its contract. Four bytes, the first worth least.
-- Assumes nothing.
use Rattle.std.proofs.Common.{arith}
use Rattle.stream_grammar.proofs.Bytes.{number_4}
use Rattle.stream_grammar.proofs.fields.number4.Goals as goal

pub returns : goal.returns
returns c = (
  number_4 c.args.at c.args.bytes.now _ _ _ _
      c.byte_at.ensures.0 c.byte_at-2.ensures.0 c.byte_at-3.ensures.0 c.byte_at-4.ensures.0,
  omega arith,
)
