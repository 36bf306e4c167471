-- `stream_grammar::fields::legs` meets its contract. It is the number at its place.
-- Assumes nothing.
use Rattle.stream_grammar.specs.Stream.{legs}
use Rattle.stream_grammar.proofs.fields.legs.Goals as goal

pub returns : goal.returns
unfolding legs
returns c = c.number4.ensures.0
