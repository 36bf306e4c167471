-- `stream_grammar::fields::degree` meets its contract. It is the number at its place.
-- Assumes nothing.
use Rattle.stream_grammar.specs.Stream.{degree}
use Rattle.stream_grammar.proofs.fields.degree.Goals as goal

pub returns : goal.returns
unfolding degree
returns c = c.number4.ensures.0
