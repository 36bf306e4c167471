-- `stream_grammar::fields::detector` meets its contract. It is the number at its place.
-- Assumes nothing.
use Rattle.stream_grammar.specs.Stream.{detector}
use Rattle.stream_grammar.proofs.fields.detector.Goals as goal

pub returns : goal.returns
unfolding detector
returns c = c.number4.ensures.0
