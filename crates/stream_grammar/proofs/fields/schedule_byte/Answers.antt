-- `stream_grammar::fields::schedule_byte` meets its contract. It is the byte at its place.
-- Assumes nothing.
use Rattle.stream_grammar.specs.Stream.{schedule_byte}
use Rattle.stream_grammar.proofs.fields.schedule_byte.Goals as goal

pub returns : goal.returns
unfolding schedule_byte
returns c = c.byte_at.ensures.0
