-- `stream_reader::read_seed` meets its contract. It is the number at its place.
-- Assumes nothing.
use Rattle.stream_grammar.specs.Stream.{seed}
use Rattle.stream_reader.proofs.read_seed.Goals as goal

pub returns : goal.returns
unfolding seed
returns c = c.number8.ensures
