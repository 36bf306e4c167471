-- `stream_table::built_within` meets its contract. The parts of its arrays have the lengths that the room allows. Assumes nothing.
use Rattle.stream_table.proofs.built_within.Goals as goal

pub returns : goal.returns
unfolding lib.Ieee.of_bits
returns c = c.built.ensures
