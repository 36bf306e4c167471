-- `probabilities::float_of` meets its contract. The number is below 2 ^ 53 either way, and the machine reads it back from its bits. Assumes nothing.
use lib.Ieee.{of_bits}
use mir.Syntax.{w64}
use mir.ValLaws.{to_z-of_z}
use Rattle.probabilities.specs.Scaled.{float_of}
use Rattle.probabilities.proofs.float_of.Goals as goal

pub returns : goal.returns
unfolding float_of of_bits
returns c = rw (to_z-of_z w64 c.args.scaled c.ranges.scaled)
