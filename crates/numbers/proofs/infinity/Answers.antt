-- `numbers::infinity` meets its contract. The quotient computes. Assumes nothing.
use Rattle.std.proofs.Common.{refl}
use lib.Ieee.{of_bits, div}
use Rattle.numbers.proofs.infinity.Goals as goal

pub returns : goal.returns
unfolding of_bits div
returns c = refl
