-- `numbers::unit` meets its contract. 53 bits are a float exactly, and the constant is 2 ^ -53. Assumes nothing.
use Rattle.std.proofs.Common.{◌/◌, ◌^◌, refl, arith, le→leb}
use lib.Ieee.{of_bits, in_float}
use Rattle.numbers.specs.Draw.{unit}
use Rattle.numbers.proofs.unit.Goals as goal

pub int_to_float-result : goal.int_to_float-result
unfolding in_float
int_to_float-result c = le→leb (c.args.draw / 2 ^ 11) (2 ^ 53) (omega arith)

pub returns : goal.returns
unfolding of_bits unit
returns c = refl
