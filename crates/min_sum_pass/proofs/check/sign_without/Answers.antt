-- `min_sum_pass::check::sign_without` meets its contract. Each arm is one case of the product's sign. Assumes nothing.
use lib.Ieee.{of_bits, neg}
use Rattle.min_sum_pass.specs.MinSum.{sign_without}
use Rattle.min_sum_pass.proofs.check.sign_without.Goals as goal

pub returns-then-is_negative : goal.returns-then-is_negative
unfolding sign_without of_bits neg
returns-then-is_negative c = rw (← c.is_negative.ensures, c.if-is_negative.true)

pub returns : goal.returns
unfolding sign_without of_bits
returns c = rw (← c.is_negative.ensures, c.if-is_negative.false)
