-- `min_sum_pass::variable::damped` meets its contract. The code is the definition's expression. Assumes nothing.
use mathlib.Core.Path.{refl}
use lib.Ieee.{of_bits}
use Rattle.min_sum_pass.specs.MinSum.{damped}
use Rattle.min_sum_pass.proofs.variable.damped.Goals as goal

pub returns : goal.returns
unfolding damped of_bits
returns c = refl
