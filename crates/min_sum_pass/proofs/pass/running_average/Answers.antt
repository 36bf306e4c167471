-- `min_sum_pass::pass::running_average` meets its contract. The code is the definition's expression. Assumes nothing.
use mathlib.Core.Path.{refl}
use lib.Ieee.{of_bits}
use Rattle.min_sum_pass.specs.MinSum.{running_average}
use Rattle.min_sum_pass.proofs.pass.running_average.Goals as goal

pub returns : goal.returns
unfolding running_average of_bits
returns c = refl
