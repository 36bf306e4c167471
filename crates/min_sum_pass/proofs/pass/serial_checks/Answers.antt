-- `min_sum_pass::pass::serial_checks` meets its contract. The invariant: the checks passed have sent, and their variables are updated. Assumes nothing.
use mathlib.Core.Path.{refl}
use Rattle.min_sum_pass.specs.MinSum.{serial_to}
use Rattle.min_sum_pass.proofs.Checks.{serial_turn}
use Rattle.min_sum_pass.proofs.pass.serial_checks.Goals as goal

pub loop-c-init : goal.loop-c-init
unfolding serial_to
loop-c-init c = refl

pub loop-c-preserved : goal.loop-c-preserved
loop-c-preserved c = serial_turn _ _ _ _ _ _ _ c.loop-c.c c.loop-c.invariant c.serial_check.ensures
