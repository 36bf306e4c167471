-- `min_sum_pass::pass::parallel_checks` meets its contract. The invariant: the checks passed have sent. Assumes nothing.
use mathlib.Core.Path.{refl}
use Rattle.min_sum_pass.specs.MinSum.{checks_to}
use Rattle.min_sum_pass.proofs.Checks.{checks_turn}
use Rattle.min_sum_pass.proofs.pass.parallel_checks.Goals as goal

pub loop-c-init : goal.loop-c-init
unfolding checks_to
loop-c-init c = refl

pub loop-c-preserved : goal.loop-c-preserved
loop-c-preserved c = checks_turn _ _ _ _ _ _ c.loop-c.c c.loop-c.invariant c.parallel_check.ensures
