-- `relay_step::step::check_pass` meets its contract. The invariant: the checks passed have sent.
-- Assumes nothing.
use mathlib.Core.Path.{refl}
use Rattle.relay_step.specs.Step.{check_pass}
use Rattle.relay_step.proofs.Passes.{checks_turn}
use Rattle.relay_step.proofs.step.check_pass.Goals as goal

pub loop-check-init : goal.loop-check-init
unfolding check_pass
loop-check-init c = refl

pub loop-check-preserved : goal.loop-check-preserved
loop-check-preserved c =
    checks_turn _ _ _ _ _ _ _ _ c.loop-check.check-index _ c.loop-check-test.true refl c.loop-check.invariant c.update_one.ensures
