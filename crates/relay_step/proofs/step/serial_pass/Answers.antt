-- `relay_step::step::serial_pass` meets its contract. The invariant: the checks passed have sent, and their variables are updated.
-- Assumes nothing.
use mathlib.Core.Path.{refl}
use Rattle.relay_step.specs.Step.{serial_pass}
use Rattle.relay_step.proofs.Passes.{serial_turn}
use Rattle.relay_step.proofs.step.serial_pass.Goals as goal

pub loop-c-init : goal.loop-c-init
unfolding serial_pass
loop-c-init c = refl

pub loop-c-preserved : goal.loop-c-preserved
loop-c-preserved c =
    serial_turn _ _ _ _ _ _ _ _ _ c.loop-c.c-index _ c.loop-c-test.true refl c.loop-c.invariant c.serial_check.ensures
