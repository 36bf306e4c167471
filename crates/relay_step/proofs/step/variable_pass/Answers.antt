-- `relay_step::step::variable_pass` meets its contract. The invariant: the variables passed are updated.
-- Assumes nothing.
use mathlib.Core.Path.{refl}
use Rattle.relay_step.specs.Step.{variable_pass}
use Rattle.relay_step.proofs.Passes.{variable_pass_turn}
use Rattle.relay_step.proofs.step.variable_pass.Goals as goal

pub loop-v-init : goal.loop-v-init
unfolding variable_pass
loop-v-init c = refl

pub loop-v-preserved : goal.loop-v-preserved
loop-v-preserved c = variable_pass_turn _ _ _ _ _ c.loop-v.v c.loop-v.invariant c.update_variable.ensures
