-- `relay_step::variable::write_messages` meets its contract. The invariant: the messages that the entries passed name are written.
-- Assumes nothing.
use mathlib.Core.Path.{refl}
use Rattle.relay_step.specs.Step.{written}
use Rattle.relay_step.proofs.Variables.{written_turn}
use Rattle.relay_step.proofs.variable.write_messages.Goals as goal

pub loop-entry-init : goal.loop-entry-init
unfolding written
loop-entry-init c = refl

pub loop-entry-preserved : goal.loop-entry-preserved
loop-entry-preserved c = written_turn _ _ _ _ _ c.loop-entry.entry-index _ c.loop-entry-test.true refl c.loop-entry.invariant
