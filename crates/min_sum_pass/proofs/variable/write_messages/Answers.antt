-- `min_sum_pass::variable::write_messages` meets its contract. The invariant: the messages that the entries passed name are written. Assumes nothing.
use mathlib.Core.Path.{refl}
use Rattle.min_sum_pass.specs.MinSum.{damped_messages}
use Rattle.min_sum_pass.proofs.Variables.{written_turn}
use Rattle.min_sum_pass.proofs.variable.write_messages.Goals as goal

pub loop-entry-init : goal.loop-entry-init
unfolding damped_messages
loop-entry-init c = refl

pub loop-entry-preserved : goal.loop-entry-preserved
loop-entry-preserved c = written_turn _ _ _ _ _ c.loop-entry.entry-index _ _ c.loop-entry-test.true refl c.loop-entry.invariant c.damped.ensures
