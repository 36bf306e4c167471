-- `relay_step::step::check_serial_iteration` meets its contract. The biases, and then the pass over the checks, are the definition's.
-- Assumes nothing.
use Rattle.relay_step.specs.Step.{check_serial_iteration}
use Rattle.relay_step.proofs.step.check_serial_iteration.Goals as goal

pub returns : goal.returns
unfolding check_serial_iteration
returns c = rw (← c.compute_bias.ensures) c.serial_pass.ensures
