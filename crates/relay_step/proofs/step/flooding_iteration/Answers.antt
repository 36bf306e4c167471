-- `relay_step::step::flooding_iteration` meets its contract. The three passes, one after the other, are the definition's.
-- Assumes nothing.
use Rattle.relay_step.proofs.Passes.{flooding_is}
use Rattle.relay_step.proofs.step.flooding_iteration.Goals as goal

pub returns : goal.returns
returns c = flooding_is _ _ _ _ _ _ _ _ _ _ _ _ _ _ _ _ _ _ c.check_pass.ensures c.compute_bias.ensures c.variable_pass.ensures
