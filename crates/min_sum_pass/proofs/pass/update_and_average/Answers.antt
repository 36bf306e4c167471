-- `min_sum_pass::pass::update_and_average` meets its contract. The invariant: the variables passed are updated, their elements of the running posterior are
-- new, and the others are old. Assumes nothing.
use mathlib.Core.Path.{refl}
use native.Mathlib.Omega.{arith}
use Rattle.min_sum_pass.specs.MinSum.{variables_to, averaged_to}
use Rattle.min_sum_pass.proofs.Average.{variables_further, same_after, average_turn, average_done}
use Rattle.min_sum_pass.proofs.pass.update_and_average.Goals as goal

pub loop-v-init : goal.loop-v-init
unfolding variables_to averaged_to
loop-v-init c = (refl, refl, refl)

pub loop-v-preserved : goal.loop-v-preserved
loop-v-preserved c = (
  variables_further _ _ _ _ _ c.loop-v.v c.loop-v.invariant.0 c.update_variable-sum.ensures.messages,
  average_turn _ _ _ _ _ c.loop-v.ewa_posterior c.loop-v.v _ _ (omega arith) c.loop-v.invariant.1 c.loop-v.invariant.2 c.update_variable-sum.ensures.sum c.running_average.ensures,
  same_after _ c.loop-v.ewa_posterior c.loop-v.v _ c.loop-v.invariant.2,
)

pub returns-clause-average : goal.returns-clause-average
returns-clause-average c = average_done _ _ _ _ _ _ c.loop-v.v (omega arith) (omega arith) c.loop-v.invariant.1
