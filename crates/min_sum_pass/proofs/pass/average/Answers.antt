-- `min_sum_pass::pass::average` meets its contract. The invariant: the elements passed are new, and the others are old. Assumes nothing.
use mathlib.Core.Path.{refl}
use native.Mathlib.Omega.{arith}
use Rattle.min_sum_pass.specs.MinSum.{averaged_to}
use Rattle.min_sum_pass.proofs.Average.{same_after, average_turn, average_done}
use Rattle.min_sum_pass.proofs.pass.average.Goals as goal

pub loop-v-init : goal.loop-v-init
unfolding averaged_to
loop-v-init c = (refl, refl)

pub loop-v-preserved : goal.loop-v-preserved
loop-v-preserved c = (
  average_turn _ _ _ _ _ c.loop-v.ewa_posterior c.loop-v.v _ _ (omega arith) c.loop-v.invariant.0 c.loop-v.invariant.1 c.raw_posterior-sum.ensures c.running_average.ensures,
  same_after _ c.loop-v.ewa_posterior c.loop-v.v _ c.loop-v.invariant.1,
)

pub returns : goal.returns
returns c = average_done _ _ _ _ _ _ c.loop-v.v (omega arith) (omega arith) c.loop-v.invariant.0
