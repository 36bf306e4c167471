-- `min_sum::run::choose` meets its contract. The invariant: the beliefs passed are chosen. Assumes nothing.
use mathlib.Core.Path.{refl}
use native.Mathlib.Omega.{arith}
use Rattle.min_sum_pass.specs.MinSum.{chosen_to}
use Rattle.min_sum.proofs.Rounds.{chosen_turn}
use Rattle.min_sum.proofs.run.choose.Goals as goal

pub loop-v-init : goal.loop-v-init
unfolding chosen_to
loop-v-init c = refl

pub loop-v-preserved : goal.loop-v-preserved
loop-v-preserved c = chosen_turn _ _ _ _ c.loop-v.posterior c.loop-v.v _ _ (omega arith) c.loop-v.invariant c.raw_posterior-raw.ensures c.chosen.ensures
