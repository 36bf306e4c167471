-- `relay_step::step::compute_bias` meets its contract. The invariant: the biases passed are written.
-- Assumes nothing.
use mathlib.Core.Path.{refl}
use native.Mathlib.Omega.{arith}
use lib.ListN.{length}
use Rattle.numbers.proofs.Turns.{table_done}
use Rattle.relay_step.specs.Step.{biases_to, compute_bias}
use Rattle.relay_step.proofs.Passes.{bias_turn}
use Rattle.relay_step.proofs.step.compute_bias.Goals as goal

pub loop-v-init : goal.loop-v-init
unfolding biases_to
loop-v-init c = refl

pub loop-v-preserved : goal.loop-v-preserved
loop-v-preserved c = bias_turn _ _ _ c.loop-v.bias c.loop-v.v _ (omega arith) c.loop-v.invariant c.bias_of.ensures

pub returns : goal.returns
unfolding compute_bias biases_to
returns c = table_done _ _ c.loop-v.v (length c.args.priors.now) (omega arith) (omega arith) (omega arith) c.loop-v.invariant
