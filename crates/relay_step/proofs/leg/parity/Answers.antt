-- `relay_step::leg::parity` meets its contract. The invariant: the parity is that of the entries passed.
-- Assumes nothing.
use mathlib.Core.Path.{refl}
use Rattle.relay_step.specs.Leg.{parity}
use Rattle.relay_step.proofs.Legs.{parity_turn}
use Rattle.relay_step.proofs.leg.parity.Goals as goal

pub loop-v-init : goal.loop-v-init
unfolding parity
loop-v-init c = refl

pub loop-v-preserved : goal.loop-v-preserved
loop-v-preserved c = parity_turn _ _ c.loop-v.v-index _ _ c.loop-v-test.true refl c.loop-v.invariant
