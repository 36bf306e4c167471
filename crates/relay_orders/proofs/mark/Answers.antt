-- `relay_orders::mark` meets its contract. The invariant: the places that the entries so far name hold c. Assumes nothing.
use mathlib.Core.Path.{refl}
use Rattle.relay_orders.specs.Marks.{marked_at}
use Rattle.relay_orders.proofs.OrderTests.{marked_turn}
use Rattle.relay_orders.proofs.mark.Goals as goal

pub loop-v-init : goal.loop-v-init
unfolding marked_at
loop-v-init c = refl

pub loop-v-preserved : goal.loop-v-preserved
loop-v-preserved c = marked_turn _ _ _ _ c.loop-v.v-index _ c.loop-v-test.true refl c.loop-v.invariant
