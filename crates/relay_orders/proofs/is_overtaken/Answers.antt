-- `relay_orders::is_overtaken` meets its contract. The invariant: no entry so far holds more than c. Assumes nothing.
use mathlib.Core.Path.{refl}
use Rattle.relay_orders.specs.Marks.{overtaken}
use Rattle.relay_orders.proofs.OrderTests.{overtaken_turn, overtaken_found}
use Rattle.relay_orders.proofs.is_overtaken.Goals as goal

pub loop-v-init : goal.loop-v-init
unfolding overtaken
loop-v-init c = refl

pub returns-then-c-last : goal.returns-then-c-last
returns-then-c-last c = overtaken_found _ _ _ c.loop-v.v-index _ c.loop-v-test.true refl c.if-c-last.true

pub loop-v-preserved : goal.loop-v-preserved
loop-v-preserved c = overtaken_turn _ _ _ c.loop-v.v-index _ c.loop-v-test.true refl c.if-c-last.false c.loop-v.invariant
