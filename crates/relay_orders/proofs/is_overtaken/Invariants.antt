-- `relay_orders::is_overtaken` meets its contract. The invariant: no entry so far holds more than c. Assumes nothing.
use mathlib.Core.Path.{◌≡◌}
use mathlib.Core.Bool.{false}
use lib.ListN.{take}
use Rattle.relay_orders.specs.Marks.{overtaken}
use Rattle.relay_orders.proofs.is_overtaken.Given as goal

abbrev pub invariant-loop-v : goal.invariant-loop-v
invariant-loop-v l = overtaken l.c l.last (take l.v-index l.entries) ≡ false
