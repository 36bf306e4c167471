-- `relay_orders::mark` meets its contract. The invariant: the places that the entries so far name hold c. Assumes nothing.
use mathlib.Core.Path.{◌≡◌}
use lib.ListN.{take}
use Rattle.relay_orders.specs.Marks.{marked_at}
use Rattle.relay_orders.proofs.mark.Given as goal

abbrev pub invariant-loop-v : goal.invariant-loop-v
invariant-loop-v l = l.last ≡ marked_at l.c l.initial.last (take l.v-index l.entries)
