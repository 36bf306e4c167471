-- `relay_orders::exchanged_check` meets its contract. The invariant: nothing is exchanged among the names so far, and `last` has the highest of them for each
-- mechanism. So the marks of a check's mechanisms tell whether it is late. Assumes nothing.
use mathlib.Core.Path.{◌≡◌}
use mathlib.Core.List.{[]}
use lib.ListN.{length, take, drop}
use Rattle.numbers.specs.Loops.{row}
use Rattle.relay_orders.specs.Order.{exchanged}
use Rattle.relay_orders.proofs.OrderTests.{Tells}
use Rattle.relay_orders.proofs.exchanged_check.Given as goal

abbrev pub invariant-loop-check : goal.invariant-loop-check
invariant-loop-check l = (length l.last ≡ 65536) × Tells (λ d. row l.check_offset d l.check_var) (take l.check-index l.order) l.last
    × (exchanged (λ d. row l.check_offset d l.check_var) (take l.check-index l.order) (drop l.check-index l.order) ≡ exchanged (λ d. row l.check_offset d l.check_var) [] l.order)
