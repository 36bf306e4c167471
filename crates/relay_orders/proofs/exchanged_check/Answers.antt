-- `relay_orders::exchanged_check` meets its contract. The invariant: nothing is exchanged among the names so far, and `last` has the highest of them for each
-- mechanism. So the marks of a check's mechanisms tell whether it is late. Assumes nothing.
use mathlib.Core.Path.{◌≡◌, refl, ◌∙◌, ap}
use mathlib.Core.Bool.{true}
use mathlib.Core.List.{List}
use Prim.Native.Nat.{ℕ, ◌≤◌, ◌<◌}
use native.Mathlib.Omega.{arith}
use lib.ListN.{length, length-replicate, get_or}
use Rattle.numbers.specs.Loops.{part}
use Rattle.relay_orders.specs.Order.{names_once}
use Rattle.relay_orders.proofs.All.{all_at}
use Rattle.relay_orders.proofs.Counts.{names_below, names_once_is}
use Rattle.graph_lists.specs.Sound.{Keys}
use Rattle.graph_lists.proofs.Cuts.{cut_bounds}
use Rattle.graph_messages.proofs.Parts.{part_names}
use Rattle.relay_orders.proofs.OrderTests.{tells_start, test_found, test_goes_on, test_tells, exchange_done, length_marked}
use Rattle.relay_orders.proofs.exchanged_check.Goals as goal
use Rattle.relay_orders.proofs.exchanged_check.Goals.{After-at-end}

-- each check that the order names is one of the checks
named : (checks : ℕ) (order : List ℕ) (i : ℕ) → names_once checks order ≡ true → i < length order → get_or order i 0 < checks
named checks order i e h = all_at (names_below ((names_once_is checks order).0 e)) i h

-- its part lies within the entries
bounds : (c : After-at-end) → (c.at-start.result ≤ c.at-end.result) × (c.at-end.result ≤ length c.args.check_var.now)
bounds c = cut_bounds _ _ _ _ _ _ c.requires.offsets (named _ _ c.loop-check.check-index c.requires.order_value c.loop-check-test.true) c.at-start.ensures c.at-end.ensures

-- and names mechanisms
entries : (c : After-at-end) → Keys 65536 (part c.at-start.result c.at-end.result c.args.check_var.now)
entries c = part_names _ _ _ _ c.requires.keys
    (cut_bounds _ _ _ _ _ _ c.requires.offsets (named _ _ c.loop-check.check-index c.requires.order_value c.loop-check-test.true) c.at-start.ensures c.at-end.ensures).1

pub loop-check-init : goal.loop-check-init
loop-check-init c = (length-replicate {A = ℕ} 65536 0, tells_start _, refl)

pub at-start-requires : goal.at-start-requires
at-start-requires c = omega (arith, named _ _ c.loop-check.check-index c.requires.order_value c.loop-check-test.true, c.requires.offsets.many)

pub at-end-requires : goal.at-end-requires
at-end-requires c = omega (arith, named _ _ c.loop-check.check-index c.requires.order_value c.loop-check-test.true, c.requires.offsets.many)

pub overflow_cast-short : goal.overflow_cast-short
overflow_cast-short c = omega (arith, named _ _ c.loop-check.check-index c.requires.order_value c.loop-check-test.true, c.requires.checks_le_max_checks)

pub slice_bounds-is_overtaken-count : goal.slice_bounds-is_overtaken-count
slice_bounds-is_overtaken-count c = (bounds (goal.at.slice_bounds-is_overtaken-count c).After-at-end).0

pub slice_bounds-is_overtaken-start : goal.slice_bounds-is_overtaken-start
slice_bounds-is_overtaken-start c = (bounds (goal.at.slice_bounds-is_overtaken-start c).After-at-end).0

pub slice_bounds-is_overtaken-end : goal.slice_bounds-is_overtaken-end
slice_bounds-is_overtaken-end c = (bounds (goal.at.slice_bounds-is_overtaken-end c).After-at-end).1

pub is_overtaken-requires : goal.is_overtaken-requires
is_overtaken-requires c = entries (goal.at.is_overtaken-requires c).After-at-end

pub returns-then-is_overtaken : goal.returns-then-is_overtaken
returns-then-is_overtaken c =
    test_found c.args.check_offset.now c.args.check_var.now
    c.args.order.now c.loop-check.last c.loop-check.check-index _ _ _ _ c.loop-check-test.true
    refl c.at-start.ensures c.at-end.ensures refl c.loop-check.invariant.1 _ c.is_overtaken.ensures
    (entries (goal.at.returns-then-is_overtaken c).After-at-end) c.if-is_overtaken.true
    ∙ c.loop-check.invariant.2

pub slice_bounds-mark-count : goal.slice_bounds-mark-count
slice_bounds-mark-count c = (bounds (goal.at.slice_bounds-mark-count c).After-at-end).0

pub slice_bounds-mark-start : goal.slice_bounds-mark-start
slice_bounds-mark-start c = (bounds (goal.at.slice_bounds-mark-start c).After-at-end).0

pub slice_bounds-mark-end : goal.slice_bounds-mark-end
slice_bounds-mark-end c = (bounds (goal.at.slice_bounds-mark-end c).After-at-end).1

pub mark-requires : goal.mark-requires
mark-requires c = entries (goal.at.mark-requires c).After-at-end

pub loop-check-preserved : goal.loop-check-preserved
loop-check-preserved c = (
  ap length c.mark.ensures ∙ length_marked _ _ _ ∙ c.loop-check.invariant.0,
  test_tells c.args.check_offset.now c.args.check_var.now
      c.args.order.now c.loop-check.last c.loop-check.check-index _ _ _ _ c.loop-check-test.true refl c.at-start.ensures c.at-end.ensures refl
      c.loop-check.invariant.1 _ c.is_overtaken.ensures c.if-is_overtaken.false c.loop-check.invariant.0 _ c.mark.ensures,
  test_goes_on c.args.check_offset.now c.args.check_var.now
      c.args.order.now c.loop-check.last c.loop-check.check-index _ _ _ _ c.loop-check-test.true refl c.at-start.ensures c.at-end.ensures refl
      c.loop-check.invariant.1 _ c.is_overtaken.ensures (entries (goal.at.loop-check-preserved c).After-at-end) c.if-is_overtaken.false ∙ c.loop-check.invariant.2,
)

pub returns : goal.returns
returns c = exchange_done _ _ c.loop-check.check-index c.loop-check-test.false ∙ c.loop-check.invariant.2
