-- `graph_tests::seven::checks_good` meets its contract. The invariant: the first c checks are good; a check's part lies within the entries, which the offsets cut. Assumes nothing.
use mathlib.Core.Path.{◌≡◌}
use Prim.Native.Nat.{◌≤◌}
use lib.ListN.{length}
use Rattle.numbers.proofs.Cases.{every_refuse, every_go}
use Rattle.graph_lists.specs.QuickTest.{check_good}
use Rattle.graph_lists.proofs.Cuts.{cut_bounds}
use Rattle.graph_lists.proofs.QuickTurns.{check_is}
use mathlib.Core.Path.{ap}
use mathlib.Core.Bool.{not}
use Rattle.graph_tests.proofs.seven.checks_good.Goals as goal
use Rattle.graph_tests.proofs.seven.checks_good.Goals.{After-at-end, After-rises_below}

-- what a turn tests
here : (c : After-rises_below) → c.rises_below.result ≡ (check_good c.args.mechanisms c.args.check_offset.now c.args.check_var.now) c.loop-c.c
here c = check_is _ _ _ c.loop-c.c _ _ _ c.at-start.ensures c.at-end.ensures c.rises_below.ensures

-- a check's part lies within the entries
bounds : (c : After-at-end) → (c.at-start.result ≤ c.at-end.result) × (c.at-end.result ≤ length c.args.check_var.now)
bounds c = cut_bounds _ _ _ c.loop-c.c _ _
    c.requires c.loop-c-test.true c.at-start.ensures c.at-end.ensures

pub slice_bounds-rises_below-end : goal.slice_bounds-rises_below-end
slice_bounds-rises_below-end c = (bounds (goal.at.slice_bounds-rises_below-end c).After-at-end).1

pub returns-then-not-rises_below : goal.returns-then-not-rises_below
returns-then-not-rises_below c = every_refuse (check_good c.args.mechanisms c.args.check_offset.now c.args.check_var.now)
    c.loop-c.c _ _
    c.loop-c-test.true (here (goal.at.returns-then-not-rises_below c).After-rises_below) (ap not c.if-not-rises_below.true)

pub loop-c-preserved : goal.loop-c-preserved
loop-c-preserved c =
    every_go (check_good c.args.mechanisms c.args.check_offset.now c.args.check_var.now) c.loop-c.c _
    c.loop-c.invariant (here (goal.at.loop-c-preserved c).After-rises_below) (ap not c.if-not-rises_below.false)
