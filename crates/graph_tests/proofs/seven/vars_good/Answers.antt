-- `graph_tests::seven::vars_good` meets its contract. The invariant: the first v variables are good; a variable's part lies within the entries, which the offsets cut. Assumes nothing.
use mathlib.Core.Path.{◌≡◌}
use Prim.Native.Nat.{◌≤◌}
use native.Mathlib.Omega.{arith}
use lib.ListN.{length}
use Rattle.numbers.proofs.Cases.{every_refuse, every_go}
use Rattle.graph_lists.specs.Graph.{graph}
use Rattle.graph_lists.specs.QuickTest.{var_good}
use Rattle.graph_lists.proofs.Cuts.{cut_bounds}
use Rattle.graph_lists.proofs.QuickTurns.{var_is}
use mathlib.Core.Path.{ap}
use mathlib.Core.Bool.{not}
use Rattle.graph_tests.proofs.seven.vars_good.Goals as goal
use Rattle.graph_tests.proofs.seven.vars_good.Goals.{After-at-end, After-entries_good}

-- what a turn tests
here : (c : After-entries_good) → c.entries_good.result ≡ (var_good (graph c.args.checks c.args.mechanisms c.args.check_var.now c.args.check_offset.now c.args.var_check.now c.args.var_message.now c.args.var_offset.now)) c.loop-v.v
here c =
    var_is (graph c.args.checks c.args.mechanisms c.args.check_var.now
    c.args.check_offset.now c.args.var_check.now c.args.var_message.now
    c.args.var_offset.now) c.loop-v.v _ _ _
    c.at-start.ensures c.at-end.ensures c.entries_good.ensures

-- a variable's part lies within the entries
bounds : (c : After-at-end) → (c.at-start.result ≤ c.at-end.result) ×
    (c.at-end.result ≤ length c.args.var_check.now)
bounds c = cut_bounds _ _ _ c.loop-v.v _ _ c.requires.offsets_2 c.loop-v-test.true c.at-start.ensures c.at-end.ensures

pub slice_bounds-entries_good-end : goal.slice_bounds-entries_good-end
slice_bounds-entries_good-end c = (bounds (goal.at.slice_bounds-entries_good-end c).After-at-end).1

pub slice_bounds-entries_good-end-in-loop-v : goal.slice_bounds-entries_good-end-in-loop-v
slice_bounds-entries_good-end-in-loop-v c = omega (arith, bounds (goal.at.slice_bounds-entries_good-end-in-loop-v c).After-at-end)

pub returns-then-not-entries_good : goal.returns-then-not-entries_good
returns-then-not-entries_good c = every_refuse (var_good (graph c.args.checks c.args.mechanisms c.args.check_var.now c.args.check_offset.now c.args.var_check.now c.args.var_message.now c.args.var_offset.now))
    c.loop-v.v _ _
    c.loop-v-test.true (here (goal.at.returns-then-not-entries_good c).After-entries_good) (ap not c.if-not-entries_good.true)

pub loop-v-preserved : goal.loop-v-preserved
loop-v-preserved c =
    every_go (var_good (graph c.args.checks c.args.mechanisms c.args.check_var.now c.args.check_offset.now c.args.var_check.now c.args.var_message.now c.args.var_offset.now))
    c.loop-v.v _
    c.loop-v.invariant (here (goal.at.loop-v-preserved c).After-entries_good) (ap not c.if-not-entries_good.false)
