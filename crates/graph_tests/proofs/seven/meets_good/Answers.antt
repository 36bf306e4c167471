-- `graph_tests::seven::meets_good` meets its contract. The invariant: the entries before this one are good. Assumes nothing.
use mathlib.Core.Bool.{not}
use mathlib.Core.Path.{◌≡◌, ap}
use Prim.Native.Nat.{◌<◌}
use lib.ListN.{length, length-append}
use Rattle.std.proofs.lemmas.Slice.Zip.{zip_turn}
use Rattle.numbers.proofs.Cases.{every_refuse, every_go}
use Rattle.graph_lists.specs.QuickTest.{entry_good}
use Rattle.graph_lists.proofs.QuickTurns.{entry_is}
use Rattle.graph_tests.proofs.seven.meets_good.Goals as goal
use Rattle.graph_tests.proofs.seven.meets_good.Goals.{After-met_good}

-- what a turn tests
turn : (c : After-met_good) → (length c.loop-c.yielded < length c.args.cs.now)
    × (c.met_good.result ≡ entry_good c.args.check_offset.now c.args.check_var.now c.args.v c.args.cs.now c.args.ms.now (length c.loop-c.yielded))
turn c =
    let at = zip_turn c.args.cs.now c.args.ms.now _ c.into_iter-c-iterator.result c.loop-c.c-iterator c.next.new.self _ (cc) (cc) c.loop-c.yielded_by _ c.in-Some.is c.next.ensures.steps in
    (at.0, entry_is _ _ _ _ _ (length c.loop-c.yielded) _ _ _ (at.2 0) (at.3 0) c.met_good.ensures)

pub returns-then-not-met_good : goal.returns-then-not-met_good
returns-then-not-met_good c =
    let t = turn (goal.at.returns-then-not-met_good c).After-met_good in
    every_refuse (entry_good c.args.check_offset.now c.args.check_var.now c.args.v c.args.cs.now c.args.ms.now) (length c.loop-c.yielded) _ _ t.0 t.1 (ap not c.if-not-met_good.true)

pub loop-c-preserved : goal.loop-c-preserved
loop-c-preserved c =
    let t = turn (goal.at.loop-c-preserved c).After-met_good in
    rw length-append
    (every_go (entry_good c.args.check_offset.now c.args.check_var.now c.args.v c.args.cs.now c.args.ms.now) (length c.loop-c.yielded) _ c.loop-c.invariant t.1
    (ap not c.if-not-met_good.false))
