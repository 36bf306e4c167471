-- `graph_lists::dense::mark_row` meets its contract. The invariant: up to `place` stand what stood before `start` and the marked of the first m. Assumes nothing.
use mathlib.Core.List.{append-nil}
use mathlib.Core.Path.{◌≡◌, sym}
use native.Mathlib.Omega.{arith}
use lib.ListN.{length}
use Rattle.graph_lists.specs.Lists.{passing}
use Rattle.graph_lists.specs.Steps.{marks}
use Rattle.graph_lists.proofs.MatrixTurns.{row_turn_room, row_turn}
use Rattle.graph_lists.proofs.dense.mark_row.Goals as goal

pub loop-m-init : goal.loop-m-init
unfolding passing
loop-m-init c = (omega arith, sym (append-nil _))

pub mark-place-requires : goal.mark-place-requires
mark-place-requires c =
    (row_turn_room c.args.bytes.now c.args.start c.loop-m.m c.loop-m.place _ c.loop-m-test.true c.loop-m.invariant.0 (omega arith), omega arith)

pub loop-m-preserved : goal.loop-m-preserved
loop-m-preserved c = row_turn c.args.bytes.now _ c.loop-m.out _ c.args.start c.loop-m.m c.loop-m.place _ c.loop-m.invariant.0 c.loop-m.invariant.1 c.mark-place.ensures.0 c.mark-place.ensures.1

pub returns : goal.returns
unfolding marks
returns c =
    let e : c.loop-m.m ≡ length c.args.bytes.now = omega arith in
    (rw e at c.loop-m.invariant.0, rw e at c.loop-m.invariant.1)
