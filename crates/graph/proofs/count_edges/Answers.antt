-- `graph::count_edges` meets its contract. The invariant: `edges` is how many of those before b are not zero. Assumes nothing.
use mathlib.Core.Path.{sym, ◌∙◌}
use native.Mathlib.Omega.{arith}
use Rattle.graph_lists.proofs.Matrix.{count_none}
use Rattle.graph_lists.proofs.MatrixTurns.{count_more, count_same_turn, count_place}
use Rattle.graph.proofs.count_edges.Goals as goal
use Rattle.graph.proofs.count_edges.Goals.{then-b-ne0, else-b-ne0}

pub loop-b-init : goal.loop-b-init
loop-b-init c = sym (count_none c.args.matrix.now)

pub overflow_add-edges : goal.overflow_add-edges
overflow_add-edges c = omega (arith, count_place c.args.matrix.now c.loop-b.b-index c.loop-b.edges (omega arith) c.loop-b.invariant)

pub loop-b-preserved : goal.loop-b-preserved
loop-b-preserved c = elim c.if-b-ne0.branch [
  | then-b-ne0 w ↦ w.edges-is ∙ count_more c.args.matrix.now c.loop-b.b-index c.loop-b.edges c.loop-b-test.true w.if-b-ne0.true c.loop-b.invariant
  | else-b-ne0 w ↦ w.edges-is ∙ count_same_turn c.args.matrix.now c.loop-b.b-index c.loop-b.edges c.loop-b-test.true w.if-b-ne0.false c.loop-b.invariant
]
