-- `graph::count_edges` meets its contract. The invariant: `edges` is how many of those before b are not zero. Assumes nothing.
use mathlib.Core.Path.{◌≡◌}
use lib.ListN.{take}
use Rattle.graph_lists.specs.Model.{count_edges}
use Rattle.graph.proofs.count_edges.Given as goal

abbrev pub invariant-loop-b : goal.invariant-loop-b
invariant-loop-b l = l.edges ≡ count_edges (take l.b-index l.matrix)
