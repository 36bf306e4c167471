-- `graph_lists::dense::mark_row` meets its contract. The invariant: up to `place` stand what stood before `start` and the marked of the first m. Assumes nothing.
use mathlib.Core.List.{◌++◌}
use mathlib.Core.Path.{◌≡◌}
use Prim.Native.Nat.{◌+◌}
use lib.ListN.{length, take}
use Rattle.graph_lists.specs.Lists.{passing}
use Rattle.graph_lists.specs.Steps.{nonzero}
use Rattle.graph_lists.proofs.dense.mark_row.Given as goal

abbrev pub invariant-loop-m : goal.invariant-loop-m
invariant-loop-m l = (l.place ≡ l.start + length (passing l.m (nonzero l.bytes))) × (take l.place l.out ≡ take l.start l.initial.out ++ passing l.m (nonzero l.bytes))
