-- `graph_lists::dense::mark_rows` meets its contract. The invariant: up to `place` stand the entries of the first c checks, and their offsets are written. Assumes nothing.
use mathlib.Core.Path.{◌≡◌}
use Prim.Native.Nat.{ℕ, ◌*◌, ◌+◌, ◌<◌}
use lib.ListN.{get_or, take}
use Rattle.graph_lists.specs.Graph.{mechanisms_of, marked}
use Rattle.graph_lists.specs.Lists.{joined, start}
use Rattle.graph_lists.proofs.dense.mark_rows.Given as goal

abbrev pub invariant-loop-c : goal.invariant-loop-c
invariant-loop-c l = (l.base ≡ l.c * l.mechanisms)
    × (l.place ≡ start (mechanisms_of l.mechanisms (marked l.mechanisms l.matrix)) l.c)
    × (take l.place l.check_var ≡ joined l.c (mechanisms_of l.mechanisms (marked l.mechanisms l.matrix)))
    × ((k : ℕ) → k < l.c + 1 → get_or l.check_offset k 0 ≡ start (mechanisms_of l.mechanisms (marked l.mechanisms l.matrix)) k)
