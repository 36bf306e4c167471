-- `graph_tests::rises_to` meets its contract. The invariant: ds rises up to r. Assumes nothing.
use Prim.Native.Nat.{ℕ, suc, ◌<◌}
use lib.ListN.{get_or}
use Rattle.graph_tests.proofs.rises_to.Given as goal

abbrev pub invariant-loop-r : goal.invariant-loop-r
invariant-loop-r l = (i : ℕ) → i < l.r → get_or l.ds i 0 < get_or l.ds (suc i) 0
