-- `graph_tests::repeated_in_many` meets its contract. The invariant: whether d is among the first k. Assumes nothing.
use mathlib.Core.Path.{◌≡◌}
use lib.ListN.{take}
use Rattle.graph_lists.specs.Lists.{has}
use Rattle.graph_tests.proofs.repeated_in_many.Given as goal

abbrev pub invariant-loop-k : goal.invariant-loop-k
invariant-loop-k l = l.found ≡ has (take l.k l.ds) l.d
