-- `graph_tests::repeated_in_few` meets its contract. The invariant: d is not among the first j. Assumes nothing.
use mathlib.Core.Bool.{false}
use mathlib.Core.Path.{◌≡◌}
use lib.ListN.{take}
use Rattle.graph_lists.specs.Lists.{has}
use Rattle.graph_tests.proofs.repeated_in_few.Given as goal

abbrev pub invariant-loop-j : goal.invariant-loop-j
invariant-loop-j l = has (take l.j l.ds) l.d ≡ false
