-- `graph_tests::rises` meets its contract. The invariant: no offset up to r is below the one before it. Assumes nothing.
use mathlib.Core.Bool.{true}
use mathlib.Core.Path.{◌≡◌}
use Rattle.numbers.specs.Loops.{every}
use Rattle.graph_lists.specs.Model.{rising}
use Rattle.graph_tests.proofs.rises.Given as goal

abbrev pub invariant-loop-r : goal.invariant-loop-r
invariant-loop-r l = every l.r (rising l.off) ≡ true
