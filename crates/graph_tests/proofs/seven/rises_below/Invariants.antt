-- `graph_tests::seven::rises_below` meets its contract. The invariant: those before x rise, and `least` is one more than the last of them. Assumes nothing.
use mathlib.Core.Bool.{true}
use mathlib.Core.Path.{◌≡◌}
use Rattle.numbers.specs.Loops.{every}
use Rattle.graph_lists.specs.QuickTest.{low, step_good}
use Rattle.graph_tests.proofs.seven.rises_below.Given as goal

abbrev pub invariant-loop-x : goal.invariant-loop-x
invariant-loop-x l = (l.least ≡ low l.xs l.x-index) × (every l.x-index (step_good l.n l.xs) ≡ true)
