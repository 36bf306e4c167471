-- `graph_tests::seven::meets_good` meets its contract. The invariant: the entries before this one are good. Assumes nothing.
use mathlib.Core.Bool.{true}
use mathlib.Core.Path.{◌≡◌}
use lib.ListN.{length}
use Rattle.numbers.specs.Loops.{every}
use Rattle.graph_lists.specs.QuickTest.{entry_good}
use Rattle.graph_tests.proofs.seven.meets_good.Given as goal

abbrev pub invariant-loop-c : goal.invariant-loop-c
invariant-loop-c l = every (length l.yielded) (entry_good l.check_offset l.check_var l.v l.cs l.ms) ≡ true
