-- `graph_tests::seven::checks_good` meets its contract. The invariant: the first c checks are good; a check's part lies within the entries, which the offsets cut. Assumes nothing.
use mathlib.Core.Bool.{true}
use mathlib.Core.Path.{◌≡◌}
use Rattle.numbers.specs.Loops.{every}
use Rattle.graph_lists.specs.QuickTest.{check_good}
use Rattle.graph_tests.proofs.seven.checks_good.Given as goal

abbrev pub invariant-loop-c : goal.invariant-loop-c
invariant-loop-c l = every l.c (check_good l.mechanisms l.check_offset l.check_var) ≡ true
