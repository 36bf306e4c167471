-- `graph_tests::seven::vars_good` meets its contract. The invariant: the first v variables are good; a variable's part lies within the entries, which the offsets cut. Assumes nothing.
use mathlib.Core.Bool.{true}
use mathlib.Core.Path.{◌≡◌}
use Rattle.numbers.specs.Loops.{every}
use Rattle.graph_lists.specs.Graph.{graph}
use Rattle.graph_lists.specs.QuickTest.{var_good}
use Rattle.graph_tests.proofs.seven.vars_good.Given as goal

abbrev pub invariant-loop-v : goal.invariant-loop-v
invariant-loop-v l = every l.v (var_good (graph l.checks l.mechanisms l.check_var l.check_offset l.var_check l.var_message l.var_offset)) ≡ true
