-- `graph_tests::numbers_fault` meets its contract. The invariant: none of the first i numbers is refused. Assumes nothing.
use mathlib.Core.Path.{◌≡◌}
use Rattle.refusals.specs.Tests.{first_of}
use Rattle.std.specs.Prelude.{Ok}
use Rattle.graph_tests.specs.Numbers.{given_fault}
use Rattle.graph_tests.proofs.numbers_fault.Given as goal

abbrev pub invariant-loop-i : goal.invariant-loop-i
invariant-loop-i l = first_of l.i (given_fault l.given l.numbers) ≡ Ok tt
