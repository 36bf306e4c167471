-- `probabilities::probabilities_fault` meets its contract. The invariant: none of the first m is refused. Assumes nothing.
use Rattle.std.proofs.Common.{◌≡◌}
use Rattle.std.specs.Prelude.{Ok}
use Rattle.refusals.specs.Tests.{first_of}
use Rattle.probabilities.specs.Calls.{probability_fault}
use Rattle.probabilities.proofs.probabilities_fault.Given as goal

abbrev pub invariant-loop-m : goal.invariant-loop-m
invariant-loop-m l = first_of l.m (probability_fault l.probabilities) ≡ Ok tt
