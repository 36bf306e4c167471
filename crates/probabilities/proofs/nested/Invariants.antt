-- `probabilities::nested` meets its contract. Behind n turns the sum is that of the last n terms. Assumes nothing.
use Rattle.std.proofs.Common.{◌≡◌, ◌-◌}
use Rattle.probabilities.specs.Logarithm.{terms}
use Rattle.probabilities.specs.Scaled.{nested}
use Rattle.probabilities.proofs.nested.Given as goal

abbrev pub invariant-loop-j : goal.invariant-loop-j
invariant-loop-j l = l.sum ≡ nested (terms - l.j) l.j l.u
