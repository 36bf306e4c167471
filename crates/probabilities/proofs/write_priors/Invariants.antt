-- `probabilities::write_priors` meets its contract. The invariant: the first m are written in both lists. Assumes nothing.
use Rattle.std.proofs.Common.{◌≡◌, map, length, take}
use Rattle.probabilities.specs.Scaled.{scaled_of, prior_of}
use Rattle.probabilities.proofs.write_priors.Given as goal

abbrev pub invariant-loop-m : goal.invariant-loop-m
invariant-loop-m l = (length l.priors ≡ length l.probabilities)
    × (length l.scaled ≡ length l.probabilities)
    × (take l.m l.priors ≡ map prior_of (take l.m l.probabilities))
    × (take l.m l.scaled ≡ map scaled_of (take l.m l.probabilities))
