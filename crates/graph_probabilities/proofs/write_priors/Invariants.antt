-- `graph_probabilities::write_priors` meets its contract. The invariant: the priors passed are those of the probabilities passed. Assumes nothing.
use mathlib.Core.List.{map}
use mathlib.Core.Path.{◌≡◌}
use lib.ListN.{take}
use Rattle.probabilities.specs.Scaled.{prior_of}
use Rattle.graph_probabilities.proofs.write_priors.Given as goal

abbrev pub invariant-loop-m : goal.invariant-loop-m
invariant-loop-m l = take l.m l.priors ≡ map prior_of (take l.m l.probabilities)
