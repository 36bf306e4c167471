-- `relay_step::leg::correction_weight` meets its contract. The invariant: the weight is that of the variables passed.
-- Assumes nothing.
use mathlib.Core.Path.{◌≡◌}
use lib.ListN.{length}
use Rattle.relay_step.specs.Leg.{correction_weight}
use Rattle.relay_step.proofs.leg.correction_weight.Given as goal

abbrev pub invariant-loop-prior : goal.invariant-loop-prior
invariant-loop-prior l = l.weight ≡ correction_weight l.priors l.bits (length l.yielded)
