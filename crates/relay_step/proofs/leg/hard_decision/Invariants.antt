-- `relay_step::leg::hard_decision` meets its contract. The invariant: the bits passed are decided.
-- Assumes nothing.
use mathlib.Core.Path.{◌≡◌}
use mathlib.Core.List.{map}
use lib.ListN.{take}
use Rattle.relay_step.specs.Leg.{hard_bit}
use Rattle.relay_step.proofs.leg.hard_decision.Given as goal

abbrev pub invariant-loop-v : goal.invariant-loop-v
invariant-loop-v l = take l.v l.bits ≡ map hard_bit (take l.v l.posterior)
