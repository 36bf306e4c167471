-- `relay_step::leg::run_leg` meets its contract. The invariant: what is left of the limit, from here, is the whole leg; and after an iteration the bits are the hard decision.
-- Assumes nothing.
use mathlib.Core.Path.{◌≡◌}
use mathlib.Core.Bool.{false}
use Prim.Native.Nat.{◌<◌, ◌-◌}
use Rattle.graph_lists.specs.Messages.{by_place}
use Rattle.graph_messages.specs.Sides.{sides, checks_alone}
use Rattle.relay_step.specs.Step.{state, iteration}
use Rattle.relay_step.specs.Leg.{hard_decision, satisfied, run_leg}
use Rattle.relay_step.proofs.leg.run_leg.Given as goal

abbrev pub invariant-loop-k : goal.invariant-loop-k
invariant-loop-k l =
    (run_leg (iteration l.schedule by_place (sides l.checks l.variables) l.alpha l.clip l.syndrome l.priors l.gamma l.order)
    (satisfied (checks_alone l.checks) l.syndrome) (l.limit - l.k) false l.k (state l.c_to_v l.v_to_c l.posterior)
    ≡ run_leg (iteration l.schedule by_place (sides l.checks l.variables) l.alpha l.clip l.syndrome l.priors l.gamma l.order)
    (satisfied (checks_alone l.checks) l.syndrome) l.limit false 0 (state l.initial.c_to_v l.initial.v_to_c l.initial.posterior))
    × (0 < l.k → l.bits ≡ hard_decision l.posterior)
