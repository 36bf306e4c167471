-- `relay_step::leg::run_leg` meets its contract. The invariant: what is left of the limit, from here, is the whole leg; and after an iteration the bits are the hard decision.
-- Assumes nothing.
use mathlib.Core.Path.{sym, ◌∙◌}
use mathlib.Core.Bool.{Bool}
use mathlib.Core.List.{List}
use Prim.Native.Nat.{◌+◌, ◌-◌}
use lib.Ieee.{Float}
use Rattle.graph_lists.specs.Messages.{by_place}
use Rattle.graph_messages.specs.Sides.{sides, checks_alone}
use Rattle.relay_step.specs.Step.{State, state, iteration}
use Rattle.relay_step.specs.Leg.{satisfied}
use Rattle.relay_step.proofs.Legs.{leg_turn, leg_passed}
use Rattle.relay_step.proofs.leg.run_leg.Goals as goal

pub returns-then-satisfied-clause-leg : goal.returns-then-satisfied-clause-leg
returns-then-satisfied-clause-leg c =
    let one : State → State = iteration c.args.schedule by_place (sides c.args.checks.now c.args.variables.now) c.args.alpha c.args.clip c.args.syndrome.now c.args.priors.now c.args.gamma.now c.args.order.now in
    let test : List Float → Bool = satisfied (checks_alone c.args.checks.now) c.args.syndrome.now in
    sym (leg_passed one test _ (c.args.limit - (c.loop-k.k + 1)) _)
    ∙ sym (leg_turn one test (state c.loop-k.c_to_v c.loop-k.v_to_c c.loop-k.posterior) _ _ c.loop-k.k _ c.loop-k-test.true c.step.ensures (sym c.if-satisfied.true ∙ c.satisfied.ensures.test))
    ∙ c.loop-k.invariant.0

pub loop-k-preserved : goal.loop-k-preserved
loop-k-preserved c =
    let one : State → State = iteration c.args.schedule by_place (sides c.args.checks.now c.args.variables.now) c.args.alpha c.args.clip c.args.syndrome.now c.args.priors.now c.args.gamma.now c.args.order.now in
    let test : List Float → Bool = satisfied (checks_alone c.args.checks.now) c.args.syndrome.now in (
      sym (leg_turn one test (state c.loop-k.c_to_v c.loop-k.v_to_c c.loop-k.posterior) _ _ c.loop-k.k _ c.loop-k-test.true c.step.ensures (sym c.if-satisfied.false ∙ c.satisfied.ensures.test))
          ∙ c.loop-k.invariant.0,
      λ h. c.satisfied.ensures.bits,
    )
