-- `relay_decode::all_legs::run_legs` meets its contract. The invariant: a run is reached of which this is kept and from which the legs left lead to the
-- definition's end; the rows from here on are blank.
-- Assumes nothing.
use mathlib.Core.Path.{ap, ◌∙◌}
use mathlib.Core.Option.{none}
use Prim.Native.Nat.{suc, ◌+◌, ◌*◌}
use native.Mathlib.Omega.{arith}
use Rattle.relay_leg.specs.Legs.{shot_by}
use Rattle.relay_record.specs.Kept.{best_of, kept, Results}
use Rattle.relay_decode.proofs.Runs.{reached_start, run_on, run_fits, run_ended, run_over, blank_start, blank_along}
use Rattle.relay_decode.proofs.all_legs.run_legs.Goals as goal

pub loop-leg-init : goal.loop-leg-init
loop-leg-init c = (
  reached_start
      (shot_by c.args.t c.args.gammas.now c.args.seed c.args.syndrome.now
      c.args.priors.now c.args.checks.now c.args.variables.now c.args.order.now) none 0 0 _ _ _ _ _ _ c.requires.posterior_value,
  blank_start (suc c.args.t.num_legs * c.args.variables.now.rows) _ _
      (ap (λ (z : Results). z.rows) c.requires.posterior_value),
  omega arith,
  omega arith,
)

pub answer-requires : goal.answer-requires
answer-requires c =
    run_fits (shot_by c.args.t c.args.gammas.now c.args.seed c.args.syndrome.now c.args.priors.now c.args.checks.now c.args.variables.now c.args.order.now) _ _ _ _ _ _ _ _ _ c.loop-leg.leg (kept (best_of c.loop-leg.tally.best) c.loop-leg.tally.num_converged c.loop-leg.tally.total_iterations c.loop-leg.leg c.loop-leg.leg_state c.loop-leg.leg_iterations c.loop-leg.leg_weight c.loop-leg.rows c.loop-leg.correction c.loop-leg.posterior) c.loop-leg.invariant.0 (omega (
      arith,
      c.loop-leg-test.true,
    )) c.next_leg-tally.ensures.turn c.args.each c.requires.each_bound

pub returns-then-ends-clause-answer : goal.returns-then-ends-clause-answer
returns-then-ends-clause-answer c = (run_ended (shot_by c.args.t c.args.gammas.now c.args.seed c.args.syndrome.now
    c.args.priors.now c.args.checks.now c.args.variables.now c.args.order.now) _ _ _ _ _ _ _ _ _ c.args.each c.loop-leg.leg
    (kept
    (best_of c.loop-leg.tally.best) c.loop-leg.tally.num_converged
    c.loop-leg.tally.total_iterations c.loop-leg.leg c.loop-leg.leg_state c.loop-leg.leg_iterations c.loop-leg.leg_weight c.loop-leg.rows c.loop-leg.correction c.loop-leg.posterior) c.loop-leg.invariant.0 (omega (
      arith,
      c.loop-leg-test.true,
    )) c.next_leg-tally.ensures.turn _ _ _ (c.next_leg-tally.auto.posterior ∙ c.loop-leg.auto.posterior ∙ c.requires.per_shot.posteriors)
    c.first_not_finite-a.ensures c.ends.ensures c.if-ends.true c.answer.ensures).0

pub returns-then-ends-clause-left : goal.returns-then-ends-clause-left
returns-then-ends-clause-left c = (run_ended (shot_by c.args.t c.args.gammas.now c.args.seed c.args.syndrome.now
    c.args.priors.now c.args.checks.now c.args.variables.now c.args.order.now) _ _ _ _ _ _ _ _ _ c.args.each c.loop-leg.leg
    (kept
    (best_of c.loop-leg.tally.best) c.loop-leg.tally.num_converged
    c.loop-leg.tally.total_iterations c.loop-leg.leg c.loop-leg.leg_state c.loop-leg.leg_iterations c.loop-leg.leg_weight c.loop-leg.rows c.loop-leg.correction c.loop-leg.posterior) c.loop-leg.invariant.0 (omega (
      arith,
      c.loop-leg-test.true,
    )) c.next_leg-tally.ensures.turn _ _ _ (c.next_leg-tally.auto.posterior ∙ c.loop-leg.auto.posterior ∙ c.requires.per_shot.posteriors)
    c.first_not_finite-a.ensures c.ends.ensures c.if-ends.true c.answer.ensures).1

pub loop-leg-preserved : goal.loop-leg-preserved
loop-leg-preserved c = (
  run_on (shot_by c.args.t c.args.gammas.now c.args.seed c.args.syndrome.now
      c.args.priors.now c.args.checks.now c.args.variables.now c.args.order.now) _ _ _ _ _ _ _ _ _ c.loop-leg.leg
      (kept (best_of c.loop-leg.tally.best)
      c.loop-leg.tally.num_converged c.loop-leg.tally.total_iterations
      c.loop-leg.leg c.loop-leg.leg_state c.loop-leg.leg_iterations c.loop-leg.leg_weight
      c.loop-leg.rows c.loop-leg.correction c.loop-leg.posterior) c.loop-leg.invariant.0 (omega
      (arith, c.loop-leg-test.true)) c.next_leg-tally.ensures.turn _ _ (c.next_leg-tally.auto.posterior ∙ c.loop-leg.auto.posterior ∙ c.requires.per_shot.posteriors)
      c.first_not_finite-a.ensures c.ends.ensures c.if-ends.false,
  blank_along _ _ _ c.next_leg-tally.ensures.blank,
  omega (arith, c.next_leg-tally.ensures.few.0, c.loop-leg.invariant.2),
  omega (arith, c.next_leg-tally.ensures.few.1, c.loop-leg.invariant.3),
)

pub returns-clause-answer : goal.returns-clause-answer
returns-clause-answer c = (run_over (shot_by c.args.t c.args.gammas.now c.args.seed c.args.syndrome.now
    c.args.priors.now c.args.checks.now c.args.variables.now c.args.order.now) _ _ _ _ _ _ _ _ _ c.args.each c.loop-leg.leg (c.args.t.num_legs + 1) _ c.loop-leg.invariant.0 (omega (arith, c.loop-leg-test.false))
    (omega (arith, c.loop-leg-test.false)) c.answer_run.ensures).0

pub returns-clause-left : goal.returns-clause-left
returns-clause-left c = (run_over (shot_by c.args.t c.args.gammas.now c.args.seed c.args.syndrome.now
    c.args.priors.now c.args.checks.now c.args.variables.now c.args.order.now) _ _ _ _ _ _ _ _ _ c.args.each c.loop-leg.leg (c.args.t.num_legs + 1) _ c.loop-leg.invariant.0 (omega (arith, c.loop-leg-test.false))
    (omega (arith, c.loop-leg-test.false)) c.answer_run.ensures).1
