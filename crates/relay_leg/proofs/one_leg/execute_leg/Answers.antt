-- `relay_leg::one_leg::execute_leg` meets its contract. The gammas, the start and the iterations are the definition's; there is some iteration, so that the bits are the hard decision.
-- Assumes nothing.
use mathlib.Core.Path.{ap, ◌∙◌}
use native.Mathlib.Omega.{arith}
use Rattle.relay_gammas.specs.Gammas.{gamma_of}
use Rattle.relay_leg.proofs.Records.{some_limit, limit_few, sets_along, executed_is}
use Rattle.relay_leg.proofs.one_leg.execute_leg.Goals as goal

pub prepare_gamma-requires : goal.prepare_gamma-requires
prepare_gamma-requires c = record {
  leg_le_max_count = omega (arith, c.requires.leg_bound, c.requires.reads.legs_few);
  sets_nonzero = λ h sets e. sets_along _ _ _ _ _ _ _ c.requires.reads c.args.gamma.now _ c.requires.leg_lists.values.gammas c.requires.leg_bound h sets e;
}

pub returns : goal.returns
returns c =
    let x = executed_is c.args.t c.args.gammas.now c.args.seed c.args.syndrome.now c.args.priors.now c.args.checks.now c.args.variables.now c.args.order.now c.args.leg _ _ _ _ c.args.posterior.now _
    (c.prepare_gamma.ensures ∙ ap (λ n. gamma_of c.args.t c.args.gammas.now n c.args.seed c.args.leg)
    c.requires.leg_lists.values.gammas) c.start_leg.ensures c.iteration_limit-limit.ensures c.run_leg.ensures.leg in
    record {
      ran = x.0;
      bits = c.run_leg.ensures.bits (rw c.iteration_limit-limit.ensures (some_limit _ _ _ _ _ _ _ c.requires.reads _ c.requires.leg_bound));
      few = omega (arith, x.1, limit_few _ _ _ _ _ _ _ c.requires.reads c.args.leg);
    }
