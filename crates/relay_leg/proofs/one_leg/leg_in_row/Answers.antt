-- `relay_leg::one_leg::leg_in_row` meets its contract. The leg is the definition's, and so is what it adds.
-- Assumes nothing.
use mathlib.Core.Path.{◌∙◌}
use Rattle.relay_record.specs.Kept.{best_of}
use Rattle.relay_leg.specs.Legs.{shot_by}
use Rattle.relay_leg.proofs.Records.{row_turn, counts_few}
use Rattle.relay_leg.proofs.one_leg.leg_in_row.Goals as goal

pub returns : goal.returns
returns c = record {
  turn = row_turn (shot_by c.args.t c.args.gammas.now c.args.seed c.args.syndrome.now
      c.args.priors.now c.args.checks.now c.args.variables.now c.args.order.now)
      c.args.leg (best_of c.args.tally.best) _
      c.args.tally.num_converged _ c.args.tally.total_iterations _
      c.args.leg_state.now _ c.args.leg_iterations.now _ c.args.leg_weight.now _ _ _
      c.args.correction.now _ _ _ _ _ _ _ _ c.requires.reads.priors_len c.execute_leg-l.ensures.ran c.execute_leg-l.ensures.bits
      (c.execute_leg-l.auto.bits ∙ c.requires.row_len) c.record_leg.ensures.best c.record_leg.ensures.counts c.record_leg.ensures.entries c.record_leg.ensures.row c.record_leg.ensures.correction;
  few = counts_few c.execute_leg-l.result.converged c.execute_leg-l.result.iterations c.args.tally.num_converged _ c.args.tally.total_iterations _ c.record_leg.ensures.counts c.execute_leg-l.ensures.few;
}
