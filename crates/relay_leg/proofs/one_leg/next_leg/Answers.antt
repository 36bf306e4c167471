-- `relay_leg::one_leg::next_leg` meets its contract. The row that comes back stands where it was lent; a blank row over a blank row leaves the rows, and those after it are still blank.
-- Assumes nothing.
use mathlib.Core.Path.{refl, ◌∙◌}
use Prim.Native.Nat.{◌+◌, ◌*◌}
use native.Mathlib.Omega.{arith}
use borrow.Rule.Slice.PartMut.{Post-is, mid_len}
use Rattle.relay_record.specs.Kept.{best_of}
use Rattle.relay_leg.specs.Legs.{shot_by}
use Rattle.relay_leg.proofs.Records.{row_within, blank_after, rows_turn}
use Rattle.relay_leg.proofs.one_leg.next_leg.Goals as goal

pub returns : goal.returns
returns c =
    let m = c.args.variables.now.rows in
    let w = row_within _ _ _ _ _ _ _ c.requires.reads c.args.rows.now c.args.leg c.requires.legs_long.of_rows c.requires.leg_bound.0 in
    let d = Post-is (c.args.leg * m) (c.args.leg * m + m) c.args.rows.now (omega arith) in
    let k = mid_len (c.args.leg * m) (c.args.leg * m + m) c.args.rows.now w in
    record {
      turn = rows_turn c.args.rows.now m c.args.leg c.requires.blank_2 w (shot_by c.args.t
          c.args.gammas.now c.args.seed c.args.syndrome.now c.args.priors.now c.args.checks.now c.args.variables.now c.args.order.now) refl (best_of c.args.tally.best) _
          c.args.tally.num_converged _ c.args.tally.total_iterations _
          c.args.leg_state.now _ c.args.leg_iterations.now _ c.args.leg_weight.now _ _ _ c.args.correction.now _ c.args.posterior.now _ _ c.leg_in_row.ensures.turn d;
      blank = blank_after c.args.rows.now m c.args.leg c.requires.blank_2 w c.leg_in_row.new.row _
          (c.leg_in_row.auto.row ∙ k ∙ omega arith) d;
      few = c.leg_in_row.ensures.few;
    }
