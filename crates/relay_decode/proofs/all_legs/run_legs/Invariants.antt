-- `relay_decode::all_legs::run_legs` meets its contract. The invariant: a run is reached of which this is kept and from which the legs left lead to the
-- definition's end; the rows from here on are blank.
-- Assumes nothing.
use Prim.Native.Nat.{◌*◌, ◌≤◌}
use Rattle.relay_leg.specs.Legs.{shot_by}
use Rattle.relay_record.specs.Kept.{best_of, kept, Blank}
use Rattle.relay_decode.proofs.Runs.{Reached}
use Rattle.relay_decode.proofs.all_legs.run_legs.Given as goal

abbrev pub invariant-loop-leg : goal.invariant-loop-leg
invariant-loop-leg l =
    Reached (shot_by l.t l.gammas l.seed l.syndrome l.priors l.checks l.variables l.order) l.leg (kept (best_of l.tally.best)
    l.tally.num_converged l.tally.total_iterations l.leg l.leg_state l.leg_iterations l.leg_weight l.rows l.correction l.posterior)
    × Blank (l.leg * l.variables.rows) l.rows × (l.tally.num_converged ≤ l.leg) × (l.tally.total_iterations ≤ l.leg * 65535)
