-- The legs of a decode one by one, as the theorems about their records name them. Definitions only. Assumes nothing.
use Rattle.std.specs.Prelude.{ℕ, zero, suc}
use Rattle.graph_lists.specs.Messages.{by_place}
use Rattle.relay_calls.specs.declared.LegRecord.{LegRecord}
use Rattle.relay_step.specs.Leg.{Leg, hard_decision, correction_weight}
use Rattle.relay_calls.specs.Records.{record_of_leg}
use Rattle.relay_calls.specs.Decode.{Shot, Run, start_run, recorded, executed_leg}

-- the run after the first r legs
unfoldable pub run_after : Shot → ℕ → Run
run_after x zero = start_run x
run_after x (suc r) = let before = run_after x r in recorded x before r (executed_leg by_place x r before.posterior)

-- the leg r, from the posterior that the legs before it left
unfoldable pub leg_at : Shot → ℕ → Leg
leg_at x r = executed_leg by_place x r (run_after x r).posterior

-- its record: converged with the weight of its hard decision, or ran out
unfoldable pub record_at : Shot → ℕ → LegRecord
record_at x r =
    let l = leg_at x r in
    record_of_leg l.converged (correction_weight x.prior (hard_decision l.left.posterior) x.graph.mechanisms) l.iterations
