-- `relay_decode::all_legs::decode_fronts` meets its contract. The fronts that come back stand before the surplus.
-- Assumes nothing.
use Prim.Native.Nat.{◌+◌, ◌*◌}
use native.Mathlib.Numerals.{add-one}
use Rattle.graph_lists.specs.Messages.{by_place}
use Rattle.relay_calls.specs.Decode.{decode_legs}
use Rattle.relay_leg.specs.Legs.{shot_by}
use Rattle.relay_decode.proofs.Shots.{shot_is, front_tail}
use Rattle.relay_decode.proofs.all_legs.decode_fronts.Goals as goal

pub returns : goal.returns
returns c =
    shot_is (shot_by c.args.t c.args.gammas.now c.args.seed c.args.syndrome.now
    c.args.priors.now c.args.checks.now c.args.variables.now c.args.order.now) c.args.variables.now.n
    (record {
      leg_state = c.args.leg_state.now;
      leg_iterations = c.args.leg_iterations.now;
      leg_weight = c.args.leg_weight.now;
      rows = c.args.rows.now;
      correction = c.args.correction.now;
      posterior = c.args.posterior.now;
      gamma = c.args.gamma.now;
      bias = c.args.bias.now;
      c_to_v = c.args.c_to_v.now;
      v_to_c = c.args.v_to_c.now;
    })
    c.run_shot.new.leg_state c.run_shot.new.leg_iterations
    c.run_shot.new.leg_weight c.run_shot.new.rows _ _ _ _ _ _ _ _ _ _
    c.args.each (decode_legs by_place (shot_by c.args.t c.args.gammas.now c.args.seed c.args.syndrome.now
    c.args.priors.now c.args.checks.now c.args.variables.now c.args.order.now)) _ c.run_shot.ensures.answer c.run_shot.ensures.left (
      front_tail (c.args.t.num_legs + 1) c.args.leg_state.now c.run_shot.new.leg_state
          c.run_shot.auto.leg_state (rw add-one c.requires.legs_fit.of_states),
      front_tail
          (c.args.t.num_legs + 1) c.args.leg_iterations.now c.run_shot.new.leg_iterations
          c.run_shot.auto.leg_iterations (rw add-one c.requires.legs_fit.of_iterations),
      front_tail
          (c.args.t.num_legs + 1) c.args.leg_weight.now c.run_shot.new.leg_weight
          c.run_shot.auto.leg_weight (rw add-one c.requires.legs_fit.of_weights),
      front_tail
          ((c.args.t.num_legs + 1) * c.args.variables.now.rows) c.args.rows.now c.run_shot.new.rows
          c.run_shot.auto.rows (rw add-one c.requires.legs_fit.of_rows),
    ) c.run_shot.ensures.work
