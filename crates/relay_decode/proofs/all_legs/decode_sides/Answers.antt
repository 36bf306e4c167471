-- `relay_decode::all_legs::decode_sides` meets its contract. Where the formula fits, the legs are run with it; else nothing is written.
-- Assumes nothing.
use mathlib.Core.Path.{◌∙◌}
use mathlib.Core.List.{[]}
use Rattle.relay_stores.proofs.Squares.{each_same}
use Rattle.relay_leg.specs.Legs.{shot_by}
use Rattle.relay_decode.proofs.Shots.{taken_refused, taken_ran}
use mathlib.Core.Path.{ap}
use mathlib.Core.Bool.{not}
use Rattle.relay_decode.proofs.all_legs.decode_sides.Goals as goal

pub returns-then-not-stores_fit : goal.returns-then-not-stores_fit
returns-then-not-stores_fit c =
    taken_refused (shot_by c.args.t c.args.gammas.now c.args.seed c.args.syndrome.now c.args.priors.now c.args.checks.now c.args.variables.now c.args.order.now) c.args.variables.now.n
    (record {
      leg_state = c.args.leg_state.now;
      leg_iterations = c.args.leg_iterations.now;
      leg_weight = c.args.leg_weight.now;
      rows = c.args.rows.now;
      correction = c.args.correction.now;
      posterior = c.args.posterior.now;
      gamma = c.args.gamma.now;
      bias = c.args.bias.now;
      c_to_v = c.args.c_to_v.now;
      v_to_c = c.args.v_to_c.now;
    }) _ _
    (c.stores_each-each.ensures ∙ each_same c.args.t.schedule c.args.variables.now.rows c.args.checks.now.entries.now c.args.variables.now.entries.now c.args.variables.now.offsets.now 0 c.args.checks.now.rows [] c.args.checks.now.offsets.now [] [])
    c.stores_fit.ensures
    (ap not c.if-not-stores_fit.true)

pub returns : goal.returns
returns c =
    taken_ran (shot_by c.args.t c.args.gammas.now c.args.seed c.args.syndrome.now c.args.priors.now c.args.checks.now c.args.variables.now c.args.order.now) c.args.variables.now.n
    (record {
      leg_state = c.args.leg_state.now;
      leg_iterations = c.args.leg_iterations.now;
      leg_weight = c.args.leg_weight.now;
      rows = c.args.rows.now;
      correction = c.args.correction.now;
      posterior = c.args.posterior.now;
      gamma = c.args.gamma.now;
      bias = c.args.bias.now;
      c_to_v = c.args.c_to_v.now;
      v_to_c = c.args.v_to_c.now;
    }) _ _
    (c.stores_each-each.ensures ∙ each_same c.args.t.schedule c.args.variables.now.rows c.args.checks.now.entries.now c.args.variables.now.entries.now c.args.variables.now.offsets.now 0 c.args.checks.now.rows [] c.args.checks.now.offsets.now
    [] [])
    c.stores_fit.ensures
    _ (ap not c.if-not-stores_fit.false) c.decode_fronts.ensures
