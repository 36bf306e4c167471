-- `relay::decode_in_order` meets its contract. A refused call leaves the lists; else the tests told all that the legs ask, and the legs read no more of the graph than the four lists.
-- Assumes nothing.
use mathlib.Core.Path.{refl}
use Rattle.std.proofs.lemmas.Result.{err_from_is_err_and}
use Rattle.relay_decode.proofs.Faults.{in_order_refused, in_order_told, in_order_ran}
use Rattle.relay.proofs.decode_in_order.Goals as goal

pub decode_taken-requires : goal.decode_taken-requires
decode_taken-requires c =
    let w = in_order_told c.args.size.edges c.args.size.checks c.args.size.mechanisms c.args.settings c.args.gammas.now c.args.seed c.args.syndrome.now c.args.priors.now
    c.args.check_var.now c.args.check_offset.now c.args.var_check.now c.args.var_message.now c.args.var_offset.now c.args.order.now
    (record {
      leg_state = c.args.leg_state.now;
      leg_iterations = c.args.leg_iterations.now;
      leg_weight = c.args.leg_weight.now;
      rows = c.args.rows.now;
      correction = c.args.correction.now;
      posterior = c.args.posterior.now;
      gamma = c.args.gamma.now;
      bias = c.args.bias.now;
      c_to_v = c.args.c_to_v.now;
      v_to_c = c.args.v_to_c.now;
    }) _
    c.in_ok-taken_fault.ensures refl in
    record {
      reads = w.reads;
      legs_fit = w.legs_fit_lem;
      per_shot = w.work_fits;
      per_edge = w.messages_fit;
      check_var_len_bound = w.edges_few;
    }

pub returns-in_err-taken_fault : goal.returns-in_err-taken_fault
returns-in_err-taken_fault c =
    let p = err_from_is_err_and c.from_residual.result c.from_residual.ensures.1 in
    rw (p.1, p.2) (in_order_refused c.args.size.edges c.args.size.checks c.args.size.mechanisms
    c.args.settings c.args.gammas.now c.args.seed c.args.syndrome.now
    c.args.priors.now c.args.check_var.now
    c.args.check_offset.now c.args.var_check.now c.args.var_message.now
    c.args.var_offset.now c.args.order.now (record {
      leg_state = c.args.leg_state.now;
      leg_iterations = c.args.leg_iterations.now;
      leg_weight = c.args.leg_weight.now;
      rows = c.args.rows.now;
      correction = c.args.correction.now;
      posterior = c.args.posterior.now;
      gamma = c.args.gamma.now;
      bias = c.args.bias.now;
      c_to_v = c.args.c_to_v.now;
      v_to_c = c.args.v_to_c.now;
    }) _ _ c.in_err-taken_fault.ensures refl)

pub returns : goal.returns
returns c =
    in_order_ran c.args.size.edges c.args.size.checks c.args.size.mechanisms
    c.args.settings c.args.gammas.now c.args.seed c.args.syndrome.now
    c.args.priors.now c.args.check_var.now
    c.args.check_offset.now c.args.var_check.now c.args.var_message.now
    c.args.var_offset.now c.args.order.now (record {
      leg_state = c.args.leg_state.now;
      leg_iterations = c.args.leg_iterations.now;
      leg_weight = c.args.leg_weight.now;
      rows = c.args.rows.now;
      correction = c.args.correction.now;
      posterior = c.args.posterior.now;
      gamma = c.args.gamma.now;
      bias = c.args.bias.now;
      c_to_v = c.args.c_to_v.now;
      v_to_c = c.args.v_to_c.now;
    }) _ _ c.in_ok-taken_fault.ensures refl
    c.decode_taken.ensures
