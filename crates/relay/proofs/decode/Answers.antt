-- `relay::decode` meets its contract. A refused call leaves the lists; else the tests told all that the legs ask, and the index order passes 23 and 24.
-- Assumes nothing.
use mathlib.Core.Path.{refl}
use Rattle.std.proofs.lemmas.Result.{err_from_is_err_and}
use native.Mathlib.Omega.{arith}
use Rattle.relay_decode.proofs.Faults.{index_refused, index_told, index_ran}
use Rattle.relay.proofs.decode.Goals as goal

pub decode_counted-requires : goal.decode_counted-requires
decode_counted-requires c =
    let w = index_told c.args.size.edges c.args.size.checks c.args.size.mechanisms
    c.args.settings c.args.gammas.now c.args.seed c.args.syndrome.now
    c.args.priors.now c.args.check_var.now c.args.check_offset.now c.args.var_check.now c.args.var_message.now c.args.var_offset.now
    (record {
      leg_state = c.args.leg_state.now;
      leg_iterations = c.args.leg_iterations.now;
      leg_weight = c.args.leg_weight.now;
      rows = c.args.rows.now;
      correction = c.args.correction.now;
      posterior = c.args.posterior.now;
      gamma = c.args.gamma.now;
      bias = c.args.bias.now;
      c_to_v = c.args.c_to_v.now;
      v_to_c = c.args.v_to_c.now;
    }) _
    c.in_ok-shot_fault.ensures refl in
    record {
      syndrome_len_bound = omega (arith, w.checks_many, w.checks_few);
      reads = w.reads;
      legs_fit = w.legs_fit_lem;
      per_shot = w.work_fits;
      per_edge = w.messages_fit;
      check_var_len_bound = w.edges_few;
    }

pub returns-in_err-shot_fault : goal.returns-in_err-shot_fault
returns-in_err-shot_fault c =
    let p = err_from_is_err_and c.from_residual.result c.from_residual.ensures.1 in
    rw (p.1, p.2) (index_refused c.args.size.edges c.args.size.checks c.args.size.mechanisms
    c.args.settings c.args.gammas.now c.args.seed c.args.syndrome.now
    c.args.priors.now c.args.check_var.now c.args.check_offset.now c.args.var_check.now c.args.var_message.now c.args.var_offset.now
    (record {
      leg_state = c.args.leg_state.now;
      leg_iterations = c.args.leg_iterations.now;
      leg_weight = c.args.leg_weight.now;
      rows = c.args.rows.now;
      correction = c.args.correction.now;
      posterior = c.args.posterior.now;
      gamma = c.args.gamma.now;
      bias = c.args.bias.now;
      c_to_v = c.args.c_to_v.now;
      v_to_c = c.args.v_to_c.now;
    }) _ _
    c.in_err-shot_fault.ensures refl)

pub returns : goal.returns
returns c =
    index_ran c.args.size.edges c.args.size.checks c.args.size.mechanisms
    c.args.settings c.args.gammas.now c.args.seed c.args.syndrome.now
    c.args.priors.now c.args.check_var.now c.args.check_offset.now c.args.var_check.now c.args.var_message.now c.args.var_offset.now
    (record {
      leg_state = c.args.leg_state.now;
      leg_iterations = c.args.leg_iterations.now;
      leg_weight = c.args.leg_weight.now;
      rows = c.args.rows.now;
      correction = c.args.correction.now;
      posterior = c.args.posterior.now;
      gamma = c.args.gamma.now;
      bias = c.args.bias.now;
      c_to_v = c.args.c_to_v.now;
      v_to_c = c.args.v_to_c.now;
    }) _ _
    c.in_ok-shot_fault.ensures refl
    c.decode_counted.ensures
