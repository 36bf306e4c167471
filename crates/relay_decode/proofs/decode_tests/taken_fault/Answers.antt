-- `relay_decode::decode_tests::taken_fault` meets its contract. The tests of both calls, then 23 and 24; these see no more of the graph than its checks.
-- Assumes nothing.
use Rattle.std.proofs.lemmas.Result.{err_from_is_err_and}
use Rattle.relay_decode.proofs.Faults.{order_asks, fault_before, fault_after}
use Rattle.relay_decode.proofs.decode_tests.taken_fault.Goals as goal

pub returns-in_err-shot_fault : goal.returns-in_err-shot_fault
returns-in_err-shot_fault c = let p = err_from_is_err_and c.from_residual.result c.from_residual.ensures.1 in rw (p.1, p.2) (fault_before
    c.args.size.edges c.args.size.checks c.args.size.mechanisms c.args.t c.args.gammas.now c.args.seed
    c.args.syndrome.now c.args.priors.now c.args.check_var.now
    c.args.check_offset.now c.args.var_check.now c.args.var_message.now c.args.var_offset.now
    c.args.order.now (record {
      leg_state = c.args.leg_state.now;
      leg_iterations = c.args.leg_iterations.now;
      leg_weight = c.args.leg_weight.now;
      rows = c.args.rows.now;
      correction = c.args.correction.now;
      posterior = c.args.posterior.now;
      gamma = c.args.gamma.now;
      bias = c.args.bias.now;
      c_to_v = c.args.c_to_v.now;
      v_to_c = c.args.v_to_c.now;
    })
    _ c.in_err-shot_fault.ensures)

pub order_fault-requires : goal.order_fault-requires
order_fault-requires c =
    let asked = order_asks
    c.args.size.edges c.args.size.checks c.args.size.mechanisms c.args.t c.args.gammas.now c.args.seed
    c.args.syndrome.now c.args.priors.now c.args.check_var.now
    c.args.check_offset.now c.args.var_check.now c.args.var_message.now c.args.var_offset.now
    c.args.order.now (record {
      leg_state = c.args.leg_state.now;
      leg_iterations = c.args.leg_iterations.now;
      leg_weight = c.args.leg_weight.now;
      rows = c.args.rows.now;
      correction = c.args.correction.now;
      posterior = c.args.posterior.now;
      gamma = c.args.gamma.now;
      bias = c.args.bias.now;
      c_to_v = c.args.c_to_v.now;
      v_to_c = c.args.v_to_c.now;
    })
    c.in_ok-shot_fault.ensures in
    record {
      checks_le_max_checks = asked.0;
      offsets = asked.1.0;
      keys = asked.1.1;
    }

pub returns : goal.returns
returns c = fault_after
    c.args.size.edges c.args.size.checks c.args.size.mechanisms c.args.t c.args.gammas.now c.args.seed
    c.args.syndrome.now c.args.priors.now c.args.check_var.now
    c.args.check_offset.now c.args.var_check.now c.args.var_message.now c.args.var_offset.now
    c.args.order.now (record {
      leg_state = c.args.leg_state.now;
      leg_iterations = c.args.leg_iterations.now;
      leg_weight = c.args.leg_weight.now;
      rows = c.args.rows.now;
      correction = c.args.correction.now;
      posterior = c.args.posterior.now;
      gamma = c.args.gamma.now;
      bias = c.args.bias.now;
      c_to_v = c.args.c_to_v.now;
      v_to_c = c.args.v_to_c.now;
    })
    _ c.in_ok-shot_fault.ensures c.order_fault.ensures
