-- `relay::iteration` meets its contract. A refused call leaves the lists; else the tests told all that the step asks, and the step reads no more of the graph
-- than the four lists.
-- Assumes nothing.
use Rattle.std.proofs.lemmas.Result.{err_from_is_err_and}
use Rattle.std.proofs.Common.{rules, sym, ◌∙◌}
use Rattle.relay_step.specs.Step.{state}
use Rattle.relay_calls.specs.Calls.{step_lists}
use Rattle.relay_calls.proofs.Calls.{passed, iteration_refused, iteration_ran}
use Rattle.relay.proofs.iteration.Goals as goal

pub stepped-requires : goal.stepped-requires
stepped-requires c =
    let t = passed c.args.size.edges c.args.size.checks c.args.size.mechanisms c.args.check_var.now c.args.check_offset.now c.args.var_check.now
    c.args.var_message.now c.args.var_offset.now c.args.priors.now c.args.alpha c.args.clip c.args.gamma.now c.args.syndrome.now c.args.order.now
    (step_lists (state c.args.c_to_v.now c.args.v_to_c.now c.args.posterior.now) c.args.bias.now) (search rules) in
    record {
      walks = t.check_walks;
      walks_2 = t.var_walks;
      keys = t.named;
      per_mechanism = record { gammas = t.gamma_many; biases = t.bias_many; posteriors = t.posterior_many };
      per_edge = record { to_variables = t.c_many; to_checks = t.v_many };
    }

pub returns-in_err-tested : goal.returns-in_err-tested
returns-in_err-tested c = let p = err_from_is_err_and c.from_residual.result c.from_residual.ensures.1 in rw (p.1, p.2)
    (iteration_refused _ _ _ _ _ _ _ _ _ _ _ _ _ _ (step_lists (state c.args.c_to_v.now c.args.v_to_c.now c.args.posterior.now) c.args.bias.now) _ _ (sym c.in_err-tested.was ∙ c.fault-tested.ensures))

pub returns : goal.returns
returns c = iteration_ran _ _ _ _ _ _ _ _ _ _ _ _ _ _ (step_lists (state c.args.c_to_v.now c.args.v_to_c.now c.args.posterior.now) c.args.bias.now) _ _ (sym c.in_ok-tested.was ∙ c.fault-tested.ensures) c.stepped.ensures
