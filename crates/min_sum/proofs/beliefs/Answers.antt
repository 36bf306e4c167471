-- `min_sum::beliefs` meets its contract. A refused call leaves the lists; else the tests told all that the run asks, and the run reads no more of the graph than the four lists. Assumes nothing.
use Rattle.std.proofs.lemmas.Result.{err_from_is_err_and}
use Rattle.min_sum.specs.Beliefs.{beliefs_lists, beliefs_lists_fit, beliefs_fault}
use Rattle.min_sum.proofs.Calls.{told, beliefs_refused, beliefs_ran}
use Rattle.min_sum.proofs.beliefs.Goals as goal

pub returns-in_err-fault : goal.returns-in_err-fault
unfolding beliefs_fault beliefs_lists_fit
returns-in_err-fault c =
    let p = err_from_is_err_and c.from_residual.result c.from_residual.ensures.1 in
    rw (p.1, p.2) (beliefs_refused _ _ _ _ _ _ _ _ _ _ _ (beliefs_lists c.args.posterior.now c.args.ewa_posterior.now c.args.c_to_v.now c.args.v_to_c.now) _ _ _ c.in_err-fault.ensures)

pub ran-requires : goal.ran-requires
unfolding beliefs_fault beliefs_lists_fit
ran-requires c =
    let t = told c.args.size.edges c.args.size.checks c.args.size.mechanisms c.args.check_var.now c.args.check_offset.now c.args.var_check.now c.args.var_message.now
    c.args.var_offset.now c.args.priors.now c.args.syndrome.now c.args.iterations (beliefs_lists c.args.posterior.now c.args.ewa_posterior.now c.args.c_to_v.now c.args.v_to_c.now) c.in_ok-fault.ensures in
    record {
      walks = t.check_walks;
      walks_2 = t.var_walks;
      run_lists = record { messages = record { to_variables = t.c_many; to_checks = t.v_many }; averages = t.ewa_many };
      posterior_len = t.posterior_many;
    }

pub returns : goal.returns
unfolding beliefs_fault beliefs_lists_fit
returns c = beliefs_ran _ _ _ _ _ _ _ _ _ _ _ (beliefs_lists c.args.posterior.now c.args.ewa_posterior.now c.args.c_to_v.now c.args.v_to_c.now) _ _ _ c.in_ok-fault.ensures c.ran.ensures
