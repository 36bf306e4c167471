-- `relay_calls::tests::fault` meets its contract. The graph's tests refuse, or those of the step answer.
-- Assumes nothing.
use Rattle.std.proofs.lemmas.Result.{err_from_is_err_and}
use Rattle.relay_calls.specs.Calls.{step_fault, step_fits}
use Rattle.refusals.specs.Tests.{or_else}
use Rattle.relay_calls.proofs.Calls.{checks_few}
use Rattle.relay_calls.proofs.tests.fault.Goals as goal

pub returns-in_err-check_graph : goal.returns-in_err-check_graph
unfolding step_fault step_fits or_else
returns-in_err-check_graph c = let p = err_from_is_err_and c.from_residual.result c.from_residual.ensures.1 in rw (p.1, p.2, ← c.in_err-check_graph.ensures)

pub step_fault-requires : goal.step_fault-requires
step_fault-requires c = checks_few _ _ _ c.in_ok-check_graph.ensures

pub returns : goal.returns
unfolding step_fault step_fits or_else
returns c = rw (← c.in_ok-check_graph.ensures) c.step_fault.ensures
