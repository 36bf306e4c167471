-- `min_sum::tests::fault` meets its contract. The graph's tests refuse, or those of the run answer. Assumes nothing.
use mathlib.Core.Path.{sym, ap, ◌∙◌}
use Rattle.std.proofs.lemmas.Result.{err_from_is_err_and}
use Rattle.refusals.specs.Tests.{is_done}
use Rattle.refusals.proofs.Tests.{or_first, or_second}
use Rattle.min_sum.proofs.tests.fault.Goals as goal

pub returns-in_err-check_graph : goal.returns-in_err-check_graph
returns-in_err-check_graph c =
    let p = err_from_is_err_and c.from_residual.result c.from_residual.ensures.1 in
    let h = c.in_err-check_graph.ensures in
    rw (p.1, p.2) (h ∙ sym (or_first _ _ (ap is_done (sym h))))

pub returns : goal.returns
returns c = c.run_fault.ensures ∙ sym (or_second _ _ (sym c.in_ok-check_graph.ensures))
