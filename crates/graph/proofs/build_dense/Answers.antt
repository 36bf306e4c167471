-- `graph::build_dense` meets its contract. Where no test refuses, the lists fit, which is all that building asks; a refusal leaves them. Assumes nothing.
use mathlib.Core.Path.{refl, sym, ◌∙◌}
use native.Mathlib.Omega.{arith}
use lib.ListN.{length}
use Rattle.std.proofs.lemmas.Result.{err_from_is_err_and}
use Rattle.graph_lists.specs.Graph.{graph}
use Rattle.graph_lists.specs.Model.{graph_fits, prior_fault}
use Rattle.graph_lists.proofs.DenseTests.{dense_told, dense_done, dense_refused}
use Rattle.graph_lists.proofs.SparseTests.{long_told}
use Rattle.graph_tests.specs.Numbers.{given_fault}
use Rattle.graph.proofs.build_dense.Goals as goal

pub returns-in_err-dense_fault : goal.returns-in_err-dense_fault
unfolding graph_fits given_fault
returns-in_err-dense_fault c =
    let p = err_from_is_err_and c.from_residual.result c.from_residual.ensures.1 in
    rw (p.1, p.2) (dense_refused _ _ _ _ _ (graph c.args.checks c.args.mechanisms c.args.check_var.now c.args.check_offset.now c.args.var_check.now c.args.var_message.now c.args.var_offset.now)
    c.count_edges.ensures c.lists_fit-fit.ensures c.in_err-dense_fault.ensures refl)

pub from_matrix-requires : goal.from_matrix-requires
unfolding graph_fits given_fault
from_matrix-requires c =
    let t = dense_told c.args.checks c.args.mechanisms c.count_edges.result (length c.args.priors.now) (prior_fault c.args.priors.now)
    (length c.args.matrix.now) c.lists_fit-fit.result (sym c.in_ok-dense_fault.ensures) in
    let f = long_told c.count_edges.result (graph c.args.checks c.args.mechanisms c.args.check_var.now c.args.check_offset.now c.args.var_check.now c.args.var_message.now c.args.var_offset.now)
    (sym c.lists_fit-fit.ensures ∙ t.fits) in
    record {
      matrix_len = t.bytes_many;
      checks_bound = (omega (arith, t.few.checks_few), omega (arith, t.few.mechanisms_few), omega (arith, c.count_edges.ensures, t.few.edges_few));
      check_var_len = (f.check_var ∙ c.count_edges.ensures, f.check_offset);
      var_check_len = (f.var_check ∙ c.count_edges.ensures, f.var_message ∙ c.count_edges.ensures, f.var_offset);
    }

pub returns : goal.returns
unfolding graph_fits given_fault
returns c = dense_done _ _ _ _ _ (graph c.args.checks c.args.mechanisms c.args.check_var.now c.args.check_offset.now c.args.var_check.now c.args.var_message.now c.args.var_offset.now)
    c.count_edges.ensures c.lists_fit-fit.ensures c.in_ok-dense_fault.ensures _ refl c.from_matrix.ensures
