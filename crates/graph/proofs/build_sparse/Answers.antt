-- `graph::build_sparse` meets its contract. Where no test refuses, the model is valid and the lists fit, which is all that building asks; a refusal leaves them. Assumes nothing.
use mathlib.Core.Path.{refl, sym, ◌∙◌}
use native.Mathlib.Omega.{arith}
use lib.ListN.{length}
use Rattle.std.proofs.lemmas.Result.{err_from_is_err_and}
use Rattle.graph_lists.specs.Graph.{graph}
use Rattle.graph_lists.specs.Model.{graph_fits, prior_fault}
use Rattle.graph_lists.proofs.SparseTests.{sparse_told, long_told, sparse_done, sparse_refused}
use Rattle.graph_tests.specs.Numbers.{given_fault}
use Rattle.graph.proofs.build_sparse.Goals as goal

pub returns-in_err-sparse_fault : goal.returns-in_err-sparse_fault
unfolding graph_fits given_fault
returns-in_err-sparse_fault c =
    let p = err_from_is_err_and c.from_residual.result c.from_residual.ensures.1 in
    rw (p.1, p.2) (sparse_refused _ _ _ _ _ _ (graph c.args.size.checks c.args.size.mechanisms c.args.check_var.now c.args.check_offset.now c.args.var_check.now c.args.var_message.now c.args.var_offset.now)
    c.lists_fit-fit.ensures c.in_err-sparse_fault.ensures refl)

pub from_detectors-requires : goal.from_detectors-requires
unfolding graph_fits given_fault
from_detectors-requires c =
    let t = sparse_told c.args.size.checks c.args.size.mechanisms c.args.size.edges (length c.args.priors.now) (prior_fault c.args.priors.now)
    c.args.detector_offsets.now c.args.detectors.now c.lists_fit-fit.result (sym c.in_ok-sparse_fault.ensures) in
    let f = long_told c.args.size.edges (graph c.args.size.checks c.args.size.mechanisms c.args.check_var.now c.args.check_offset.now c.args.var_check.now c.args.var_message.now c.args.var_offset.now)
    (sym c.lists_fit-fit.ensures ∙ t.lengths.fits) in
    let d = t.lengths.dets_many in
    record {
      valid = t.valid;
      checks_bound = (omega (arith, t.few.checks_few), omega (arith, t.few.mechanisms_few), omega (arith, d, t.few.edges_few));
      check_var_len = (f.check_var ∙ sym d, f.check_offset);
      var_check_len = (f.var_check ∙ sym d, f.var_message ∙ sym d, f.var_offset);
    }

pub returns : goal.returns
unfolding graph_fits given_fault
returns c = sparse_done _ _ _ _ _ _ (graph c.args.size.checks c.args.size.mechanisms c.args.check_var.now c.args.check_offset.now c.args.var_check.now c.args.var_message.now c.args.var_offset.now)
    c.lists_fit-fit.ensures c.in_ok-sparse_fault.ensures _ refl c.from_detectors.ensures
