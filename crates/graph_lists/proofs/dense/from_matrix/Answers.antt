-- `graph_lists::dense::from_matrix` meets its contract. The rows write the check lists of the graph, which are all that the bucket pass asks. Assumes nothing.
use mathlib.Core.Path.{sym, ◌∙◌}
use native.Mathlib.Omega.{arith}
use Rattle.graph_lists.specs.Graph.{marked}
use Rattle.graph_lists.proofs.Built.{second_pass, second_valid}
use Rattle.graph_lists.proofs.dense.from_matrix.Goals as goal

pub bucket-requires : goal.bucket-requires
bucket-requires c =
    let l = c.mark_rows.auto.check_var ∙ c.requires.check_var_len.0 in
    let s = second_valid c.args.checks c.args.mechanisms (marked c.args.mechanisms c.args.matrix.now) _ _ c.mark_rows.ensures.0 c.mark_rows.ensures.1 in
    record { offsets = s.0; keys = s.1; rows_bound = (c.requires.checks_bound.0, omega (arith, l, c.requires.checks_bound.2)); next_len = (c.requires.var_check_len.2, c.requires.var_check_len.0 ∙ sym l) }

pub returns : goal.returns
returns c =
    let many = c.bucket.auto.place_at ∙ c.requires.var_check_len.1 ∙ sym (c.mark_rows.auto.check_var ∙ c.requires.check_var_len.0) in
    second_pass c.args.checks c.args.mechanisms (marked c.args.mechanisms c.args.matrix.now) _ _ _ _ _ many c.mark_rows.ensures.0 c.mark_rows.ensures.1 c.bucket.ensures
