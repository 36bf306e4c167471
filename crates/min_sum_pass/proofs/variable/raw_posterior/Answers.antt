-- `min_sum_pass::variable::raw_posterior` meets its contract. The variable's entries name messages, and its sum is the definition's. Assumes nothing.
use Rattle.min_sum_pass.specs.MinSum.{raw_posterior}
use Rattle.graph_messages.proofs.Sides.{row_names}
use Rattle.min_sum_pass.proofs.variable.raw_posterior.Goals as goal

pub total-requires : goal.total-requires
total-requires c = row_names c.args.variables.now _ _ _ c.requires.v_in_bounds c.requires.c_to_v_len c.row.ensures

pub returns : goal.returns
unfolding raw_posterior
returns c = rw (c.total.ensures, c.row.ensures)
