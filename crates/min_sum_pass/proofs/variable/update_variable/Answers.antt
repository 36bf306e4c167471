-- `min_sum_pass::variable::update_variable` meets its contract. The variable's entries name messages, and its update is the definition's. Assumes nothing.
use Rattle.min_sum_pass.specs.MinSum.{raw_posterior, update_variable}
use Rattle.graph_messages.proofs.Sides.{row_names}
use Rattle.min_sum_pass.proofs.variable.update_variable.Goals as goal

pub update_entries-requires-clause-keys : goal.update_entries-requires-clause-keys
update_entries-requires-clause-keys c = row_names c.args.variables.now _ _ _ c.requires.v_in_bounds c.requires.per_edge.to_variables c.row.ensures

pub returns-clause-sum : goal.returns-clause-sum
unfolding raw_posterior
returns-clause-sum c = rw (c.update_entries.ensures.sum, c.row.ensures)

pub returns-clause-messages : goal.returns-clause-messages
unfolding update_variable raw_posterior
returns-clause-messages c = rw (c.update_entries.ensures.messages, c.update_entries.ensures.sum, c.row.ensures)
