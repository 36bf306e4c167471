-- `relay_step::variable::update_variable` meets its contract. The variable's entries name messages, and its update is the definition's.
-- Assumes nothing.
use Rattle.relay_step.specs.Step.{update_variable}
use Rattle.graph_messages.proofs.Sides.{row_names}
use Rattle.relay_step.proofs.variable.update_variable.Goals as goal

pub update_entries-requires-clause-keys : goal.update_entries-requires-clause-keys
update_entries-requires-clause-keys c = row_names c.args.variables.now c.args.v _ _ c.requires.v_in_bounds c.requires.per_edge.to_variables c.row.ensures

pub returns : goal.returns
unfolding update_variable
returns c = rw (c.update_entries.ensures.messages, c.update_entries.ensures.posterior, c.row.ensures)
