-- `min_sum_pass::pass::serial_check` meets its contract. Too few entries skip the check, and others send and have their variables updated. Assumes nothing.
use mathlib.Core.Path.{sym}
use Rattle.min_sum_pass.proofs.Checks.{serial_skipped, serial_sent}
use Rattle.graph_messages.proofs.Sides.{row_names}
use Rattle.min_sum_pass.proofs.pass.serial_check.Goals as goal

pub returns-then-update_part : goal.returns-then-update_part
returns-then-update_part c =
    serial_skipped _ _ _ _ _ _ _ _ _ _ c.args.c _ _ _ c.start.ensures.value
    c.end.ensures.value c.update_part.ensures.skipped _ _ c.if-update_part.true c.update_part.ensures.messages

pub update_variables-requires-clause-keys : goal.update_variables-requires-clause-keys
update_variables-requires-clause-keys c = row_names c.args.checks.now _ _ _ c.requires.c_in_bounds (sym c.requires.one_graph.mechanisms) c.row.ensures

pub returns : goal.returns
returns c =
    serial_sent _ _ _ _ _ _ _ _ _ _ c.args.c _ _ _
    c.start.ensures.value
    c.end.ensures.value
    c.update_part.ensures.skipped _ _ _ c.if-update_part.false c.update_part.ensures.messages (rw c.row.ensures at c.update_variables.ensures)
