-- `min_sum_pass::variable::write_messages` meets its contract. The invariant: the messages that the entries passed name are written. Assumes nothing.
use mathlib.Core.Path.{◌≡◌}
use lib.ListN.{take}
use Rattle.min_sum_pass.specs.MinSum.{damped_messages}
use Rattle.min_sum_pass.proofs.variable.write_messages.Given as goal

abbrev pub invariant-loop-entry : goal.invariant-loop-entry
invariant-loop-entry l = l.v_to_c ≡ damped_messages l.sum l.c_to_v l.initial.v_to_c (take l.entry-index l.entries)
