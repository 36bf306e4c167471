-- `relay_step::variable::write_messages` meets its contract. The invariant: the messages that the entries passed name are written.
-- Assumes nothing.
use mathlib.Core.Path.{◌≡◌}
use lib.ListN.{take}
use Rattle.relay_step.specs.Step.{written}
use Rattle.relay_step.proofs.variable.write_messages.Given as goal

abbrev pub invariant-loop-entry : goal.invariant-loop-entry
invariant-loop-entry l = l.v_to_c ≡ written l.p l.c_to_v l.initial.v_to_c (take l.entry-index l.entries)
