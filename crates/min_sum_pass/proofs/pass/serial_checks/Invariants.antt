-- `min_sum_pass::pass::serial_checks` meets its contract. The invariant: the checks passed have sent, and their variables are updated. Assumes nothing.
use mathlib.Core.Path.{◌≡◌}
use Rattle.graph_lists.specs.Messages.{by_place}
use Rattle.graph_messages.specs.Sides.{sides}
use Rattle.min_sum_pass.specs.MinSum.{messages, serial_to}
use Rattle.min_sum_pass.proofs.pass.serial_checks.Given as goal

abbrev pub invariant-loop-c : goal.invariant-loop-c
invariant-loop-c l =
    messages l.c_to_v l.v_to_c
    ≡ serial_to by_place (sides l.checks l.variables) l.scale l.syndrome l.priors (messages l.initial.c_to_v l.initial.v_to_c) l.c
