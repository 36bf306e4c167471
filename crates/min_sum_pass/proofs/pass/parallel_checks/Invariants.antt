-- `min_sum_pass::pass::parallel_checks` meets its contract. The invariant: the checks passed have sent. Assumes nothing.
use mathlib.Core.Path.{◌≡◌}
use Rattle.graph_lists.specs.Messages.{by_place}
use Rattle.graph_messages.specs.Sides.{checks_alone}
use Rattle.min_sum_pass.specs.MinSum.{messages, checks_to}
use Rattle.min_sum_pass.proofs.pass.parallel_checks.Given as goal

abbrev pub invariant-loop-c : goal.invariant-loop-c
invariant-loop-c l =
    messages l.c_to_v l.v_to_c ≡ checks_to by_place (checks_alone l.checks) l.scale l.syndrome (messages l.initial.c_to_v l.v_to_c) l.c
