-- `relay_step::step::check_pass` meets its contract. The invariant: the checks passed have sent.
-- Assumes nothing.
use mathlib.Core.Path.{◌≡◌}
use mathlib.Core.List.{[]}
use lib.ListN.{take}
use Rattle.graph_lists.specs.Messages.{by_place}
use Rattle.graph_messages.specs.Sides.{checks_alone}
use Rattle.relay_step.specs.Step.{state, check_pass}
use Rattle.relay_step.proofs.step.check_pass.Given as goal

abbrev pub invariant-loop-check : goal.invariant-loop-check
invariant-loop-check l =
    state l.c_to_v l.v_to_c [] ≡ check_pass by_place (checks_alone l.checks) l.alpha l.clip l.syndrome (take l.check-index l.order) (state l.initial.c_to_v l.v_to_c [])
