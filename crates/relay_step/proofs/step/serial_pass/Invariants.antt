-- `relay_step::step::serial_pass` meets its contract. The invariant: the checks passed have sent, and their variables are updated.
-- Assumes nothing.
use mathlib.Core.Path.{◌≡◌}
use lib.ListN.{take}
use Rattle.graph_lists.specs.Messages.{by_place}
use Rattle.graph_messages.specs.Sides.{sides}
use Rattle.relay_step.specs.Step.{state, serial_pass}
use Rattle.relay_step.proofs.step.serial_pass.Given as goal

abbrev pub invariant-loop-c : goal.invariant-loop-c
invariant-loop-c l =
    state l.c_to_v l.v_to_c l.posterior
    ≡ serial_pass by_place (sides l.checks l.variables) l.alpha l.clip l.syndrome l.bias (take l.c-index l.order) (state l.initial.c_to_v l.initial.v_to_c l.initial.posterior)
