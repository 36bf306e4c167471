-- `relay_step::variable::update_variables` meets its contract. The invariant: the variables passed are updated.
-- Assumes nothing.
use mathlib.Core.Path.{◌≡◌}
use mathlib.Core.List.{foldl}
use lib.ListN.{take}
use Rattle.graph_messages.specs.Sides.{variables_alone}
use Rattle.relay_step.specs.Step.{state, update_variable}
use Rattle.relay_step.proofs.variable.update_variables.Given as goal

abbrev pub invariant-loop-v : goal.invariant-loop-v
invariant-loop-v l =
    state l.c_to_v l.v_to_c l.posterior ≡ foldl (update_variable (variables_alone l.variables) l.bias) (state l.c_to_v l.initial.v_to_c l.initial.posterior) (take l.v-index l.entries)
