-- `min_sum_pass::variable::update_variables` meets its contract. The invariant: the variables passed are updated. Assumes nothing.
use mathlib.Core.Path.{◌≡◌}
use mathlib.Core.List.{foldl}
use lib.ListN.{take}
use Rattle.graph_messages.specs.Sides.{variables_alone}
use Rattle.min_sum_pass.specs.MinSum.{messages, update_variable}
use Rattle.min_sum_pass.proofs.variable.update_variables.Given as goal

abbrev pub invariant-loop-v : goal.invariant-loop-v
invariant-loop-v l =
    messages l.c_to_v l.v_to_c ≡ foldl (update_variable (variables_alone l.variables) l.priors) (messages l.c_to_v l.initial.v_to_c) (take l.v-index l.entries)
