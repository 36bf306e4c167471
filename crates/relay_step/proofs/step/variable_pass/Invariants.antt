-- `relay_step::step::variable_pass` meets its contract. The invariant: the variables passed are updated.
-- Assumes nothing.
use mathlib.Core.Path.{◌≡◌}
use Rattle.graph_messages.specs.Sides.{variables_alone}
use Rattle.relay_step.specs.Step.{state, variable_pass}
use Rattle.relay_step.proofs.step.variable_pass.Given as goal

abbrev pub invariant-loop-v : goal.invariant-loop-v
invariant-loop-v l =
    state l.c_to_v l.v_to_c l.posterior ≡ variable_pass (variables_alone l.variables) l.bias (state l.c_to_v l.initial.v_to_c l.initial.posterior) l.v
