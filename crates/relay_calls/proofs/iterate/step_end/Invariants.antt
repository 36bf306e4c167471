-- `relay_calls::iterate::step_end` meets its contract. The invariant: none of the mechanisms passed is refused.
-- Assumes nothing.
use mathlib.Core.Path.{◌≡◌}
use lib.ListN.{length}
use Rattle.refusals.specs.Tests.{first_of}
use Rattle.std.specs.Prelude.{Ok}
use Rattle.graph_messages.specs.Needs.{of_variables}
use Rattle.relay_step.specs.Step.{state}
use Rattle.relay_calls.specs.Calls.{finite_fault}
use Rattle.relay_calls.proofs.iterate.step_end.Given as goal

abbrev pub invariant-loop-v : goal.invariant-loop-v
invariant-loop-v l = first_of l.v (finite_fault (of_variables (length l.posterior) l.var_message l.var_offset) (state l.c_to_v l.v_to_c l.posterior)) ≡ Ok tt
