-- `relay_calls::iterate::messages_finite` meets its contract. The invariant: both messages of the entries passed are finite.
-- Assumes nothing.
use mathlib.Core.Path.{◌≡◌}
use mathlib.Core.Bool.{true}
use mathlib.Core.List.{[]}
use Rattle.numbers.specs.Loops.{every}
use Rattle.relay_step.specs.Step.{state}
use Rattle.relay_calls.specs.Calls.{message_finite}
use Rattle.relay_calls.proofs.iterate.messages_finite.Given as goal

abbrev pub invariant-loop-entry : goal.invariant-loop-entry
invariant-loop-entry l = every l.entry-index (message_finite (state l.c_to_v l.v_to_c []) l.entries) ≡ true
