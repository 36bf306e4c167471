-- `relay_calls::tests::bytes_fault` meets its contract. The invariant: none of the bytes passed is refused.
-- Assumes nothing.
use mathlib.Core.Path.{◌≡◌}
use Rattle.refusals.specs.Tests.{first_of}
use Rattle.std.specs.Prelude.{Ok}
use Rattle.relay_calls.specs.Calls.{byte_fault}
use Rattle.relay_calls.proofs.tests.bytes_fault.Given as goal

abbrev pub invariant-loop-c : goal.invariant-loop-c
invariant-loop-c l = first_of l.c (byte_fault l.syndrome) ≡ Ok tt
