-- `relay_calls::tests::bytes_fault` meets its contract. The invariant: none of the bytes passed is refused.
-- Assumes nothing.
use mathlib.Core.Path.{refl, ap}
use mathlib.Core.Bool.{not}
use lib.Dec.{leb}
use lib.ListN.{get_or}
use Rattle.refusals.specs.Tests.{first_of}
use Rattle.refusals.specs.declared.Refusal.TheVariants.{SyndromeNotBinary}
use Rattle.refusals.proofs.Tests.{unless_refuse, unless_go}
use Rattle.relay_calls.specs.Calls.{byte_fault}
use Rattle.relay_calls.proofs.tests.bytes_fault.Goals as goal

pub loop-c-init : goal.loop-c-init
unfolding first_of
loop-c-init c = refl

pub returns-then-not-is_bit : goal.returns-then-not-is_bit
unfolding byte_fault
returns-then-not-is_bit c = unless_refuse (λ k. leb (get_or c.args.syndrome.now k 0) 1) SyndromeNotBinary
    c.loop-c.c _ _ c.loop-c-test.true
    c.loop-c.invariant c.is_bit.ensures (ap not c.if-not-is_bit.true)

pub loop-c-preserved : goal.loop-c-preserved
unfolding byte_fault
loop-c-preserved c = unless_go (λ k. leb (get_or c.args.syndrome.now k 0) 1) SyndromeNotBinary
    c.loop-c.c _ c.loop-c.invariant c.is_bit.ensures (ap not c.if-not-is_bit.false)
