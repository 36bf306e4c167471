-- `relay_calls::iterate::step_end` meets its contract. The invariant: none of the mechanisms passed is refused.
-- Assumes nothing.
use mathlib.Core.Path.{◌≡◌, refl, sym, ap}
use mathlib.Core.Bool.{not}
use native.Mathlib.Omega.{arith}
use lib.ListN.{length}
use Rattle.refusals.specs.Tests.{first_of}
use Rattle.refusals.specs.declared.Refusal.TheVariants.{NonFinite}
use Rattle.refusals.proofs.Tests.{unless_refuse, unless_go}
use Rattle.relay_calls.specs.Calls.{finite_fault, step_end}
use Rattle.relay_calls.proofs.iterate.step_end.Goals as goal

pub loop-v-init : goal.loop-v-init
unfolding first_of
loop-v-init c = refl

pub returns-then-not-mechanism_finite : goal.returns-then-not-mechanism_finite
unfolding step_end finite_fault
returns-then-not-mechanism_finite c = unless_refuse _ NonFinite c.loop-v.v _ _ c.loop-v-test.true c.loop-v.invariant
    c.mechanism_finite.ensures (ap not c.if-not-mechanism_finite.true)

pub loop-v-preserved : goal.loop-v-preserved
unfolding finite_fault
loop-v-preserved c = unless_go _ NonFinite c.loop-v.v _ c.loop-v.invariant c.mechanism_finite.ensures (ap not c.if-not-mechanism_finite.false)

pub returns : goal.returns
unfolding step_end
returns c =
    let e : c.loop-v.v ≡ length c.args.posterior.now = omega arith in
    sym (rw e at c.loop-v.invariant)
