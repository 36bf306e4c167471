-- `relay_settings::gammas_fault` meets its contract. The invariant: none of the first i gammas is refused. Assumes nothing.
use mathlib.Core.Bool.{not}
use mathlib.Core.Path.{ap}
use mathlib.Core.Path.{refl}
use lib.Ieee.{nan}
use lib.ListN.{get_or}
use Rattle.numbers.specs.Floats.{is_finite}
use Rattle.refusals.specs.Tests.{first_of}
use Rattle.refusals.specs.declared.Refusal.TheVariants.{GammaNotFinite}
use Rattle.refusals.proofs.Tests.{unless_refuse, unless_go}
use Rattle.relay_settings.specs.Settings.{gamma_fault}
use Rattle.relay_settings.proofs.gammas_fault.Goals as goal

pub loop-i-init : goal.loop-i-init
unfolding first_of
loop-i-init c = refl

pub returns-then-not-is_finite : goal.returns-then-not-is_finite
unfolding gamma_fault
returns-then-not-is_finite c = unless_refuse (λ k. is_finite (get_or c.args.gammas.now k nan)) GammaNotFinite
    c.loop-i.i _ _ c.loop-i-test.true
    c.loop-i.invariant c.is_finite.ensures (ap not c.if-not-is_finite.true)

pub loop-i-preserved : goal.loop-i-preserved
unfolding gamma_fault
loop-i-preserved c = unless_go (λ k. is_finite (get_or c.args.gammas.now k nan)) GammaNotFinite
    c.loop-i.i _ c.loop-i.invariant c.is_finite.ensures (ap not c.if-not-is_finite.false)
