-- `probabilities::probabilities_fault` meets its contract. The invariant: none of the first m is refused. Assumes nothing.
use Rattle.std.proofs.Common.{not, ap, refl, get_or}
use Rattle.std.specs.Float.{nan}
use Rattle.refusals.proofs.Tests.{unless_refuse, unless_go}
use Rattle.refusals.specs.Tests.{first_of}
use Rattle.refusals.specs.declared.Refusal.TheVariants.{BadProbability}
use Rattle.probabilities.specs.Calls.{is_probability, probability_fault}
use Rattle.probabilities.proofs.probabilities_fault.Goals as goal

pub loop-m-init : goal.loop-m-init
unfolding first_of
loop-m-init c = refl

pub returns-then-not-is_probability : goal.returns-then-not-is_probability
unfolding probability_fault
returns-then-not-is_probability c = unless_refuse (λ k. is_probability (get_or c.args.probabilities.now k nan)) BadProbability
    c.loop-m.m _ _ c.loop-m-test.true
    c.loop-m.invariant c.is_probability.ensures (ap not c.if-not-is_probability.true)

pub loop-m-preserved : goal.loop-m-preserved
unfolding probability_fault
loop-m-preserved c = unless_go (λ k. is_probability (get_or c.args.probabilities.now k nan)) BadProbability
    c.loop-m.m _ c.loop-m.invariant c.is_probability.ensures (ap not c.if-not-is_probability.false)
