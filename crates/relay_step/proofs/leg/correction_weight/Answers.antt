-- `relay_step::leg::correction_weight` meets its contract. The invariant: the weight is that of the variables passed.
-- Assumes nothing.
use mathlib.Core.Path.{◌≡◌, refl}
use lib.Ieee.{nan, of_bits, neg}
use lib.ListN.{length, get_or, length-append}
use Rattle.std.proofs.lemmas.Slice.Zip.{zip_turn}
use Rattle.relay_step.specs.Leg.{cost, correction_weight}
use Rattle.relay_step.proofs.Legs.{weight_turn}
use Rattle.relay_step.proofs.leg.correction_weight.Goals as goal

pub loop-prior-init : goal.loop-prior-init
unfolding correction_weight of_bits neg
loop-prior-init c = refl

pub loop-prior-preserved : goal.loop-prior-preserved
loop-prior-preserved c =
    let at = zip_turn c.args.priors.now c.args.bits.now _ c.into_iter-prior-iterator.result c.loop-prior.prior-iterator c.next.new.self _ (cc) (cc) c.loop-prior.yielded_by _ c.in-Some.is c.next.ensures.steps in
    let prior = at.2 nan in
    let bit = at.3 0 in
    let v = length c.loop-prior.yielded in
    let one : c.cost-weight.result ≡ cost (get_or c.args.priors.now v nan) (get_or c.args.bits.now v 0) = cc in
    rw length-append (weight_turn _ _ v _ _ c.loop-prior.invariant one)
