-- `relay_gammas::prepare_gamma` meets its contract. Leg zero has gamma0 throughout, and a relayed leg its own.
-- Assumes nothing.
use Rattle.relay_gammas.proofs.Draws.{relayed, zero_is, relayed_is}
use Rattle.relay_gammas.proofs.prepare_gamma.Goals as goal

pub returns-then-leg-eq0 : goal.returns-then-leg-eq0
returns-then-leg-eq0 c = zero_is c.args.t _ _ _ _ _ c.if-leg-eq0.true (c.fill.ensures.after (λ y h. h))

pub relay_gamma-requires : goal.relay_gamma-requires
relay_gamma-requires c = let h = relayed _ c.if-leg-eq0.false in
    record { leg_nonzero = (h, c.requires.leg_le_max_count); by_index = λ sets e. c.requires.sets_nonzero h sets e }

pub returns : goal.returns
returns c = relayed_is c.args.t _ _ _ _ _ c.if-leg-eq0.false c.relay_gamma.ensures
