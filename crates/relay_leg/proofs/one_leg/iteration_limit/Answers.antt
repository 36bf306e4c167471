-- `relay_leg::one_leg::iteration_limit` meets its contract. Leg zero has its own limit.
-- Assumes nothing.
use Rattle.relay_leg.proofs.Records.{limit_zero, limit_relayed}
use Rattle.relay_leg.proofs.one_leg.iteration_limit.Goals as goal

pub returns-then-leg-eq0 : goal.returns-then-leg-eq0
returns-then-leg-eq0 c = limit_zero _ _ c.if-leg-eq0.true

pub returns : goal.returns
returns c = limit_relayed _ _ c.if-leg-eq0.false
