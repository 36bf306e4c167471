-- `relay_step::leg::cost` meets its contract. The code is the definition's expression.
-- Assumes nothing.
use mathlib.Core.Path.{refl}
use Rattle.relay_step.specs.Leg.{cost}
use Rattle.relay_step.proofs.leg.cost.Goals as goal

pub returns : goal.returns
unfolding cost
returns c = refl
