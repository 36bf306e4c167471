-- `relay_step::leg::hard_decision` meets its contract. The invariant: the bits passed are decided.
-- Assumes nothing.
use native.Mathlib.Omega.{arith}
use Rattle.relay_step.proofs.Legs.{hard_done}
use Rattle.relay_step.proofs.leg.hard_decision.Goals as goal

pub returns : goal.returns
returns c = hard_done _ _ _ (omega arith) (omega arith) c.loop-v.invariant
