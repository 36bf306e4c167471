-- `relay_step::leg::hard_bit` meets its contract. Each arm is one case of the comparison.
-- Assumes nothing.
use lib.Ieee.{of_bits}
use Rattle.relay_step.specs.Leg.{hard_bit}
use Rattle.relay_step.proofs.leg.hard_bit.Goals as goal

pub returns-then-p : goal.returns-then-p
unfolding hard_bit of_bits
returns-then-p c = rw c.if-p.true

pub returns : goal.returns
unfolding hard_bit of_bits
returns c = rw c.if-p.false
