-- `relay_check::saturated` meets its contract. Each arm is one case of the comparison.
-- Assumes nothing.
use lib.Ieee.{of_bits}
use Rattle.relay_check.specs.Places.{saturated_magnitude}
use Rattle.relay_check.proofs.saturated.Goals as goal

pub returns-then-minimum-infinity : goal.returns-then-minimum-infinity
unfolding saturated_magnitude
returns-then-minimum-infinity c = rw (rw c.infinity.ensures at c.if-minimum-infinity.true)

pub returns : goal.returns
unfolding saturated_magnitude of_bits
returns c = rw (rw c.infinity.ensures at c.if-minimum-infinity.false)
