-- `relay_gammas::start_of` meets its contract. Each arm is the definition's start at its rule.
-- Assumes nothing.
use native.Mathlib.Omega.{arith}
use Rattle.relay_gammas.specs.Gammas.{start_of}
use Rattle.relay_gammas.proofs.Draws.{xor_is}
use Rattle.relay_gammas.proofs.start_of.Goals as goal

pub returns-in-ByShot : goal.returns-in-ByShot
unfolding start_of
returns-in-ByShot c = rw c.in-ByShot.is c.stream_number.ensures

pub returns-in-SeedXorLeg : goal.returns-in-SeedXorLeg
returns-in-SeedXorLeg c = rw c.in-SeedXorLeg.is (xor_is _ _ (omega arith) (omega arith))
