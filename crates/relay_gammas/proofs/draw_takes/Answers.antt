-- `relay_gammas::draw_takes` meets its contract. Each arm answers what the definition says of its rule.
-- Assumes nothing.
use Rattle.relay_gammas.specs.Gammas.{seed_good}
use Rattle.relay_gammas.proofs.draw_takes.Goals as goal

pub returns-in-ByShot : goal.returns-in-ByShot
unfolding seed_good
returns-in-ByShot c = rw c.in-ByShot.is

pub returns-in-SeedXorLeg : goal.returns-in-SeedXorLeg
unfolding seed_good
returns-in-SeedXorLeg c = rw c.in-SeedXorLeg.is
