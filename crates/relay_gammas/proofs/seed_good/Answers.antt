-- `relay_gammas::seed_good` meets its contract. Each arm answers what the definition says of its source.
-- Assumes nothing.
use Rattle.relay_gammas.specs.Gammas.{seed_good}
use Rattle.relay_gammas.proofs.seed_good.Goals as goal

pub returns-in-Explicit : goal.returns-in-Explicit
unfolding seed_good
returns-in-Explicit c = rw c.in-Explicit.is
