-- `relay_gammas::relay_gamma` meets its contract. Each arm is the definition's at its source.
-- Assumes nothing.
use Rattle.relay_gammas.specs.Gammas.{relay_gamma}
use Rattle.relay_gammas.proofs.Draws.{seeded_is}
use Rattle.relay_gammas.proofs.relay_gamma.Goals as goal

pub copy_set-requires : goal.copy_set-requires
copy_set-requires c = let w = c.requires.by_index _
    c.in-Explicit.is in (c.requires.leg_nonzero.0, w.0, w.1)

pub returns-in-Explicit : goal.returns-in-Explicit
unfolding relay_gamma
returns-in-Explicit c = rw c.in-Explicit.is c.copy_set.ensures

pub returns-in-Seeded : goal.returns-in-Seeded
returns-in-Seeded c = rw c.in-Seeded.is
    (seeded_is _ _ _ _ _ _ _ c.args.leg _
    c.start_of.ensures c.draw_gammas.ensures)
