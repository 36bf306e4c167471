-- `relay_step::leg::matches` meets its contract. The check's entries name bits, and their parity is the definition's.
-- Assumes nothing.
use Rattle.relay_step.specs.Leg.{matches}
use Rattle.graph_messages.proofs.Sides.{row_names}
use Rattle.relay_step.proofs.leg.matches.Goals as goal

pub parity-requires : goal.parity-requires
parity-requires c = row_names c.args.checks.now c.args.c _ _ c.requires.c_in_bounds c.requires.bits_len c.row.ensures

pub returns : goal.returns
unfolding matches
returns c = rw (c.parity.ensures, c.row.ensures)
