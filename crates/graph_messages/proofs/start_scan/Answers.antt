-- `graph_messages::start_scan` meets its contract. Each arm is one case of the definition. Assumes nothing.
use lib.Ieee.{of_bits, neg}
use Rattle.graph_messages.proofs.start_scan.Goals as goal

pub returns-then-odd : goal.returns-then-odd
unfolding of_bits neg
returns-then-odd c = rw (c.infinity-top.ensures, c.if-odd.true)
