-- `graph_messages::scanned` meets its contract. The sign and the two least are found each by itself. Assumes nothing.
use mathlib.Core.Path.{◌∙◌}
use Rattle.graph_lists.specs.Messages.{scanned}
use Rattle.graph_messages.proofs.scanned.Goals as goal

pub returns : goal.returns
unfolding scanned
returns c =
    record { scan = c.lowered.ensures.scan ∙ rw c.flipped.ensures; ordered = c.lowered.ensures.ordered }
