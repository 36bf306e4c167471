-- `graph_messages::lowered` meets its contract. Each field is found by itself, and the two least stay ordered. Assumes nothing.
use Rattle.graph_lists.specs.Messages.{lowered}
use Rattle.graph_messages.proofs.Least.{ordered_next}
use Rattle.graph_messages.proofs.lowered.Goals as goal

pub returns : goal.returns
unfolding lowered
returns c =
    record {
      scan = rw (c.least_of-least.ensures, c.next_least-min2.ensures, c.lesser-min1.ensures, c.magnitude-magnitude.ensures);
      ordered = rw
          (c.next_least-min2.ensures, c.lesser-min1.ensures, c.magnitude-magnitude.ensures)
          (ordered_next _ _ _ c.requires);
    }
