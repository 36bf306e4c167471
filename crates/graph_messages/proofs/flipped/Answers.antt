-- `graph_messages::flipped` meets its contract. Each arm is one case of the definition. Assumes nothing.
use lib.Ieee.{of_bits}
use Rattle.graph_lists.specs.Messages.{flipped_by}
use Rattle.graph_messages.proofs.flipped.Goals as goal

pub returns-then-message : goal.returns-then-message
unfolding flipped_by of_bits
returns-then-message c = rw c.if-message.true

pub returns : goal.returns
unfolding flipped_by of_bits
returns c = rw c.if-message.false
