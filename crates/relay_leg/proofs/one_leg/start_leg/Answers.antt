-- `relay_leg::one_leg::start_leg` meets its contract. Each list is written as the definition says.
-- Assumes nothing.
use Rattle.graph_lists.specs.Messages.{from_variables, cleared}
use Rattle.relay_step.specs.Leg.{start_leg}
use Rattle.relay_leg.proofs.one_leg.start_leg.Goals as goal

pub returns : goal.returns
unfolding start_leg cleared from_variables
returns c = rw (
  c.from_variables.ensures,
  c.clear.ensures,
  c.requires.per_edge.to_variables,
)
