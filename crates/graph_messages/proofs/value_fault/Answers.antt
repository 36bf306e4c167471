-- `graph_messages::value_fault` meets its contract. Each arm is one case of the test. Assumes nothing.
use Rattle.refusals.specs.Tests.{unless}
use Rattle.graph_messages.proofs.value_fault.Goals as goal

pub returns-then-is_finite : goal.returns-then-is_finite
unfolding unless
returns-then-is_finite c = rw (← c.is_finite.ensures, c.if-is_finite.true)

pub returns : goal.returns
unfolding unless
returns c = rw (← c.is_finite.ensures, c.if-is_finite.false)
