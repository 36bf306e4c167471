-- `probabilities::is_probability` meets its contract. Each answer is the definition at what the test said. Assumes nothing.
use lib.Ieee.{of_bits}
use Rattle.probabilities.specs.Calls.{is_probability}
use Rattle.probabilities.proofs.is_probability.Goals as goal

pub returns-then-p : goal.returns-then-p
unfolding of_bits is_probability
returns-then-p c = rw c.if-p.true

pub returns-else-p : goal.returns-else-p
unfolding of_bits is_probability
returns-else-p c = rw c.if-p.false
