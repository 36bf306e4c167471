-- `graph_tests::lowest` meets its contract. The bound is the definition's at what is given. Assumes nothing.
use lib.Ieee.{neg, of_bits}
use Rattle.graph_tests.proofs.lowest.Goals as goal

pub returns-in-Priors : goal.returns-in-Priors
unfolding neg of_bits
returns-in-Priors c = rw c.in-Priors.is
