-- `graph_tests::highest` meets its contract. The bound is the definition's at what is given. Assumes nothing.
use lib.Ieee.{neg, of_bits}
use Rattle.graph_tests.proofs.highest.Goals as goal

pub returns-in-Priors : goal.returns-in-Priors
unfolding neg of_bits
returns-in-Priors c = rw c.in-Priors.is
