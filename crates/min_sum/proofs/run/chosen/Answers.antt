-- `min_sum::run::chosen` meets its contract. Each arm is one case of the two tests. Assumes nothing.
use lib.Ieee.{of_bits}
use Rattle.min_sum.proofs.Rounds.{chosen_apart, chosen_raw, chosen_old}
use Rattle.min_sum.proofs.run.chosen.Goals as goal

pub returns-then-belief-raw : goal.returns-then-belief-raw
unfolding of_bits
returns-then-belief-raw c = chosen_apart _ _ c.if-belief-raw.true

pub returns-then-magnitude : goal.returns-then-magnitude
unfolding of_bits
returns-then-magnitude c = chosen_raw _ _ _ _ c.if-belief-raw.false c.magnitude.ensures c.magnitude-2.ensures c.if-magnitude.true

pub returns : goal.returns
unfolding of_bits
returns c = chosen_old _ _ _ _ c.if-belief-raw.false c.magnitude.ensures c.magnitude-2.ensures c.if-magnitude.false
