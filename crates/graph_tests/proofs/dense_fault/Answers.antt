-- `graph_tests::dense_fault` meets its contract. Each answer is the definition at what the tests before it said. Assumes nothing.
use Rattle.std.proofs.Common.{sym, rules}
use Rattle.graph_lists.proofs.DenseTests.{dense_1, dense_2, dense_3, dense_4, dense_5}
use Rattle.graph_tests.proofs.dense_fault.Goals as goal
use Rattle.graph_tests.proofs.dense_fault.Goals.{then-bytes-s-via-then-bytes-s, then-bytes-s-via-else-bytes-s+then-numbers-s}

pub returns-then-not-counts_good : goal.returns-then-not-counts_good
returns-then-not-counts_good c = dense_1 _ _ _ _ _ _ _ (sym c.if-not-counts_good.ensures)

pub returns-then-bytes-s : goal.returns-then-bytes-s
returns-then-bytes-s c = dense_2 _ _ _ _ _ _ _ (sym c.if-not-counts_good.ensures) (elim c.then-bytes-s.branch [
  | then-bytes-s-via-then-bytes-s w ↦ search rules
  | then-bytes-s-via-else-bytes-s+then-numbers-s w ↦ search rules
])

pub returns-then-not-edges_good : goal.returns-then-not-edges_good
returns-then-not-edges_good c = dense_3 _ _ _ _ _ _ _ (sym c.if-not-counts_good.ensures) (search rules) (sym c.if-not-edges_good.ensures)

pub returns-then-not-fit : goal.returns-then-not-fit
returns-then-not-fit c = dense_4 _ _ _ _ _ _ _ (sym c.if-not-counts_good.ensures) (search rules) (sym c.if-not-edges_good.ensures) c.if-not-fit.true

pub returns : goal.returns
returns c = dense_5 _ _ _ _ _ _ _ _ (sym c.if-not-counts_good.ensures) (search rules) (sym c.if-not-edges_good.ensures) c.if-not-fit.false c.numbers_fault.ensures
