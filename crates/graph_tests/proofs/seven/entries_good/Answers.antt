-- `graph_tests::seven::entries_good` meets its contract. Each answer is the definition at what the first test said. Assumes nothing.
use mathlib.Core.Path.{sym, ◌∙◌}
use Rattle.graph_lists.proofs.QuickTests.{rises_told}
use Rattle.graph_lists.proofs.QuickTurns.{entries_no, entries_rest}
use Rattle.graph_tests.proofs.seven.entries_good.Goals as goal

pub meets_good-requires-clause-rising : goal.meets_good-requires-clause-rising
meets_good-requires-clause-rising c = rises_told _ _ (sym c.if-rises_below.ensures)

pub returns-then-rises_below : goal.returns-then-rises_below
returns-then-rises_below c = entries_rest _ _ _ _ _ _ _ (sym c.if-rises_below.ensures) c.meets_good.ensures

pub returns-else-rises_below : goal.returns-else-rises_below
returns-else-rises_below c = c.if-rises_below.false ∙ entries_no _ _ _ _ _ _ (sym c.if-rises_below.ensures)
