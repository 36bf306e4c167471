-- `graph_tests::offsets_good` meets its contract. The definition, with what each test ensures. Assumes nothing.
use Rattle.std.proofs.Common.{rules}
use Rattle.graph_lists.specs.Model.{offsets_good}
use Rattle.graph_tests.proofs.offsets_good.Goals as goal
use Rattle.graph_tests.proofs.offsets_good.Goals.{then-at-eq0, else-at-eq0}

pub returns-then-rises : goal.returns-then-rises
unfolding offsets_good
returns-then-rises c = elim c.if-at-eq0.branch [ then-at-eq0 w ↦ search rules | else-at-eq0 w ↦ search rules ]

pub returns-else-rises : goal.returns-else-rises
unfolding offsets_good
returns-else-rises c = elim c.if-at-eq0.branch [ then-at-eq0 w ↦ search rules | else-at-eq0 w ↦ search rules ]
