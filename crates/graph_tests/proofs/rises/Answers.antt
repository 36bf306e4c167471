-- `graph_tests::rises` meets its contract. The invariant: no offset up to r is below the one before it. Assumes nothing.
use mathlib.Core.Path.{refl, sym}
use Rattle.numbers.proofs.Cases.{every_turn, every_stop}
use Rattle.graph_lists.specs.Model.{rising}
use Rattle.graph_lists.proofs.ModelTests.{rising_yes, rising_no}
use Rattle.graph_tests.proofs.rises.Goals as goal

pub returns-then-off-r : goal.returns-then-off-r
returns-then-off-r c = sym (every_stop (rising c.args.off.now) c.loop-r.r _ c.loop-r-test.true (rising_no _ _ _ _ refl refl c.if-off-r.true))

pub loop-r-preserved : goal.loop-r-preserved
loop-r-preserved c = every_turn (rising c.args.off.now) c.loop-r.r c.loop-r.invariant (rising_yes _ _ _ _ refl refl c.if-off-r.false)
