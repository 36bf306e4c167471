-- `graph_tests::seven::rises_below` meets its contract. The invariant: those before x rise, and `least` is one more than the last of them. Assumes nothing.
use mathlib.Core.Path.{◌≡◌, refl, sym}
use native.Mathlib.Omega.{arith}
use lib.ListN.{length}
use Rattle.numbers.proofs.Cases.{every_turn, every_stop}
use Rattle.graph_lists.specs.QuickTest.{step_good, rises_below}
use Rattle.graph_lists.proofs.QuickTurns.{step_yes, step_low, step_high, low_next, low_first}
use Rattle.graph_tests.proofs.seven.rises_below.Goals as goal
use Rattle.graph_tests.proofs.seven.rises_below.Goals.{then-x-least-via-then-x-least, then-x-least-via-else-x-least+then-n-x}

pub loop-x-init : goal.loop-x-init
loop-x-init c = (low_first _, refl)

pub returns-then-x-least : goal.returns-then-x-least
unfolding rises_below
returns-then-x-least c = sym (every_stop (step_good c.args.n c.args.xs.now) c.loop-x.x-index _ c.loop-x-test.true (elim c.then-x-least.branch [
  | then-x-least-via-then-x-least w ↦ step_low c.args.n c.args.xs.now c.loop-x.x-index _ _ c.loop-x.invariant.0 refl w.if-x-least.true
  | then-x-least-via-else-x-least+then-n-x w ↦ step_high c.args.n c.args.xs.now c.loop-x.x-index _ refl w.if-n-x.true
]))

pub loop-x-preserved : goal.loop-x-preserved
loop-x-preserved c = (
  low_next _ c.loop-x.x-index _ refl,
  every_turn (step_good c.args.n c.args.xs.now) c.loop-x.x-index c.loop-x.invariant.1
      (step_yes _ _ c.loop-x.x-index _ _ c.loop-x.invariant.0 refl c.if-x-least.false c.if-n-x.false),
)

pub returns : goal.returns
unfolding rises_below
returns c = let e : c.loop-x.x-index ≡ length c.args.xs.now = omega arith in sym (rw e at c.loop-x.invariant.1)
