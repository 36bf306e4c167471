-- `graph_tests::repeated_in_few` meets its contract. The invariant: d is not among the first j. Assumes nothing.
use mathlib.Core.Path.{refl, sym}
use native.Mathlib.Omega.{arith}
use Rattle.graph_lists.specs.Lists.{has}
use Rattle.graph_lists.proofs.ModelTests.{repeat_turn, repeat_found}
use Rattle.graph_tests.proofs.repeated_in_few.Goals as goal

pub loop-j-init : goal.loop-j-init
unfolding has
loop-j-init c = refl

pub returns-then-at-d : goal.returns-then-at-d
returns-then-at-d c = sym (repeat_found c.args.ds.now c.args.i c.loop-j.j _ _ c.loop-j-test.true c.requires c.at.ensures c.if-at-d.true)

pub loop-j-preserved : goal.loop-j-preserved
loop-j-preserved c = repeat_turn c.args.ds.now c.loop-j.j _ _ (omega arith) c.at.ensures c.loop-j.invariant c.if-at-d.false
