-- `graph_tests::repeated_in_many` meets its contract. The invariant: whether d is among the first k. Assumes nothing.
use mathlib.Core.Path.{refl, sym, ap, ◌∙◌}
use mathlib.Core.Bool.{◌||◌}
use native.Mathlib.Omega.{arith}
use lib.Dec.{eqb}
use Rattle.graph_lists.specs.Lists.{has}
use Rattle.graph_lists.proofs.ModelTests.{repeat_more}
use Rattle.graph_tests.proofs.repeated_in_many.Goals as goal

pub loop-k-init : goal.loop-k-init
unfolding has
loop-k-init c = refl

pub loop-k-preserved : goal.loop-k-preserved
loop-k-preserved c =
    ap (λ b. b || eqb c.at.result c.args.d) c.loop-k.invariant
    ∙ sym (repeat_more c.args.ds.now c.loop-k.k c.args.d c.at.result (omega arith) c.at.ensures)
