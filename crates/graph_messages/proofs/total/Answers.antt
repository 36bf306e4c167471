-- `graph_messages::total` meets its contract. The invariant: the sum is that of the entries passed. Assumes nothing.
use mathlib.Core.Path.{refl}
use lib.Ieee.{of_bits, neg}
use Rattle.graph_lists.specs.Messages.{total}
use Rattle.numbers.proofs.Turns.{fold_turn}
use Rattle.graph_messages.proofs.total.Goals as goal

pub loop-m-init : goal.loop-m-init
unfolding total of_bits neg
loop-m-init c = refl

pub loop-m-preserved : goal.loop-m-preserved
unfolding total
loop-m-preserved c = fold_turn _ _ _ _ _ c.loop-m.m-index _ 0 c.loop-m-test.true refl c.loop-m.invariant refl
