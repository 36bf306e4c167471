-- `min_sum_pass::check::send` meets its contract. The invariant: the messages passed are those sent. Assumes nothing.
use mathlib.Core.Path.{refl, ◌∙◌}
use Prim.Native.Nat.{◌<◌}
use native.Mathlib.Omega.{arith}
use lib.ListN.{length}
use Rattle.numbers.proofs.Turns.{table_turn}
use Rattle.min_sum_pass.specs.MinSum.{sent_to}
use Rattle.min_sum_pass.proofs.Sends.{one_minimum}
use Rattle.min_sum_pass.proofs.check.send.Goals as goal

pub loop-i-init : goal.loop-i-init
unfolding sent_to
loop-i-init c = refl

pub loop-i-preserved : goal.loop-i-preserved
unfolding sent_to
loop-i-preserved c =
    let h : c.loop-i.i < length c.loop-i.c_to_v = omega arith in
    table_turn _ _ c.loop-i.i _ h c.loop-i.invariant (c.sent_at.ensures ∙ one_minimum _ _ _ _ c.loop-i.i)
