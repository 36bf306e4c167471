-- `relay_check::send` meets its contract. The invariant: the messages passed are those chosen. Assumes nothing.
use mathlib.Core.Path.{refl}
use Prim.Native.Nat.{◌<◌}
use native.Mathlib.Omega.{arith}
use lib.ListN.{length}
use Rattle.numbers.proofs.Turns.{table_turn}
use Rattle.relay_check.specs.Places.{by_signs}
use Rattle.relay_check.proofs.send.Goals as goal

pub loop-i-init : goal.loop-i-init
unfolding by_signs
loop-i-init c = refl

pub loop-i-preserved : goal.loop-i-preserved
unfolding by_signs
loop-i-preserved c = let h : c.loop-i.i < length c.loop-i.c_to_v = omega arith in table_turn _ _ c.loop-i.i _ h c.loop-i.invariant c.by_sign.ensures
