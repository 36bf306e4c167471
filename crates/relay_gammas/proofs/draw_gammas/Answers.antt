-- `relay_gammas::draw_gammas` meets its contract. The invariant: the generator's state and the gammas passed are the definition's after as many draws.
-- Assumes nothing.
use mathlib.Core.Path.{refl}
use Prim.Native.Nat.{◌<◌}
use native.Mathlib.Omega.{arith}
use lib.ListN.{length}
use Rattle.relay_gammas.specs.Gammas.{drawn}
use Rattle.relay_gammas.proofs.Draws.{draw_state, draw_turn}
use Rattle.relay_gammas.proofs.draw_gammas.Goals as goal

pub loop-g-init : goal.loop-g-init
unfolding drawn
loop-g-init c = (c.new-generator.ensures, refl)

pub loop-g-preserved : goal.loop-g-preserved
loop-g-preserved c = (
  draw_state _ _ _ c.loop-g.g-index _ c.loop-g.invariant.0 _ c.draw-d.ensures.next,
  let h : c.loop-g.g-index < length c.loop-g.gamma = omega arith in
      draw_turn _ _ _ c.loop-g.g-index _ c.loop-g.invariant.0 c.loop-g.gamma _ _ h c.loop-g.invariant.1 c.draw-d.ensures.value c.gamma.ensures,
)
