-- `relay_gammas::draw_gammas` meets its contract. The invariant: the generator's state and the gammas passed are the definition's after as many draws.
-- Assumes nothing.
use mathlib.Core.Path.{◌≡◌}
use lib.ListN.{take}
use Rattle.relay_gammas.specs.Gammas.{drawn}
use Rattle.relay_gammas.proofs.draw_gammas.Given as goal

abbrev pub invariant-loop-g : goal.invariant-loop-g
invariant-loop-g l = (l.generator.state ≡ (drawn l.low l.high l.start l.g-index).state) × (take l.g-index l.gamma ≡ (drawn l.low l.high l.start l.g-index).gammas)
