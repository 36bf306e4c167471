-- `relay_step::leg::parity` meets its contract. The invariant: the parity is that of the entries passed.
-- Assumes nothing.
use mathlib.Core.Path.{◌≡◌}
use lib.ListN.{take}
use Rattle.relay_step.specs.Leg.{parity}
use Rattle.relay_step.proofs.leg.parity.Given as goal

abbrev pub invariant-loop-v : goal.invariant-loop-v
invariant-loop-v l = l.p ≡ parity l.bits (take l.v-index l.entries)
