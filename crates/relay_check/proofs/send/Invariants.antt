-- `relay_check::send` meets its contract. The invariant: the messages passed are those chosen. Assumes nothing.
use mathlib.Core.Path.{◌≡◌}
use lib.ListN.{take}
use Rattle.relay_check.specs.Places.{by_signs}
use Rattle.relay_check.proofs.send.Given as goal

abbrev pub invariant-loop-i : goal.invariant-loop-i
invariant-loop-i l = take l.i l.c_to_v ≡ by_signs l.minus l.plus l.v_to_c l.i
