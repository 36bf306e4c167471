-- `stream_lines::put_bits` meets its contract. The invariant: behind the front stand the bits passed.
-- Assumes nothing.
use mathlib.Core.List.{map}
use Prim.Native.Nat.{◌+◌}
use lib.ListN.{take}
use Rattle.stream_lines.specs.Lines.{bit_digit}
use Rattle.stream_lines.specs.Writing.{Put}
use Rattle.stream_lines.proofs.put_bits.Given as goal

abbrev pub invariant-loop-i : goal.invariant-loop-i
invariant-loop-i l = Put (map bit_digit (take l.i l.bits)) l.initial.out l.at l.out (l.at + l.i)
