-- `stream_lines::put_bits` meets its contract. The invariant: behind the front stand the bits passed.
-- Assumes nothing.
use native.Mathlib.Omega.{arith}
use Rattle.stream_lines.specs.Lines.{bit_digit}
use Rattle.stream_lines.proofs.Puts.{bytes_turn}
use Rattle.stream_lines.proofs.put_bits.Goals as goal

pub loop-i-preserved : goal.loop-i-preserved
loop-i-preserved c = bytes_turn bit_digit c.args.bits.now c.args.out.now c.loop-i.out c.args.at c.loop-i.i _ c.loop-i-test.true (omega arith) c.bit_digit.ensures c.loop-i.invariant
