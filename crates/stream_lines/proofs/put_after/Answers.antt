-- `stream_lines::put_after` meets its contract. Without bits there is nothing to write; else a space, and the bits.
-- Assumes nothing.
use Rattle.stream_lines.proofs.Puts.{retext, then, after_none, after_some}
use native.Mathlib.Omega.{arith}
use Rattle.stream_lines.proofs.put_after.Goals as goal

pub returns-then-bits-eq0 : goal.returns-then-bits-eq0
returns-then-bits-eq0 c = (omega arith, after_none _ _ _ c.if-bits-eq0.true)

pub returns : goal.returns
returns c = (
  omega (arith, c.put_bits.ensures.0, c.put_word-next.ensures.0),
  retext _ _ _ _ _ _ (after_some c.args.bits.now c.if-bits-eq0.false)
      (then _ _ _ _ _ _ _ _ c.put_word-next.ensures.1 c.put_bits.ensures.1),
)
