-- `stream_lines::bit_digit` meets its contract. Either way.
-- Assumes nothing.
use borrow.Author.Tests.{eq-eqb, ne_eqb}
use Rattle.stream_lines.specs.Lines.{bit_digit}
use Rattle.stream_lines.proofs.bit_digit.Goals as goal

pub returns-then-bit-eq0 : goal.returns-then-bit-eq0
unfolding bit_digit
returns-then-bit-eq0 c = rw (eq-eqb _ _ c.if-bit-eq0.true)

pub returns : goal.returns
unfolding bit_digit
returns c = rw (ne_eqb _ _ c.if-bit-eq0.false)
