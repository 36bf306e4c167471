-- `stream_lines::put_digits` meets its contract. It writes the last digit behind the digits of a tenth. Assumes nothing.
use native.Mathlib.Nat.{pos_of_ne-zero}
use native.Mathlib.Omega.{arith}
use Rattle.stream_lines.proofs.Puts.{retext, then, digits_none, digits_one, digits_last}
use Rattle.stream_lines.proofs.+put_digits.Goals as goal

pub returns-then-k-eq0 : goal.returns-then-k-eq0
returns-then-k-eq0 t c = (omega arith, digits_none _ _ _ _ c.if-k-eq0.true)

pub returns-then-n-lt10 : goal.returns-then-n-lt10
returns-then-n-lt10 t c = (
  omega (arith, pos_of_ne-zero c.if-k-eq0.false, c.put.ensures.0),
  retext _ _ _ _ _ _ (digits_one _ _ _ c.if-k-eq0.false c.if-n-lt10.true c.digit.ensures) c.put.ensures.1,
)

pub returns : goal.returns
returns t c = (
  omega (arith, pos_of_ne-zero c.if-k-eq0.false, c.put-2.ensures.0, c.put_digits-next.ensures.0),
  retext _ _ _ _ _ _ (digits_last _ _ _ c.if-k-eq0.false c.if-n-lt10.false c.digit-2.ensures)
      (then _ _ _ _ _ _ _ _ c.put_digits-next.ensures.1 c.put-2.ensures.1),
)
