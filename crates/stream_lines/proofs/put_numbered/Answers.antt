-- `stream_lines::put_numbered` meets its contract. The word, and the number behind it. Assumes nothing.
use native.Mathlib.Omega.{arith}
use Rattle.stream_lines.proofs.Puts.{then}
use Rattle.stream_lines.proofs.put_numbered.Goals as goal

pub returns : goal.returns
returns c =
    (omega (arith, c.put_word-next.ensures.0, c.put_decimal.ensures.0), then _ _ _ _ _ _ _ _ c.put_word-next.ensures.1 c.put_decimal.ensures.1)
