-- `stream_lines::end_line` meets its contract. Part by part. Assumes nothing.
use native.Mathlib.Omega.{arith}
use Rattle.stream_lines.specs.Lines.{end_line}
use Rattle.stream_lines.proofs.Puts.{then, line}
use Rattle.stream_lines.proofs.end_line.Goals as goal

pub returns : goal.returns
unfolding end_line
returns c =
    line _ _ _ _ (then _ _ _ _ _ _ _ _ c.put_numbered-a.ensures.1 c.put_word.ensures.1)
    (omega (arith, c.put_numbered-a.ensures.0, c.put_word.ensures.0))
    (omega (arith, c.put_numbered-a.auto.out, c.put_word.auto.out))
