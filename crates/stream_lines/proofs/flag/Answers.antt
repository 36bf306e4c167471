-- `stream_lines::flag` meets its contract. Either way.
-- Assumes nothing.
use Rattle.stream_lines.specs.Lines.{flag}
use Rattle.stream_lines.proofs.flag.Goals as goal

pub returns-then-b : goal.returns-then-b
unfolding flag
returns-then-b c = rw c.if-b.true

pub returns : goal.returns
unfolding flag
returns c = rw c.if-b.false
