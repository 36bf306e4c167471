-- `stream_lines::stopped_line` meets its contract. It is a line of two numbers. Assumes nothing.
use Rattle.stream_lines.specs.Lines.{stopped_line}
use Rattle.stream_lines.proofs.stopped_line.Goals as goal

pub returns : goal.returns
unfolding stopped_line
returns c = c.numbers_line.ensures
