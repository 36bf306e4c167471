-- `stream_lines::refused_line` meets its contract. It is a line of two numbers. Assumes nothing.
use Rattle.stream_lines.specs.Lines.{refused_line}
use Rattle.stream_lines.proofs.refused_line.Goals as goal

pub returns : goal.returns
unfolding refused_line
returns c = c.numbers_line.ensures
