-- `stream_lines::put_decimal` meets its contract. Twenty digits.
-- Assumes nothing.
use Rattle.stream_lines.specs.Lines.{decimal}
use Rattle.stream_lines.proofs.put_decimal.Goals as goal

pub returns : goal.returns
unfolding decimal
returns c = c.put_digits.ensures
