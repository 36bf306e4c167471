-- `stream_reader::push` meets its contract. The record that takes the byte, the byte kept, and the fields after it.
-- Assumes nothing.
use Rattle.stream_reader.specs.Reading.{pushed}
use Rattle.stream_reader.proofs.push.Goals as goal

pub returns : goal.returns
unfolding pushed
returns c = rw (c.added.ensures, c.keep.ensures, c.opened-open.ensures)
