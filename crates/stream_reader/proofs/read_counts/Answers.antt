-- `stream_reader::read_counts` meets its contract. Count by count.
-- Assumes nothing.
use Rattle.stream_grammar.specs.Stream.{checks, mechanisms, edges}
use Rattle.stream_grammar.specs.Fields.{counts_read}
use Rattle.stream_reader.proofs.read_counts.Goals as goal

pub returns : goal.returns
unfolding counts_read checks mechanisms edges
returns c = rw (c.number4-3.ensures.0, c.number4-2.ensures.0, c.number4.ensures.0)
