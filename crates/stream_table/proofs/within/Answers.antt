-- `stream_table::within` meets its contract. One call. Assumes nothing.
use Rattle.stream_table.specs.Table.{within}
use Rattle.stream_table.proofs.within.Goals as goal

pub returns : goal.returns
unfolding within
returns c = c.counts_within.ensures
