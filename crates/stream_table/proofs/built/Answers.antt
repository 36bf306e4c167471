-- `stream_table::built` meets its contract. What is read is built. Assumes nothing.
use mathlib.Core.Path.{ap}
use Rattle.graph_lists.specs.Model.{BuildOutcome}
use Rattle.stream_table.proofs.Laws.{built_read}
use Rattle.stream_table.proofs.built.Goals as goal

pub returns : goal.returns
returns c =
    ap (λ (o : BuildOutcome). o.answer) (built_read _ _ _ _ _ _ _ _ _
    c.read_model.ensures
    c.build_sparse.ensures)
