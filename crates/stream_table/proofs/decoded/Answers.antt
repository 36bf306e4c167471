-- `stream_table::decoded` meets its contract. What is read is built, and the shot decoded over that. Assumes nothing.
use Rattle.stream_table.proofs.Laws.{decoded_built}
use Rattle.stream_table.proofs.decoded.Goals as goal

pub returns : goal.returns
returns c =
    decoded_built _ _ _ _ _ _ _ _ _ _ _ _ _ _ _
    c.read_model.ensures
    c.build_sparse.ensures
    c.decode.ensures
