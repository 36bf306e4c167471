-- `graph_lists::dense::mark` meets its contract. A zero byte adds nothing, and another its mechanism. Assumes nothing.
use Rattle.graph_lists.proofs.MatrixTurns.{mark_none, mark_one, mark_room}
use Rattle.graph_lists.proofs.dense.mark.Goals as goal

pub returns-then-byte-eq0 : goal.returns-then-byte-eq0
returns-then-byte-eq0 c = mark_none _ _ _ _ c.if-byte-eq0.true

pub put-requires : goal.put-requires
put-requires c = (mark_room _ _ _ _ c.if-byte-eq0.false c.requires.0, c.requires.1)

pub returns : goal.returns
returns c = mark_one _ _ _ c.args.out.now _
    c.if-byte-eq0.false (mark_room _ _ _ _
    c.if-byte-eq0.false c.requires.0) c.put.ensures
