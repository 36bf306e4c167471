-- `stream_session::take` meets its contract. A byte ends a record or not. Assumes nothing.
use Rattle.std.proofs.Common.{sym, ◌∙◌}
use Rattle.stream_session.proofs.Cases.{byte_after, byte_whole, byte_more}
use Rattle.stream_session.proofs.take.Goals as goal

pub returns-then-s : goal.returns-then-s
returns-then-s c = byte_after _ _ _ _ _ _ c.if-s.true c.reads.ensures

pub returns-then-is_whole : goal.returns-then-is_whole
returns-then-is_whole c =
    byte_whole _ _ _ _ _ _ _ _ _ c.if-s.false
    c.push-reader.ensures
    c.reads-next.ensures (sym
    c.is_whole.ensures ∙ c.if-is_whole.true)
    c.take_record.ensures

pub returns : goal.returns
returns c = byte_more _ _ _ _ _ _ _ _ c.if-s.false c.push-reader.ensures c.reads-next.ensures (sym c.is_whole.ensures ∙ c.if-is_whole.false)
