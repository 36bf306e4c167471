-- `stream_session::finish` meets its contract. Case by case. Assumes nothing.
use Rattle.stream_session.specs.Shots.{end_text}
use Rattle.stream_session.proofs.Cases.{text_written, cut_text, shots_text}
use Rattle.stream_session.proofs.finish.Goals as goal

pub returns-then-s : goal.returns-then-s
unfolding end_text
returns-then-s c = (rw c.if-s.true, rw c.if-s.true)

pub returns-in-Err : goal.returns-in-Err
returns-in-Err c =
    text_written _ _ _ _ _ (cut_text _ _ _ _ c.if-s.false
    c.at_end.ensures c.in-Err.is c.number_of.ensures)
    c.stopped_line.ensures.0 c.stopped_line.ensures.1

pub returns-in-Ok : goal.returns-in-Ok
returns-in-Ok c = text_written _ _ _ _ _ (shots_text _ _ c.if-s.false c.at_end.ensures c.in-Ok.is) c.end_line.ensures.0 c.end_line.ensures.1
