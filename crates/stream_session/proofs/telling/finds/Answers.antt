-- `stream_session::telling::finds` meets its contract. The line is written, and the shot counted. Assumes nothing.
use Rattle.stream_session.specs.Shots.{finds, says}
use Rattle.stream_session.proofs.telling.finds.Goals as goal

pub returns : goal.returns
unfolding finds says
returns c = rw (c.counted.ensures, c.shot_line-n.ensures.0, c.shot_line-n.ensures.1)
