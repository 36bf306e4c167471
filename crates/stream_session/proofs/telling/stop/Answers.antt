-- `stream_session::telling::stop` meets its contract. The line is that of the refusal's number. Assumes nothing.
use Rattle.stream_session.specs.Shots.{stops}
use Rattle.stream_session.proofs.telling.stop.Goals as goal

pub returns : goal.returns
unfolding stops
returns c = rw (c.stopped_line-n.ensures.0, c.stopped_line-n.ensures.1, c.number_of.ensures)
