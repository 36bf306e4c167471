-- `stream_session::taking::take_shot` meets its contract. The correction has the model's mechanisms. Assumes nothing.
use Rattle.stream_grammar.specs.Fields.{counts_read}
use Rattle.stream_session.specs.Shots.{shot_taken}
use Rattle.stream_session.proofs.taking.take_shot.Goals as goal

pub returns : goal.returns
unfolding shot_taken counts_read
returns c = rw (c.shot_told.ensures, c.front-n.ensures.1, c.read_counts-c.ensures)
