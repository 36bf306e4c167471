-- `stream_session::telling::reads` meets its contract. Field by field. Assumes nothing.
use Rattle.std.proofs.Common.{refl}
use Rattle.stream_session.specs.Shots.{reads}
use Rattle.stream_session.proofs.telling.reads.Goals as goal

pub returns : goal.returns
unfolding reads
returns c = refl
