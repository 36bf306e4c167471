-- `stream_session::telling::goes_on` meets its contract. Field by field. Assumes nothing.
use Rattle.std.proofs.Common.{refl}
use Rattle.stream_session.specs.Shots.{goes_on}
use Rattle.stream_session.proofs.telling.goes_on.Goals as goal

pub returns : goal.returns
unfolding goes_on
returns c = refl
