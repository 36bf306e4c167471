-- `relay_gammas::stream_number` meets its contract. The lower 48 bits, shifted by 16, and the leg below them.
-- Assumes nothing.
use Rattle.relay_gammas.proofs.Draws.{stream_is}
use Rattle.relay_gammas.proofs.stream_number.Goals as goal

pub returns : goal.returns
returns c = stream_is _ _ c.requires
