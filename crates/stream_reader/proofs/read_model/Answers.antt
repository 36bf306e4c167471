-- `stream_reader::read_model` meets its contract. Past the test each list is filled by its own loop.
-- Assumes nothing.
use Rattle.std.proofs.Common.{arith}
use Rattle.stream_grammar.specs.Fields.{within_room}
use Rattle.stream_grammar.proofs.Fills.{lists_left, lists_read}
use Rattle.stream_reader.proofs.read_model.Goals as goal

pub returns-then-mechanisms-gt-ROOM_MECHANISMS : goal.returns-then-mechanisms-gt-ROOM_MECHANISMS
unfolding within_room
returns-then-mechanisms-gt-ROOM_MECHANISMS c = lists_left _ _ _ _ (grind arith)

pub returns : goal.returns
unfolding within_room
returns c = lists_read _ _ _ _ _ _ _ (grind arith) c.priors_in.ensures c.offsets_in.ensures c.detectors_in.ensures
