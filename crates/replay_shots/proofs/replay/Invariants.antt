-- `replay_shots::replay` is safe, and ends: each stream is at least the four bytes of its length. Assumes nothing.
use Rattle.std.proofs.Common.{length}
use Rattle.replay_shots.proofs.replay.Given as goal

abbrev pub decreases-loop-length : goal.decreases-loop-length
decreases-loop-length g l = length l.rest
