-- `replay_cases::read_whole` meets its contract. What a read gives is no more than the room that is left. Assumes nothing.
use Rattle.std.proofs.Common.{arith}
use Rattle.replay_cases.proofs.read_whole.Goals as goal

pub returns : goal.returns
returns g c = omega arith

pub loop-done-preserved : goal.loop-done-preserved
loop-done-preserved g c = omega (arith, c.in_ok-n.ensures.bound.0)
