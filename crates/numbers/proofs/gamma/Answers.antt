-- `numbers::gamma` meets its contract. The definition, with what `unit` ensures. Assumes nothing.
use Rattle.numbers.specs.Draw.{gamma}
use Rattle.numbers.proofs.gamma.Goals as goal

pub returns : goal.returns
unfolding gamma
returns c = rw c.unit.ensures
