-- `numbers::SplitMix64::draw` meets its contract. The value is the definition, step by step, with what each call ensures. Assumes nothing.
use Rattle.numbers.specs.Draw.{mixed}
use Rattle.numbers.proofs.SplitMix64.draw.Goals as goal

pub returns-clause-value : goal.returns-clause-value
unfolding mixed
returns-clause-value c = rw (c.wrapping_mul-b.ensures, c.wrapping_mul-a.ensures)
