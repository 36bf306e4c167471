-- `relay_step::step::bias_of` meets its contract. The code is the definition's expression.
-- Assumes nothing.
use mathlib.Core.Path.{refl}
use Rattle.relay_step.specs.Step.{bias_of}
use Rattle.relay_step.proofs.step.bias_of.Goals as goal

pub returns : goal.returns
unfolding bias_of
returns c = refl
