-- `relay_step::step::compute_bias` meets its contract. The invariant: the biases passed are written.
-- Assumes nothing.
use mathlib.Core.Path.{◌≡◌}
use lib.ListN.{take}
use Rattle.relay_step.specs.Step.{biases_to}
use Rattle.relay_step.proofs.step.compute_bias.Given as goal

abbrev pub invariant-loop-v : goal.invariant-loop-v
invariant-loop-v l = take l.v l.bias ≡ biases_to l.priors l.gamma l.posterior l.v
