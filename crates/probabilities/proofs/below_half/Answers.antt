-- `probabilities::below_half` meets its contract. 2 ^ 53 (1 - p), cut off, has 53 bits, and its unit is 2 ^ d of q's. Assumes nothing.
use mathlib.Core.Path.{refl}
use Prim.Native.Nat.{◌+◌, ◌-◌, ◌^◌}
use native.Mathlib.Omega.{arith}
use Rattle.probabilities.proofs.Splits.{taken_small, rest_low, rest_high}
use Rattle.probabilities.proofs.below_half.Goals as goal

pub split-requires : goal.split-requires
split-requires c = omega (arith, taken_small c.args.q c.args.d c.requires.0 c.requires.1 c.requires.2)

pub returns : goal.returns
returns c =
    (c.split.ensures.0, c.split.ensures.1 (2 ^ (53 + c.args.d) - c.args.q) c.args.q c.args.d (rest_low c.args.q c.args.d c.requires.0 c.requires.1 c.requires.2) (rest_high c.args.q c.args.d c.requires.0 c.requires.1 c.requires.2) refl)
