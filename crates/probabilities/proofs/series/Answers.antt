-- `probabilities::series` meets its contract. Both products have 64 bits. Assumes nothing.
use mathlib.Core.Path.{◌≡◌, ap}
use Prim.Native.Nat.{ℕ, ◌-◌, ◌*◌, ◌/◌, ◌^◌, ◌≤◌, ◌<◌}
use native.Mathlib.Nat.{mul-le-mul}
use native.Mathlib.Omega.{arith}
use Rattle.probabilities.specs.Logarithm.{terms}
use Rattle.probabilities.specs.Scaled.{nested, series}
use Rattle.probabilities.proofs.Sums.{squared_small, nested_small}
use Rattle.probabilities.proofs.series.Goals as goal

product_fits : (t s : ℕ) → 3 * t ≤ 2 ^ 32 → s ≡ nested terms 0 (t * t / 2 ^ 32) → t * s < 2 ^ 64
product_fits t s h e =
    let f : s ≤ 2 ^ 33 = omega (arith, e, nested_small terms 0 (t * t / 2 ^ 32) (squared_small t h)) in
    let g : t ≤ 2 ^ 31 - 1 = omega arith in
    omega (arith, mul-le-mul g f)

answer : (t s : ℕ) → s ≡ nested terms 0 (t * t / 2 ^ 32) → t * s / 2 ^ 32 ≡ series t
unfolding series
answer t s e = ap (λ (n : ℕ). t * n / 2 ^ 32) e

pub overflow_mul-result : goal.overflow_mul-result
overflow_mul-result c = record { fits = product_fits c.args.t c.nested.result c.requires c.nested.ensures }

pub returns : goal.returns
returns c = answer c.args.t c.nested.result c.nested.ensures
