-- `probabilities::nested` meets its contract. Behind n turns the sum is that of the last n terms. Assumes nothing.
use mathlib.Core.Path.{◌≡◌, refl, sym, ap, ◌∙◌}
use Prim.Native.Nat.{ℕ, zero, suc, ◌+◌, ◌-◌, ◌*◌, ◌/◌, ◌^◌, ◌≤◌, ◌<◌}
use native.Mathlib.Nat.{mul-le-mul, div-le_self}
use native.Mathlib.Omega.{arith}
use Rattle.probabilities.specs.Logarithm.{terms}
use Rattle.probabilities.specs.Scaled.{nested}
use Rattle.probabilities.proofs.Sums.{nested_small}
use Rattle.probabilities.proofs.nested.Goals as goal

-- what a turn adds up fits
module _ (n j u s : ℕ) (small : 9 * u ≤ 2 ^ 32) (e : s ≡ nested n j u) where
  product_fits : u * s < 2 ^ 64
  product_fits =
      omega (arith, e, mul-le-mul (let f : u ≤ 2 ^ 29 = omega arith in f) (let f : s ≤ 2 ^ 33 = omega (arith, e, nested_small n j u small) in f))

  sum_fits : (w : ℕ) → 2 ^ 32 / w + u * s / 2 ^ 32 < 2 ^ 64
  sum_fits w = omega (arith, product_fits, div-le_self (2 ^ 32) w)

-- one turn: a term more in front
turn : (j u s : ℕ) → 0 < j → j ≤ terms → s ≡ nested (terms - j) j u → 2 ^ 32 / (2 * (j - 1) + 1) + u * s / 2 ^ 32 ≡ nested (terms - (j - 1)) (j - 1) u
unfolding nested
turn zero u s p h e = omega arith
turn (suc j) u s p h e =
    let i : suc j - 1 ≡ j = omega arith in
    let n : terms - (suc j - 1) ≡ suc (terms - suc j) = omega arith in
    ap (λ (m : ℕ). 2 ^ 32 / (2 * m + 1) + u * s / 2 ^ 32) i
    ∙ ap (λ (m : ℕ). 2 ^ 32 / (2 * j + 1) + u * m / 2 ^ 32) e
    ∙ ap (λ (m : ℕ). nested (suc (terms - suc j)) m u) (sym i)
    ∙ ap (λ (m : ℕ). nested m (suc j - 1) u) (sym n)

pub loop-j-init : goal.loop-j-init
unfolding nested
loop-j-init c = refl

pub overflow_mul-sum-in-loop-j : goal.overflow_mul-sum-in-loop-j
overflow_mul-sum-in-loop-j c =
    record { fits = product_fits (terms - c.loop-j.j) c.loop-j.j c.args.u c.loop-j.sum c.requires c.loop-j.invariant }

pub loop-j-preserved : goal.loop-j-preserved
loop-j-preserved c = turn c.loop-j.j c.args.u c.loop-j.sum c.loop-j-test.true (omega arith) c.loop-j.invariant
