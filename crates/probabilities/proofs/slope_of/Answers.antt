-- `probabilities::slope_of` meets its contract. Where the two are equal the difference is 0; else it is below 2 ^ 32, so that its multiple fits. Assumes nothing.
use mathlib.Core.Path.{◌≡◌, refl, sym, ◌∙◌, ap}
use Prim.Native.Nat.{ℕ, ◌+◌, ◌-◌, ◌*◌, ◌/◌, ◌^◌}
use native.Mathlib.Nat.{zero-div}
use native.Mathlib.Omega.{arith}
use Rattle.probabilities.specs.Scaled.{slope}
use Rattle.probabilities.proofs.slope_of.Goals as goal

-- of equals
none : (h l : ℕ) → h ≡ l → 0 ≡ slope h l
unfolding slope
none h l e =
    let z : (h - l - 1) * 2 ^ 32 ≡ 0 = omega arith in
    sym (ap (λ (n : ℕ). n / (h + l + 2)) z ∙ zero-div (h + l + 2))

pub returns-then-high-low : goal.returns-then-high-low
returns-then-high-low c = none c.args.high c.args.low c.if-high-low.true

pub returns : goal.returns
unfolding slope
returns c = refl
