-- The rounded t of a ratio that is taken apart is at most 1 / 3, and near the t of the ratio by 4. Assumes nothing.
use mathlib.Core.Path.{◌≡◌, ap}
use mathlib.Core.Logic.{⊎_elim}
use Prim.Native.Nat.{ℕ, ◌+◌, ◌-◌, ◌*◌, ◌^◌, ◌≤◌, ◌<◌}
use native.Mathlib.Nat.{add-mul, mul-add, mul_assoc, mul_right_comm, mul-le-mul_right, mul-le-mul_left, div-add-mod', mod-lt, le_of_mul-le-mul_right, lt_of_mul-lt-mul_right, zero-mul}
use native.Mathlib.Omega.{arith}
use Rattle.numbers.proofs.Cases.{less_or_not}
use Rattle.probabilities.specs.Fractions.{Near}
use Rattle.probabilities.specs.Logarithm.{tangent}
use Rattle.probabilities.specs.Scaled.{slope}
use Rattle.probabilities.specs.Ratios.{Split}

-- ---- the quotient

-- its two bounds
slope_low : (h l : ℕ) → slope h l * (h + l + 2) ≤ (h - l - 1) * 2 ^ 32
unfolding slope
slope_low h l = omega (arith, div-add-mod' ((h - l - 1) * 2 ^ 32) (h + l + 2))

slope_high : (h l : ℕ) → (h - l - 1) * 2 ^ 32 < slope h l * (h + l + 2) + (h + l + 2)
unfolding slope
slope_high h l = omega (arith, div-add-mod' ((h - l - 1) * 2 ^ 32) (h + l + 2), mod-lt ((h - l - 1) * 2 ^ 32) {m = h + l + 2} (omega arith))

-- at most 1 / 3
pub slope_third : (h l : ℕ) → h ≤ 2 * l + 1 → 3 * slope h l ≤ 2 ^ 32
slope_third h l d =
    le_of_mul-le-mul_right {k = h + l + 2}
    (omega (arith, slope_low h l, mul_assoc 3 (slope h l) (h + l + 2)))
    (omega arith)

-- ---- a ratio taken apart

module _ (a b k h l : ℕ) (s : Split a b k h l) where
  -- in units: the greater is at least the less
  pub split_order : l ≤ h
  split_order =
      let e : l * 2 ^ s.digits < (h + 1) * 2 ^ s.digits = omega (arith, s.low_low, s.least, s.high_high) in
      omega (arith, lt_of_mul-lt-mul_right (2 ^ s.digits) e)

  -- and at most twice it
  pub split_double : h ≤ 2 * l + 1
  split_double =
      let e : h * 2 ^ s.digits < (2 * l + 2) * 2 ^ s.digits =
      omega (arith, s.high_low, s.double, s.low_high, add-mul l 1 (2 ^ s.digits), add-mul (2 * l) 2 (2 ^ s.digits), mul_assoc 2 l (2 ^ s.digits)) in
      omega (arith, lt_of_mul-lt-mul_right (2 ^ s.digits) e)

  pub slope_small : 3 * slope h l ≤ 2 ^ 32
  slope_small = slope_third h l split_double

  -- the difference from below
  difference_low : (h - l - 1) * 2 ^ s.digits + b * 2 ^ k ≤ a
  difference_low =
      ⊎_elim
      (λ (g : h < l + 1).
      let e : h - l - 1 ≡ 0 = omega arith in
      omega (arith, s.least, ap (λ (m : ℕ). m * 2 ^ s.digits) e, zero-mul (2 ^ s.digits)))
      (λ (g : l + 1 ≤ h).
      let e : h - l - 1 + (l + 1) ≡ h = omega arith in
      omega (arith, s.high_low, s.low_high, add-mul (h - l - 1) (l + 1) (2 ^ s.digits), ap (λ (m : ℕ). m * 2 ^ s.digits) e))
      (less_or_not h (l + 1))

  -- and from above
  difference_high : a ≤ (h - l + 1) * 2 ^ s.digits + b * 2 ^ k
  difference_high =
      let o = split_order in
      let e : h - l + 1 + l ≡ h + 1 = omega arith in
      omega (arith, s.high_high, s.low_low, add-mul (h - l + 1) l (2 ^ s.digits), ap (λ (m : ℕ). m * 2 ^ s.digits) e)

  -- the sum from both sides
  sum_low : (h + l) * 2 ^ s.digits ≤ a + b * 2 ^ k
  sum_low = omega (arith, s.high_low, s.low_low, add-mul h l (2 ^ s.digits))

  sum_high : a + b * 2 ^ k ≤ (h + l + 2) * 2 ^ s.digits
  sum_high =
      let e : h + 1 + (l + 1) ≡ h + l + 2 = omega arith in
      omega (arith, s.high_high, s.low_high, add-mul (h + 1) (l + 1) (2 ^ s.digits), ap (λ (m : ℕ). m * 2 ^ s.digits) e)

  -- near the t of the ratio
  near_low : slope h l * (a + b * 2 ^ k) ≤ (a - b * 2 ^ k) * 2 ^ 32
  near_low =
      omega (
        arith,
        mul-le-mul_left (slope h l) sum_high,
        mul_assoc (slope h l) (h + l + 2) (2 ^ s.digits),
        mul-le-mul_right (2 ^ s.digits) (slope_low h l),
        mul_right_comm (h - l - 1) (2 ^ 32) (2 ^ s.digits),
        difference_low,
      )

  -- what is lost by the units and by the quotient is less than 4 of them
  room : (h - l + 1) * 2 ^ 32 ≤ (slope h l + 4) * (h + l)
  room =
      omega (
        arith,
        slope_high h l,
        slope_small,
        s.bits,
        split_order,
        mul-add (slope h l) (h + l) 2,
        add-mul (slope h l) 4 (h + l),
      )

  near_high : (a - b * 2 ^ k) * 2 ^ 32 ≤ (slope h l + 4) * (a + b * 2 ^ k)
  near_high =
      omega (
        arith,
        mul-le-mul_left (slope h l + 4) sum_low,
        mul_assoc (slope h l + 4) (h + l) (2 ^ s.digits),
        mul-le-mul_right (2 ^ s.digits) room,
        mul_right_comm (h - l + 1) (2 ^ 32) (2 ^ s.digits),
        difference_high,
      )

  pub near_slope : Near 4 (slope h l) (tangent k a b)
  near_slope = record { low = near_low; high = near_high }
