-- Of two ratios the greater never gets the lesser logarithm, with all that is cut off; and the logarithm of 1 is 0. Assumes nothing.
use mathlib.Core.Path.{◌≡◌, sym, ap, ◌∙◌, subst}
use mathlib.Core.Logic.{⊎_elim}
use Prim.Native.Nat.{ℕ, zero, suc, ◌+◌, ◌-◌, ◌*◌, ◌/◌, ◌^◌, ◌≤◌, ◌<◌}
use native.Mathlib.Nat.{mul-one, mul-pos, mul-le-mul, mul-le-mul_left, mul-le-mul_right, lt_of_mul-lt-mul_right, lt_of_le_of_lt, pow-suc, zero-mul, zero-div}
use native.Mathlib.Omega.{arith}
use lib.Pow.{pow_pos}
use lib.Ieee.{size}
use lib.Ieee.Digits.{size-lt, size-le}
use lib.Ieee.Nearest.{div_mono}
use Rattle.numbers.proofs.Cases.{less_or_not}
use Rattle.probabilities.specs.Logarithm.{twos, terms}
use Rattle.probabilities.specs.Scaled.{leading, slope, nested, series, ln2_cut, scaled_after, scaled_size}
use Rattle.probabilities.proofs.Slopes.{slope_small}
use Rattle.probabilities.proofs.Scales.{twos_is, twos_least, twos_under, twos_double, leading_low, leading_high, leading_bits, leading_fits}
use Rattle.probabilities.proofs.Logs.{taken_apart}

-- ---- the partial sum

-- the brackets grow with u
nested_mono : (n j u v : ℕ) → u ≤ v → nested n j u ≤ nested n j v
unfolding nested
nested_mono zero j u v h = omega arith
nested_mono (suc n) j u v h = omega (arith, mul-le-mul h (nested_mono n (suc j) u v h))

-- and so does the partial sum with t
series_mono : (t s : ℕ) → t ≤ s → series t ≤ series s
unfolding series
series_mono t s h = omega (arith, mul-le-mul h (nested_mono terms 0 (t * t / 2 ^ 32) (s * s / 2 ^ 32) (omega (arith, mul-le-mul h h))))

-- twice that of the greatest t, 1 / 3 cut off, is at most ln 2 cut off
third_most : 2 * series 1431655765 ≤ ln2_cut
unfolding series nested
third_most = omega arith

-- so twice that of any t is
series_most : (t : ℕ) → 3 * t ≤ 2 ^ 32 → 2 * series t ≤ ln2_cut
series_most t h = omega (arith, third_most, series_mono t 1431655765 (omega arith))

-- that of 0 is 0
series_zero : series 0 ≡ 0
unfolding series
series_zero = omega (arith, zero-mul (nested terms 0 (0 * 0 / 2 ^ 32)))

-- ---- the quotient

-- where 1 - (2 l + 3) / (h + l + 2) does not fall, the quotient does not
slope_mono : (h l h' l' : ℕ) → 2 * l * h' + l + 3 * h' ≤ 2 * l' * h + l' + 3 * h → slope h' l' ≤ slope h l
unfolding slope
slope_mono h l h' l' o = div_mono ((h' - l' - 1) * 2 ^ 32) (h' + l' + 2) ((h - l - 1) * 2 ^ 32) (h + l + 2) (omega arith) (omega arith) (omega (arith, crossed))
  where
    -- with both above the cut
    above : (x y : ℕ) → x + l + 1 ≡ h → y + l' + 1 ≡ h' → y * (h + l + 2) ≤ x * (h' + l' + 2)
    above x y e f = omega (arith, o, ap (λ (n : ℕ). l' * n) e, ap (λ (n : ℕ). l * n) f, ap (λ (n : ℕ). y * n) e, ap (λ (n : ℕ). x * n) f)

    crossed : (h' - l' - 1) * (h + l + 2) ≤ (h - l - 1) * (h' + l' + 2)
    crossed =
        ⊎_elim
        (λ (g : h' < l' + 2).
        let e : h' - l' - 1 ≡ 0 = omega arith in
        omega (arith, ap (λ (n : ℕ). n * (h + l + 2)) e, zero-mul (h + l + 2)))
        (λ (g : l' + 2 ≤ h').
        ⊎_elim
        (λ (f : h < l + 1).
        let f' : h ≤ l = omega arith in
        absurd (let z : ⊥ = omega (arith, o, mul-le-mul_left l g, mul-le-mul_left l' f') in z))
        (λ (f : l + 1 ≤ h). above (h - l - 1) (h' - l' - 1) (omega arith) (omega arith))
        (less_or_not h (l + 1)))
        (less_or_not h' (l' + 2))

-- a number has no slope to itself
slope_same : (h : ℕ) → slope h h ≡ 0
unfolding slope
slope_same h = let e : (h - h - 1) * 2 ^ 32 ≡ 0 = omega arith in ap (λ (n : ℕ). n / (h + h + 2)) e ∙ zero-div (h + h + 2)

-- ---- one number of powers of two

-- c stands for n * 2 ^ k. The units of the greater are as great, or twice as great.
module _ (m c m' c' : ℕ) (some : 0 < c) (c≤c' : c ≤ c') (c'≤m' : c' ≤ m') (m'≤m : m' ≤ m) (double : m < 2 * c) where
  -- the greater has as many digits, or one more
  size_least : size c ≤ size c'
  size_least = size-le c (size c') (lt_of_le_of_lt c≤c' (size-lt c'))

  size_next : size c' ≤ suc (size c)
  size_next = size-le c' (suc (size c)) (omega (arith, size-lt c, pow-suc 2 (size c)))

  -- in one unit
  same_unit : size c' ≡ size c → slope (leading c' m') (leading c' c') ≤ slope (leading c m) (leading c c)
  unfolding leading
  same_unit e =
      let l : leading c c ≤ leading c' c' = subst (λ (n : ℕ). leading c c ≤ c' * 2 ^ 32 / 2 ^ n) (sym e) (div_mono _ _ _ _ (pow_pos (size c)) (pow_pos (size c)) (mul-le-mul_right (2 ^ size c) (omega arith))) in
      let h : leading c' m' ≤ leading c m = subst (λ (n : ℕ). m' * 2 ^ 32 / 2 ^ n ≤ leading c m) (sym e) (div_mono _ _ _ _ (pow_pos (size c)) (pow_pos (size c)) (mul-le-mul_right (2 ^ size c) (omega arith))) in
      slope_mono (leading c m) (leading c c) (leading c' m') (leading c' c') (omega (arith, l, h, mul-le-mul l h))

  -- in twice the unit
  next_unit : size c' ≡ suc (size c) → slope (leading c' m') (leading c' c') ≤ slope (leading c m) (leading c c)
  next_unit e =
      let h = leading c m in
      let l = leading c c in
      let h' = leading c' m' in
      let l' = leading c' c' in
      let u : 2 ^ size c' ≡ 2 ^ size c * 2 = ap (λ (n : ℕ). 2 ^ n) e ∙ pow-suc 2 (size c) in
      let below : 2 * h' * 2 ^ size c < (h + 1) * 2 ^ size c =
      omega (arith, leading_low c' m', leading_high c m, ap (λ (n : ℕ). h' * n) u) in
      let halved : 2 * h' ≤ h = omega (arith, lt_of_mul-lt-mul_right (2 ^ size c) below) in
      let less : l + 1 ≤ 2 * l' = omega (arith, leading_fits c some, leading_bits c' (omega arith)) in
      let upper : l * 2 ^ size c < (h + 1) * 2 ^ size c = omega (arith, leading_low c c, leading_high c m) in
      let order : l ≤ h = omega (arith, lt_of_mul-lt-mul_right (2 ^ size c) upper) in
      slope_mono h l h' l' (omega (arith, order, halved, mul-le-mul_left l halved, mul-le-mul_right h less))

  -- in either
  slope_order : slope (leading c' m') (leading c' c') ≤ slope (leading c m) (leading c c)
  slope_order =
      ⊎_elim
      (λ (g : size c < size c'). next_unit (omega (arith, size_next)))
      (λ (g : size c' ≤ size c). same_unit (omega (arith, size_least)))
      (less_or_not (size c) (size c'))

-- ---- ratios

module _ (m n m' n' : ℕ) (some : 0 < n) (order' : n' ≤ m') (m'≤m : m' ≤ m) (n≤n' : n ≤ n') where
  -- both are from 1 on
  order : n ≤ m
  order = omega arith

  some' : 0 < n'
  some' = omega arith

  -- the greater has as many powers of two, or more
  twos_mono : twos m' n' ≤ twos m n
  twos_mono = twos_least (twos m' n') m n some (omega (arith, twos_under m' n' some' order', mul-le-mul_right (2 ^ twos m' n') n≤n'))

  -- with as many, by the quotient
  after_same : twos m' n' ≡ twos m n → scaled_after (twos m' n') m' n' ≤ scaled_after (twos m n) m n
  unfolding scaled_after
  after_same e =
      let k = twos m n in
      subst (λ (j : ℕ). scaled_after j m' n' ≤ scaled_after k m n) (sym e)
      (let s = series_mono (slope (leading (n' * 2 ^ k) m') (leading (n' * 2 ^ k) (n' * 2 ^ k))) (slope (leading (n * 2 ^ k) m) (leading (n * 2 ^ k) (n * 2 ^ k)))
      (slope_order m (n * 2 ^ k) m' (n' * 2 ^ k) (mul-pos some (pow_pos k)) (mul-le-mul_right (2 ^ k) n≤n')
      (subst (λ (j : ℕ). n' * 2 ^ j ≤ m') e (twos_under m' n' some' order')) m'≤m (twos_double m n some order)) in
      omega arith)

  -- with more, whatever the partial sums are
  after_more : twos m' n' < twos m n → scaled_after (twos m' n') m' n' ≤ scaled_after (twos m n) m n
  unfolding scaled_after
  after_more g =
      let k = twos m' n' in
      let h = leading (n' * 2 ^ k) m' in
      let l = leading (n' * 2 ^ k) (n' * 2 ^ k) in
      let apart = taken_apart m' n' k some' (twos_under m' n' some' order') (twos_double m' n' some' order') in
      omega (arith, series_most (slope h l) (slope_small (m' * 2 ^ 32) (n' * 2 ^ 32) k h l apart))

  -- of two ratios, m' / n' at most m / n, the greater has no lesser logarithm
  pub size_mono : scaled_size m' n' ≤ scaled_size m n
  unfolding scaled_size
  size_mono =
      let a : scaled_after (twos m' n') m' n' ≤ scaled_after (twos m n) m n =
      ⊎_elim
      (λ (g : twos m' n' < twos m n). after_more g)
      (λ (g : twos m n ≤ twos m' n'). after_same (omega (arith, twos_mono)))
      (less_or_not (twos m' n') (twos m n)) in
      omega arith

-- the logarithm of 1
pub size_one : (a : ℕ) → 0 < a → scaled_size a a ≡ 0
unfolding scaled_size scaled_after
size_one a p = rw (twos_is 0 a a p (omega arith) (omega arith), mul-one a, slope_same (leading a a), series_zero)
