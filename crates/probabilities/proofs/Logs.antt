-- The whole number that is worked out for a ratio is near the definition's fraction by 256, and from 2 ^ 44 on both are the cut. Assumes nothing.
use mathlib.Core.Path.{◌≡◌, sym, ap, ◌∙◌, subst}
use mathlib.Core.Logic.{⊎_elim}
use mathlib.Core.Bool.{Bool, cond}
use Prim.Native.Nat.{ℕ, ◌+◌, ◌-◌, ◌*◌, ◌^◌, ◌≤◌, ◌<◌}
use native.Mathlib.Nat.{add-mul, mul-add, mul_assoc, mul_comm, mul_right_comm, mul-le-mul_right, mul-pos}
use native.Mathlib.Omega.{arith}
use lib.Pow.{pow_pos}
use lib.Ieee.{size}
use borrow.Author.Tests.{le-leb}
use Rattle.numbers.proofs.Cases.{less_or_not}
use Rattle.probabilities.specs.Fractions.{Fraction, ratio, plus, times, cut_to, Near}
use Rattle.probabilities.specs.Logarithm.{ln2, twos, tangent, partial_sum, logarithm_after, logarithm}
use Rattle.probabilities.specs.Scaled.{leading, slope, series, ln2_cut, most, scaled_after, scaled_size}
use Rattle.probabilities.specs.Ratios.{Split}
use Rattle.probabilities.proofs.Nears.{near_plus, near_more, near_twice, near_same, near_cut}
use Rattle.probabilities.proofs.Sums.{near_series, sum_bottom}
use Rattle.probabilities.proofs.Slopes.{slope_small, near_slope}
use Rattle.probabilities.proofs.Scales.{twos_under, twos_double, leading_low, leading_high, leading_bits, leading_fits}

-- ---- two ratios that are equal

-- where (x + u) / u is (y + v) / v, so are x / (x + 2 u) and y / (y + 2 v)
cross : (x y u v : ℕ) → (x + u) * v ≡ (y + v) * u → x * (y + v + v) ≡ y * (x + u + u)
cross x y u v e =
    omega (
      arith,
      e,
      add-mul x u v,
      add-mul y v u,
      mul_comm u v,
      mul-add x (y + v) v,
      mul-add x y v,
      mul-add y (x + u) u,
      mul-add y x u,
      mul_comm x y,
    )

module _ (a b c d k : ℕ) (same : a * d ≡ c * b) where
  -- the greater is as much greater
  moved : (n : ℕ) → c * (b * n) ≡ a * (d * n)
  moved n = sym (mul_assoc c b n) ∙ ap (λ (m : ℕ). m * n) (sym same) ∙ mul_assoc a d n

  tangent_same : d * 2 ^ k ≤ c → b * 2 ^ k ≤ a → (c - d * 2 ^ k) * (a + b * 2 ^ k) ≡ (a - b * 2 ^ k) * (c + d * 2 ^ k)
  tangent_same h g =
      let p : c - d * 2 ^ k + d * 2 ^ k ≡ c = omega arith in
      let q : a - b * 2 ^ k + b * 2 ^ k ≡ a = omega arith in
      let e : (c - d * 2 ^ k + d * 2 ^ k) * (b * 2 ^ k) ≡ (a - b * 2 ^ k + b * 2 ^ k) * (d * 2 ^ k) =
      ap (λ (m : ℕ). m * (b * 2 ^ k)) p ∙ moved (2 ^ k) ∙ ap (λ (m : ℕ). m * (d * 2 ^ k)) (sym q) in
      ap (λ (m : ℕ). (c - d * 2 ^ k) * (m + b * 2 ^ k)) (sym q)
      ∙ cross (c - d * 2 ^ k) (a - b * 2 ^ k) (d * 2 ^ k) (b * 2 ^ k) e
      ∙ ap (λ (m : ℕ). (a - b * 2 ^ k) * (m + d * 2 ^ k)) p

-- ---- a ratio in whole units

-- the leading digits of a and b * 2 ^ k are the ratio taken apart, in units of 2 ^ -32 of the digits of b * 2 ^ k
pub taken_apart : (a b k : ℕ) → 0 < b → b * 2 ^ k ≤ a → a < 2 * (b * 2 ^ k) → Split (a * 2 ^ 32) (b * 2 ^ 32) k (leading (b * 2 ^ k) a) (leading (b * 2 ^ k) (b * 2 ^ k))
taken_apart a b k some under less =
    let c = b * 2 ^ k in
    let p : 0 < c = mul-pos some (pow_pos k) in
    let e : b * 2 ^ 32 * 2 ^ k ≡ c * 2 ^ 32 = mul_right_comm b (2 ^ 32) (2 ^ k) in
    record {
      digits = size c;
      least = omega (arith, e, under);
      double = omega (arith, e, less);
      high_low = leading_low c a;
      high_high = leading_high c a;
      low_low = omega (arith, e, leading_low c c);
      low_high = omega (arith, e, leading_high c c);
      bits = leading_bits c p;
      fits = leading_fits c p;
    }

-- ---- the logarithm

-- k times ln 2, by k
near_ln2 : (k : ℕ) → Near k (k * ln2_cut) (times k ln2)
near_ln2 k = record { low = omega arith; high = omega arith }

-- with the partial sum, by 18 more
near_after : (k t n d : ℕ) → 0 < d → 3 * t ≤ 2 ^ 32 → Near 4 t (ratio n d) → Near (k + 2 * 9) (k * ln2_cut + 2 * series t) (plus (times k ln2) (times 2 (partial_sum (ratio n d))))
near_after k t n d p small near =
    let x = partial_sum (ratio n d) in
    near_plus k (2 * 9) (k * ln2_cut) (2 * series t) (times k ln2) (times 2 x) (near_ln2 k) (near_twice 9 (series t) x (near_series t n d p small near))

module _ (a b k : ℕ) (some : 0 < b) (under : b * 2 ^ k ≤ a) (over_half : a < 2 * (b * 2 ^ k)) where
  -- the t of the ratio
  near_tangent : Near 4 (slope (leading (b * 2 ^ k) a) (leading (b * 2 ^ k) (b * 2 ^ k))) (ratio (a - b * 2 ^ k) (a + b * 2 ^ k))
  near_tangent =
      let h = leading (b * 2 ^ k) a in
      let l = leading (b * 2 ^ k) (b * 2 ^ k) in
      let s = taken_apart a b k some under over_half in
      let same : a * (b * 2 ^ 32) ≡ a * 2 ^ 32 * b = omega arith in
      near_same 4 (slope h l) (a * 2 ^ 32 - b * 2 ^ 32 * 2 ^ k) (a * 2 ^ 32 + b * 2 ^ 32 * 2 ^ k) (a - b * 2 ^ k) (a + b * 2 ^ k)
      (omega (arith, s.least, mul-pos some (pow_pos k)))
      (tangent_same a b (a * 2 ^ 32) (b * 2 ^ 32) k same s.least under)
      (near_slope (a * 2 ^ 32) (b * 2 ^ 32) k h l s)

  near_scaled : Near (k + 2 * 9) (scaled_after k a b) (logarithm_after k a b)
  unfolding scaled_after logarithm_after
  near_scaled =
      let h = leading (b * 2 ^ k) a in
      let l = leading (b * 2 ^ k) (b * 2 ^ k) in
      let p : 0 < a + b * 2 ^ k = omega (arith, under, mul-pos some (pow_pos k)) in
      near_after k (slope h l) (a - b * 2 ^ k) (a + b * 2 ^ k) p (slope_small (a * 2 ^ 32) (b * 2 ^ 32) k h l (taken_apart a b k some under over_half)) near_tangent

  after_bottom : 0 < (logarithm_after k a b).bottom
  unfolding logarithm_after
  after_bottom =
      mul-pos {m = 2 ^ 64} {n = (partial_sum (tangent k a b)).bottom} (pow_pos 64)
      (sum_bottom (a - b * 2 ^ k) (a + b * 2 ^ k) (omega (arith, under, mul-pos some (pow_pos k))))

-- ---- the cut

-- 44 ln 2 is above 30
beyond : (k x y : ℕ) → 44 ≤ k → 30 * (2 ^ 64 * y) ≤ k * 12786308645202655660 * y + x * 2 ^ 64
beyond k x y h = omega (arith, mul-le-mul_right y (let e : 30 * 2 ^ 64 ≤ k * 12786308645202655660 = omega arith in e), mul_assoc 30 (2 ^ 64) y)

cut_logarithm : (a b : ℕ) → 44 ≤ twos a b → cut_to most (logarithm a b) ≡ ratio most 1
unfolding logarithm logarithm_after
cut_logarithm a b h =
    let x = partial_sum (tangent (twos a b) a b) in
    ap (λ (t : Bool). cond t (ratio most 1) (plus (times (twos a b) ln2) (times 2 x)))
    (le-leb (30 * (2 ^ 64 * x.bottom)) (twos a b * 12786308645202655660 * x.bottom + 2 * x.top * 2 ^ 64) (beyond (twos a b) (2 * x.top) x.bottom h))

-- and so is 44 times the whole number for it
pub cut_scaled : (a b : ℕ) → 44 ≤ twos a b → scaled_size a b ≡ most * 2 ^ 32
unfolding scaled_size scaled_after
cut_scaled a b h = omega arith

pub near_most : Near 256 (most * 2 ^ 32) (ratio most 1)
near_most = record { low = omega arith; high = omega arith }

-- ---- the whole

-- for every ratio from 1 on
pub near_size : (a b : ℕ) → 0 < b → b ≤ a → Near 256 (scaled_size a b) (cut_to most (logarithm a b))
unfolding scaled_size logarithm
near_size a b some order =
    ⊎_elim
    (λ (g : twos a b < 44). few g)
    (λ (g : 44 ≤ twos a b).
    subst
    (λ (x : Fraction). Near 256 (scaled_size a b) x)
    (sym (cut_logarithm a b g))
    (subst (λ (n : ℕ). Near 256 n (ratio most 1)) (sym (cut_scaled a b g)) near_most))
    (less_or_not (twos a b) 44)
  where
    few : twos a b < 44 → Near 256 (scaled_size a b) (cut_to most (logarithm a b))
    few g =
        let k = twos a b in
        let u = twos_under a b some order in
        let o = twos_double a b some order in
        near_cut 256 most (scaled_after k a b) (logarithm_after k a b) (after_bottom a b k some u o)
        (near_more (k + 2 * 9) 256 (scaled_after k a b) (logarithm_after k a b) (omega arith) (near_scaled a b k some u o))

-- and it is 30 at most
pub size_most : (a b : ℕ) → scaled_size a b ≤ most * 2 ^ 32
unfolding scaled_size
size_most a b = omega arith
