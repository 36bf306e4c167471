-- How a ratio is taken apart: the two halves of `split`, the 53 bits of 1 - p below a half, and the shift of 1 - p from a half on. Assumes nothing.
use mathlib.Core.Path.{◌≡◌, sym, ap, subst}
use Prim.Native.Nat.{ℕ, suc, ◌+◌, ◌-◌, ◌*◌, ◌/◌, ◌^◌, ◌≤◌, ◌<◌}
use native.Mathlib.Nat.{add-mul, mul_comm, mul-le-mul_right, mul-le-mul_left, div-add-mod', mod-lt, pow-suc}
use native.Mathlib.Omega.{arith}
use lib.Pow.{pow_pos, pow_mono, pow-add, pow-lt, shl_lt}
use lib.Count.{count_leading_zeros, leading_top}
use Rattle.probabilities.specs.Ratios.{Split}
use Rattle.numbers.proofs.Cases.{less_or_not}
use mathlib.Core.Logic.{⊎_elim}

-- ---- `split`

-- x whole units of 2 ^ w in n
units_low : (n w e x : ℕ) → x * 2 ^ w ≤ n → x * 2 ^ (e + w) ≤ n * 2 ^ e
units_low n w e x h = omega (arith, mul-le-mul_right (2 ^ e) h, ap (λ (m : ℕ). x * m) (pow-add 2 e w))

units_high : (n w e x : ℕ) → n < (x + 1) * 2 ^ w → (n + 1) * 2 ^ e ≤ (x + 1) * 2 ^ (e + w)
units_high n w e x h =
    let g : n + 1 ≤ (x + 1) * 2 ^ w = omega arith in
    omega (arith, mul-le-mul_right (2 ^ e) g, ap (λ (m : ℕ). (x + 1) * m) (pow-add 2 e w))

module _ (d a b m n e : ℕ) (la : 2 ^ 52 ≤ a) (ha : a < 2 ^ 53) (lb : 2 ^ 52 ≤ b) (hb : b < 2 ^ 53) (low : a * 2 ^ e ≤ m) (high : m < (a + 1) * 2 ^ e) (same : n * 2 ^ d ≡ b * 2 ^ e) where
  -- b is at most a: all the powers of two are taken out
  pub split_same : b ≤ a → Split m n d (a / 2097152) (b / 2097152)
  split_same o = record {
    digits = e + 21;
    least = omega (arith, mul-le-mul_right (2 ^ e) o);
    double = omega (arith, mul-le-mul_right (2 ^ e) (let g : a + 1 ≤ 2 * b = omega arith in g));
    high_low = omega (arith, units_low a 21 e (a / 2097152) (omega arith));
    high_high = omega (arith, units_high a 21 e (a / 2097152) (omega arith));
    low_low = omega (arith, units_low b 21 e (b / 2097152) (omega arith));
    low_high = omega (arith, units_high b 21 e (b / 2097152) (omega arith), pow_pos e);
    bits = omega arith;
    fits = omega arith;
  }

  -- a is below b: one power of two stays
  half : 0 < d → 2 * (n * 2 ^ (d - 1)) ≡ b * 2 ^ e
  half p =
      let g : suc (d - 1) ≡ d = omega arith in
      omega (arith, same, ap (λ (k : ℕ). n * 2 ^ k) g, ap (λ (k : ℕ). n * k) (pow-suc 2 (d - 1)))

  pub split_less : a < b → 0 < d → Split m n (d - 1) (a / 1048576) (b / 2097152)
  split_less o p = record {
    digits = e + 20;
    least = omega (arith, half p, mul-le-mul_right (2 ^ e) (let g : b ≤ 2 * a = omega arith in g));
    double = omega (arith, half p, mul-le-mul_right (2 ^ e) (let g : a + 1 ≤ b = omega arith in g));
    high_low = omega (arith, units_low a 20 e (a / 1048576) (omega arith));
    high_high = omega (arith, units_high a 20 e (a / 1048576) (omega arith));
    low_low = omega (arith, half p, units_low b 21 e (b / 2097152) (omega arith), ap (λ (k : ℕ). b / 2097152 * k) (pow-add 2 e 21), ap (λ (k : ℕ). b / 2097152 * k) (pow-add 2 e 20));
    low_high = omega (arith, half p, units_high b 21 e (b / 2097152) (omega arith), ap (λ (k : ℕ). (b / 2097152 + 1) * k) (pow-add 2 e 21), ap (λ (k : ℕ). (b / 2097152 + 1) * k) (pow-add 2 e 20), pow_pos e);
    bits = omega arith;
    fits = omega arith;
  }

-- ---- below a half

module _ (q d : ℕ) (low : 2 ^ 52 ≤ q) (high : q < 2 ^ 53) (some : 0 < d) where
  -- what is taken off is less than a half
  pub taken_small : 2 * ((q - 1) / 2 ^ d) ≤ q - 1
  taken_small =
      omega (arith, mul-le-mul_left ((q - 1) / 2 ^ d) (pow_mono {i = 1} {j = d} some), div-add-mod' (q - 1) (2 ^ d), mul_comm 2 ((q - 1) / 2 ^ d))

  -- 2 ^ 53 (1 - p), rounded down
  pub rest_low : (9007199254740991 - (q - 1) / 2 ^ d) * 2 ^ d ≤ 2 ^ (53 + d) - q
  rest_low =
      let e : 9007199254740991 - (q - 1) / 2 ^ d + ((q - 1) / 2 ^ d + 1) ≡ 9007199254740992 = omega (arith, taken_small) in
      omega (
        arith,
        pow-add 2 53 d,
        ap (λ (k : ℕ). k * 2 ^ d) e,
        add-mul (9007199254740991 - (q - 1) / 2 ^ d) ((q - 1) / 2 ^ d + 1) (2 ^ d),
        add-mul ((q - 1) / 2 ^ d) 1 (2 ^ d),
        div-add-mod' (q - 1) (2 ^ d),
        mod-lt (q - 1) (pow_pos d),
      )

  pub rest_high : 2 ^ (53 + d) - q < (9007199254740991 - (q - 1) / 2 ^ d + 1) * 2 ^ d
  rest_high =
      let e : 9007199254740991 - (q - 1) / 2 ^ d + 1 + (q - 1) / 2 ^ d ≡ 9007199254740992 = omega (arith, taken_small) in
      omega (
        arith,
        pow-add 2 53 d,
        ap (λ (k : ℕ). k * 2 ^ d) e,
        add-mul (9007199254740991 - (q - 1) / 2 ^ d + 1) ((q - 1) / 2 ^ d) (2 ^ d),
        div-add-mod' (q - 1) (2 ^ d),
        mul-le-mul_right (2 ^ d) (let f : 1 ≤ 9007199254740991 - (q - 1) / 2 ^ d + 1 = omega arith in f),
        pow_pos d,
      )

-- ---- from a half on

-- the shift that brings n's top bit to bit 52
pub record Shift (n s : ℕ) : Type 0 where
  pub enough : 11 ≤ s
  pub few : s - 11 ≤ 52
  pub from : 2 ^ 52 ≤ n * 2 ^ (s - 11)
  pub below : n * 2 ^ (s - 11) < 2 ^ 53

pub shift_is : (n : ℕ) → 0 < n → n ≤ 2 ^ 52 → Shift n (count_leading_zeros 64 n)
shift_is n p h = go (leading_top 64 n p (omega arith)).0 (leading_top 64 n p (omega arith)).1 (leading_top 64 n p (omega arith)).2 (leading_top 64 n p (omega arith)).3
  where
    -- its top bit is bit 52 at most
    top : (j : ℕ) → 2 ^ j ≤ n → j ≤ 52
    top j l = ⊎_elim (λ (g : 52 < j). absurd (let z : ⊥ = omega (arith, pow-lt g) in z)) (λ (g : j ≤ 52). g) (less_or_not 52 j)

    go : (j : ℕ) → count_leading_zeros 64 n + suc j ≡ 64 → 2 ^ j ≤ n → n < 2 ^ suc j → Shift n (count_leading_zeros 64 n)
    go j e l u =
        let t = top j l in
        let f : j + (count_leading_zeros 64 n - 11) ≡ 52 = omega arith in
        let g : suc j + (count_leading_zeros 64 n - 11) ≡ 53 = omega arith in
        record {
          enough = omega arith;
          few = omega arith;
          from = subst (λ (k : ℕ). 2 ^ k ≤ n * 2 ^ (count_leading_zeros 64 n - 11)) f (subst (λ (k : ℕ). k ≤ n * 2 ^ (count_leading_zeros 64 n - 11)) (sym (pow-add 2 j (count_leading_zeros 64 n - 11))) (mul-le-mul_right (2 ^ (count_leading_zeros 64 n - 11)) l));
          below = subst (λ (k : ℕ). n * 2 ^ (count_leading_zeros 64 n - 11) < 2 ^ k) g (shl_lt {a = n} (suc j) (count_leading_zeros 64 n - 11) u);
        }
