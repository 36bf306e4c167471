-- The prior of a fraction from 0 to 1: it is the fraction's value that counts, 1 less the fraction has the prior with the other sign, and a greater fraction
-- has no greater prior. Assumes nothing.
use mathlib.Core.Path.{◌≡◌, refl, sym, ap, ◌∙◌, subst}
use mathlib.Core.Logic.{⊎_elim}
use Prim.Native.Nat.{ℕ, zero, suc, ◌+◌, ◌-◌, ◌*◌, ◌^◌, ◌≤◌, ◌<◌}
use native.Mathlib.Nat.{mul_comm, mul-pos, mul-le-mul_right, mul-lt-mul_of_pos_right, le_of_mul-le-mul_right, lt_of_mul-lt-mul_right, eq_of_mul-eq-mul_right, zero-mul}
use native.Mathlib.Omega.{arith}
use lib.Dec.{le→leb}
use lib.IntN.{ℤ, pos, negsuc, neg_ℤ, nat_abs, neg_ℤ-neg_ℤ}
use lib.Pow.{pow_pos, pow-add}
use lib.Signed.{◌≤ℤ◌}
use Rattle.numbers.proofs.Cases.{less_or_not}
use Rattle.probabilities.specs.Scaled.{most, scaled_size, scaled_at}
use Rattle.probabilities.proofs.Orders.{size_mono, size_one}
use Rattle.probabilities.proofs.Priors.{at_zero, at_one, at_below, at_from, scaled_most, Power, below_same, from_same}

-- ---- the value

-- a power of two is above 0
power_pos : (n : ℕ) → Power n → 0 < n
power_pos n x = subst (λ (m : ℕ). 0 < m) (sym x.is) (pow_pos x.exponent)

-- a product of two powers of two is one
pub power_times : (m n : ℕ) → Power m → Power n → Power (m * n)
power_times m n x y =
    record { exponent = x.exponent + y.exponent; is = ap (λ (k : ℕ). k * n) x.is ∙ ap (λ (k : ℕ). 2 ^ x.exponent * k) y.is ∙ sym (pow-add 2 x.exponent y.exponent) }

-- two fractions of one value, a / b and q / n, have one prior
module _ (a b q n : ℕ) (x : Power b) (y : Power n) (fits : a ≤ b) (same : a * n ≡ q * b) where
  -- both numbers below are above 0
  some_b : 0 < b
  some_b = power_pos b x

  some_n : 0 < n
  some_n = power_pos n y

  -- both are at most 1
  same_fits : q ≤ n
  same_fits = le_of_mul-le-mul_right {k = b} (omega (arith, same, mul-le-mul_right n fits)) some_b

  -- at 0
  same_zero : a ≡ 0 → q ≡ 0
  same_zero e = eq_of_mul-eq-mul_right b some_b q 0 (sym same ∙ ap (λ (m : ℕ). m * n) e ∙ zero-mul n ∙ sym (zero-mul b))

  -- above 0
  same_some : 0 < a → 0 < q
  same_some p = lt_of_mul-lt-mul_right b (omega (arith, same, mul-pos p some_n))

  -- at 1
  same_one : a ≡ b → q ≡ n
  same_one e = eq_of_mul-eq-mul_right b some_b q n (sym same ∙ ap (λ (m : ℕ). m * n) e ∙ mul_comm b n)

  -- below 1
  same_less : a < b → q < n
  same_less l = lt_of_mul-lt-mul_right b (omega (arith, same, mul-lt-mul_of_pos_right l some_n))

  -- below a half
  same_below : 2 * a < b → 2 * q < n
  same_below l = lt_of_mul-lt-mul_right b (omega (arith, same, mul-lt-mul_of_pos_right l some_n))

  -- from a half on
  same_from : b ≤ 2 * a → n ≤ 2 * q
  same_from l = le_of_mul-le-mul_right {k = b} (omega (arith, same, mul-le-mul_right n l)) some_b

  -- between 0 and 1
  between : 0 < a → a < b → scaled_at a b ≡ scaled_at q n
  between p l =
      ⊎_elim
      (λ (g : 2 * a < b).
      at_below a b p g ∙ ap pos (below_same a b q n x y p same_fits same g) ∙ sym (at_below q n (same_some p) (same_below g)))
      (λ (g : b ≤ 2 * a).
      at_from a b p l g ∙ ap (λ (m : ℕ). neg_ℤ (pos m)) (from_same a b q n x y p same_fits same l g) ∙ sym (at_from q n (same_some p) (same_less l) (same_from g)))
      (less_or_not (2 * a) b)

  -- anywhere from 0 to 1
  pub at_same : scaled_at a b ≡ scaled_at q n
  at_same =
      ⊎_elim
      (λ (p : 0 < a).
      ⊎_elim
      (λ (l : a < b). between p l)
      (λ (l : b ≤ a). let e : a ≡ b = omega arith in at_one a b p e ∙ sym (at_one q n (same_some p) (same_one e)))
      (less_or_not a b))
      (λ (p : a ≤ 0). let e : a ≡ 0 = omega arith in at_zero a b e ∙ sym (at_zero q n (same_zero e)))
      (less_or_not 0 a)

-- ---- 1 less the fraction

-- at a half the prior is 0
pub at_half : (a b : ℕ) → 0 < a → 2 * a ≡ b → scaled_at a b ≡ pos 0
at_half a b p e =
    let f : b - a ≡ a = omega arith in
    at_from a b p (omega arith) (omega arith) ∙ ap (λ (n : ℕ). neg_ℤ (pos n)) (ap (λ (n : ℕ). scaled_size a n) f ∙ size_one a p)

module _ (a b : ℕ) (some : 0 < b) (fits : a ≤ b) where
  -- taken away twice
  twice : b - (b - a) ≡ a
  twice = omega arith

  -- below a half
  flip_below : 0 < a → 2 * a < b → scaled_at (b - a) b ≡ neg_ℤ (scaled_at a b)
  flip_below p l =
      at_from (b - a) b (omega arith) (omega arith) (omega arith)
      ∙ ap (λ (n : ℕ). neg_ℤ (pos (scaled_size (b - a) n))) twice
      ∙ ap neg_ℤ (sym (at_below a b p l))

  -- above a half
  flip_above : a < b → b < 2 * a → scaled_at (b - a) b ≡ neg_ℤ (scaled_at a b)
  flip_above l g =
      at_below (b - a) b (omega arith) (omega arith)
      ∙ ap (λ (n : ℕ). pos (scaled_size n (b - a))) twice
      ∙ sym (neg_ℤ-neg_ℤ (pos (scaled_size a (b - a))))
      ∙ ap neg_ℤ (sym (at_from a b (omega arith) l (omega arith)))

  -- at a half
  flip_half : 2 * a ≡ b → scaled_at (b - a) b ≡ neg_ℤ (scaled_at a b)
  flip_half e =
      at_half (b - a) b (omega arith) (omega arith) ∙ ap neg_ℤ (sym (at_half a b (omega arith) e))

  -- at 0
  flip_zero : a ≡ 0 → scaled_at (b - a) b ≡ neg_ℤ (scaled_at a b)
  flip_zero e = at_one (b - a) b (omega arith) (omega arith) ∙ ap neg_ℤ (sym (at_zero a b e))

  -- at 1
  flip_one : a ≡ b → scaled_at (b - a) b ≡ neg_ℤ (scaled_at a b)
  flip_one e = at_zero (b - a) b (omega arith) ∙ sym (neg_ℤ-neg_ℤ (pos (most * 2 ^ 32))) ∙ ap neg_ℤ (sym (at_one a b (omega arith) e))

  -- the prior of 1 - a / b is that of a / b with the other sign
  pub at_flip : scaled_at (b - a) b ≡ neg_ℤ (scaled_at a b)
  at_flip =
      ⊎_elim
      (λ (l : 2 * a < b). ⊎_elim (λ (p : 0 < a). flip_below p l) (λ (p : a ≤ 0). flip_zero (omega arith)) (less_or_not 0 a))
      (λ (g : b ≤ 2 * a).
      ⊎_elim
      (λ (h : b < 2 * a). ⊎_elim (λ (l : a < b). flip_above l h) (λ (l : b ≤ a). flip_one (omega arith)) (less_or_not a b))
      (λ (h : 2 * a ≤ b). flip_half (omega arith))
      (less_or_not b (2 * a)))
      (less_or_not (2 * a) b)

-- ---- the order

-- two whole numbers that are not below 0
plain_order : (m n : ℕ) → m ≤ n → pos m ≤ℤ pos n
plain_order m n h = record { le = le→leb m n h }

-- two that are not above 0
minus_order : (m n : ℕ) → m ≤ n → neg_ℤ (pos n) ≤ℤ neg_ℤ (pos m)
minus_order zero zero h = record { le = tt }
minus_order zero (suc n) h = record { le = tt }
minus_order (suc m) zero h = absurd (let z : ⊥ = omega arith in z)
minus_order (suc m) (suc n) h = record { le = le→leb m n (omega arith) }

-- one of each
mixed_order : (m n : ℕ) → neg_ℤ (pos m) ≤ℤ pos n
mixed_order zero n = plain_order 0 n (omega arith)
mixed_order (suc m) n = record { le = tt }

-- one by the bound of its size, from above
bound_above : (z : ℤ) (n : ℕ) → nat_abs z ≤ n → z ≤ℤ pos n
bound_above (pos m) n h = plain_order m n h
bound_above (negsuc m) n h = record { le = tt }

-- and from below
bound_below : (z : ℤ) (n : ℕ) → nat_abs z ≤ n → neg_ℤ (pos n) ≤ℤ z
bound_below (pos m) n h = mixed_order n m
bound_below (negsuc m) n h = minus_order (suc m) n h

-- two that are given by what they are equal to
ordered : (y z y' z' : ℤ) → y ≡ y' → z ≡ z' → y' ≤ℤ z' → y ≤ℤ z
ordered y z y' z' e f h = rw (e, f) h

-- two fractions with one number below, a / b at most c / b
module _ (a c b : ℕ) (some : 0 < b) (a≤c : a ≤ c) (fits : c ≤ b) where
  -- both between 0 and 1
  mono_between : 0 < a → c < b → scaled_at c b ≤ℤ scaled_at a b
  mono_between p l =
      ⊎_elim
      (λ (g : 2 * c < b).
      ordered _ _ _ _ (at_below c b (omega arith) g) (at_below a b p (omega arith))
      (plain_order (scaled_size (b - c) c) (scaled_size (b - a) a) (size_mono (b - a) a (b - c) c p (omega arith) (omega arith) a≤c)))
      (λ (g : b ≤ 2 * c).
      ⊎_elim
      (λ (h : 2 * a < b). ordered _ _ _ _ (at_from c b (omega arith) l g) (at_below a b p h) (mixed_order (scaled_size c (b - c)) (scaled_size (b - a) a)))
      (λ (h : b ≤ 2 * a).
      ordered _ _ _ _ (at_from c b (omega arith) l g) (at_from a b p (omega arith) h)
      (minus_order (scaled_size a (b - a)) (scaled_size c (b - c)) (size_mono c (b - c) a (b - a) (omega arith) (omega arith) a≤c (omega arith))))
      (less_or_not (2 * a) b))
      (less_or_not (2 * c) b)

  -- anywhere from 0 to 1
  pub at_mono : scaled_at c b ≤ℤ scaled_at a b
  at_mono =
      ⊎_elim
      (λ (p : 0 < a).
      ⊎_elim
      (λ (l : c < b). mono_between p l)
      (λ (l : b ≤ c).
      ordered _ _ _ _ (at_one c b (omega arith) (omega arith)) refl (bound_below (scaled_at a b) (most * 2 ^ 32) (scaled_most a b)))
      (less_or_not c b))
      (λ (p : a ≤ 0). ordered _ _ _ _ refl (at_zero a b (omega arith)) (bound_above (scaled_at c b) (most * 2 ^ 32) (scaled_most c b)))
      (less_or_not 0 a)

-- two fractions, a / b at most c / d
pub at_order : (a b c d : ℕ) → Power b → Power d → a ≤ b → c ≤ d → a * d ≤ c * b → scaled_at c d ≤ℤ scaled_at a b
at_order a b c d x y h g o =
    ordered _ _ _ _
    (at_same c d (c * b) (b * d) y (power_times b d x y) g (omega arith))
    (at_same a b (a * d) (b * d) x (power_times b d x y) h (omega arith))
    (at_mono (a * d) (c * b) (b * d) (mul-pos (power_pos b x) (power_pos d y)) o (omega (arith, mul-le-mul_right b g)))
