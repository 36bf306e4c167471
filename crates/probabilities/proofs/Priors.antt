-- Which case of the definition a probability is in, by the tests of the code, and its ratio by the digits that the code reads. Assumes nothing.
use mathlib.Core.Path.{◌≡◌, refl, sym, ap, ◌∙◌}
use mathlib.Core.Logic.{◌⊎◌, inl, inr, ⊎_elim}
use mathlib.Core.Bool.{Bool, true, false, cond, ◌||◌, true≢false, false≢true}
use Prim.Native.Nat.{ℕ, zero, suc, ◌+◌, ◌-◌, ◌*◌, ◌^◌, ◌≤◌, ◌<◌}
use native.Mathlib.Nat.{mul_comm, mul-one, one-mul, zero-mul, mul-pos, add-mul}
use native.Mathlib.Omega.{arith}
use lib.Dec.{T, eqb, ltb, lt→ltb, ltb→lt}
use lib.IntN.{ℤ, pos, negsuc, neg_ℤ, nat_abs}
use lib.Signed.{mag}
use lib.Ieee.{Float, nan, inf, fin, up, down, level, lt, eq, le}
use lib.Ieee.Fits.{up_pos}
use lib.Ieee.Positive.{num, den, positive}
use mir.Syntax.{w64}
use mir.Val.{to_z, of_z, SFits}
use mir.ValLaws.{to_z-of_z}
use borrow.Author.Tests.{ltb-true, eqb-true, lt-ltb, le-ltb, eq-eqb, ne_eqb}
use Rattle.numbers.specs.Floats.{zero⁺, one⁺}
use Rattle.numbers.proofs.Cases.{and_both, less_or_not}
use Rattle.probabilities.specs.Scaled.{most, scaled_size, scaled_at, scaled_of}
use Rattle.probabilities.specs.Ratios.{size_of}
use Rattle.probabilities.specs.Calls.{is_probability}
use Rattle.probabilities.proofs.Scales.{scaled_same}
use Rattle.probabilities.proofs.Logs.{size_most}

-- ---- a whole number with its sign

pub abs_minus : (h : ℕ) → nat_abs (neg_ℤ (pos h)) ≡ h
abs_minus zero = refl
abs_minus (suc h) = refl

pub mag_minus : (h : ℕ) → mag (neg_ℤ (pos h)) ≤ h
mag_minus zero = omega arith
mag_minus (suc h) = omega arith

-- a whole number of no more than 30 * 2 ^ 32 is read back from its bits
held : (z : ℤ) → nat_abs z ≤ most * 2 ^ 32 → SFits w64 z
held (pos n) h = record { sfits = omega arith }
held (negsuc n) h = record { sfits = omega arith }

read_back : (z : ℤ) → nat_abs z ≤ most * 2 ^ 32 → to_z w64 (of_z w64 z) ≡ z
read_back z h = to_z-of_z w64 z (held z h)

-- ---- the definition by cases

pub at_zero : (a b : ℕ) → a ≡ 0 → scaled_at a b ≡ pos (most * 2 ^ 32)
unfolding scaled_at
at_zero a b e = rw (eq-eqb a 0 e)

pub at_one : (a b : ℕ) → 0 < a → a ≡ b → scaled_at a b ≡ neg_ℤ (pos (most * 2 ^ 32))
unfolding scaled_at
at_one a b p e = rw (ne_eqb a 0 (λ z. omega arith), eq-eqb a b e)

pub at_below : (a b : ℕ) → 0 < a → 2 * a < b → scaled_at a b ≡ pos (scaled_size (b - a) a)
unfolding scaled_at
at_below a b p h = rw (ne_eqb a 0 (λ e. omega arith), ne_eqb a b (λ e. omega arith), lt-ltb (2 * a) b h)

pub at_from : (a b : ℕ) → 0 < a → a < b → b ≤ 2 * a → scaled_at a b ≡ neg_ℤ (pos (scaled_size a (b - a)))
unfolding scaled_at
at_from a b p o h = rw (ne_eqb a 0 (λ e. omega arith), ne_eqb a b (λ e. omega arith), le-ltb (2 * a) b h)

-- the size below a half, and from there on
pub size_below : (p : Float) → 2 * num p < den p → size_of p ≡ scaled_size (den p - num p) (num p)
unfolding size_of
size_below p h = rw (lt-ltb (2 * num p) (den p) h)

pub size_from : (p : Float) → den p ≤ 2 * num p → size_of p ≡ scaled_size (num p) (den p - num p)
unfolding size_of
size_from p h = rw (le-ltb (2 * num p) (den p) h)

-- no prior is beyond the cut
pub scaled_most : (a b : ℕ) → nat_abs (scaled_at a b) ≤ most * 2 ^ 32
unfolding scaled_at
scaled_most a b = go (eqb a 0) (eqb a b) (ltb (2 * a) b)
  where
    go : (s t u : Bool) → nat_abs (cond s (pos (most * 2 ^ 32)) (cond t (neg_ℤ (pos (most * 2 ^ 32))) (cond u (pos (scaled_size (b - a) a)) (neg_ℤ (pos (scaled_size a (b - a))))))) ≤ most * 2 ^ 32
    go true t u = omega arith
    go false true u = omega arith
    go false false true = size_most (b - a) a
    go false false false = omega (arith, abs_minus (scaled_size a (b - a)), size_most a (b - a))

pub scaled_held : (p : Float) (z : ℤ) → z ≡ scaled_of p → nat_abs z ≤ most * 2 ^ 32
unfolding scaled_of
scaled_held p z e = rw e (scaled_most (num p) (den p))

-- so each is read back from its bits
pub scaled_back : (p : Float) (z : ℤ) → z ≡ scaled_of p → to_z w64 (of_z w64 z) ≡ scaled_of p
scaled_back p z e = read_back z (scaled_held p z e) ∙ e

-- and no size is
pub size_of_most : (p : Float) → size_of p ≤ most * 2 ^ 32
unfolding size_of
size_of_most p = go (ltb (2 * num p) (den p))
  where
    go : (t : Bool) → cond t (scaled_size (den p - num p) (num p)) (scaled_size (num p) (den p - num p)) ≤ most * 2 ^ 32
    go true = size_most (den p - num p) (num p)
    go false = size_most (num p) (den p - num p)

-- ---- one probability as two fractions

-- a power of two
pub record Power (n : ℕ) : Type 0 where
  pub exponent : ℕ
  pub is : n ≡ 2 ^ exponent

-- a float's fraction has one below
pub den_power : (p : Float) → Power (den p)
den_power nan = record { exponent = 0; is = refl }
den_power (inf s) = record { exponent = 0; is = refl }
den_power (fin s m (pos k)) = record { exponent = 0; is = refl }
den_power (fin s m (negsuc k)) = record { exponent = suc k; is = refl }

-- what is left of 1 is as much in both
rest_same : (a b q n : ℕ) → a ≤ b → q ≤ n → a * n ≡ q * b → (b - a) * n ≡ (n - q) * b
rest_same a b q n h l e =
    let f : b - a + a ≡ b = omega arith in
    let g : n - q + q ≡ n = omega arith in
    omega (arith, e, ap (λ (m : ℕ). m * n) f, ap (λ (m : ℕ). m * b) g, add-mul (b - a) a n, add-mul (n - q) q b, mul_comm b n)

module _ (a b q n : ℕ) (x : Power b) (y : Power n) (some : 0 < a) (fitted : q ≤ n) (same : a * n ≡ q * b) where
  scaled_by : (c d : ℕ) → c * n ≡ d * b → c * 2 ^ y.exponent ≡ d * 2 ^ x.exponent
  scaled_by c d e = ap (λ (m : ℕ). c * m) (sym y.is) ∙ e ∙ ap (λ (m : ℕ). d * m) x.is

  -- (1 - p) / p
  pub below_same : 2 * a < b → scaled_size (b - a) a ≡ scaled_size (n - q) q
  below_same h =
      scaled_same (b - a) a (n - q) q x.exponent y.exponent some (omega arith)
      (scaled_by (b - a) (n - q) (rest_same a b q n (omega arith) fitted same)) (scaled_by a q same)

  -- p / (1 - p)
  pub from_same : a < b → b ≤ 2 * a → scaled_size a (b - a) ≡ scaled_size q (n - q)
  from_same o h =
      scaled_same a (b - a) q (n - q) x.exponent y.exponent (omega arith) (omega arith)
      (scaled_by a q same) (scaled_by (b - a) (n - q) (rest_same a b q n (omega arith) fitted same))

-- ---- tests

or_cases : (a b : Bool) → (a || b) ≡ true → (a ≡ true) ⊎ (b ≡ true)
or_cases true b h = inl refl
or_cases false b h = inr h

-- a positive number's fraction
pub positive_num : (p : Float) → T (positive p) → 0 < num p
positive_num nan h = absurd h
positive_num (inf s) h = absurd h
positive_num (fin true m e) h = absurd h
positive_num (fin false m e) h = mul-pos (ltb→lt 0 m h) (up_pos e)

-- `p == 0.0`
pub zero_is : (p : Float) → eq p zero⁺ ≡ true → num p ≡ 0
unfolding eq
zero_is nan h = absurd (false≢true h)
zero_is (inf s) h = absurd (false≢true h)
zero_is (fin s m e) h =
    omega (arith, eqb-true (m * up e * 1) (0 * down e) (and_both _ _ h).0, mul-one (m * up e), zero-mul (down e))

-- `p == 1.0`
pub one_is : (p : Float) → eq p one⁺ ≡ true → num p ≡ den p
unfolding eq
one_is nan h = absurd (false≢true h)
one_is (inf s) h = absurd (false≢true h)
one_is (fin s m e) h =
    omega (arith, eqb-true (m * up e * 1) (1 * down e) (and_both _ _ h).0, mul-one (m * up e), one-mul (down e))

-- a test that fails on a level number
level_false : (a b : ℕ) → level false a false b ≡ false → a ≡ b → ⊥
level_false a b h e = true≢false (sym (rw (eq-eqb a b e)) ∙ h)

level_zero : (s : Bool) (a b : ℕ) → level s a false b ≡ false → b ≡ 0 → a ≡ b → ⊥
level_zero false a b h z e = level_false a b h e
level_zero true a b h z e = true≢false (sym (rw (eq-eqb a b e, eq-eqb a 0 (e ∙ z))) ∙ h)

-- a probability that is not 0 is above 0
pub above_zero : (p : Float) → is_probability p ≡ true → eq p zero⁺ ≡ false → T (positive p)
unfolding is_probability le lt eq
above_zero nan h n = absurd (false≢true h)
above_zero (inf true) h n = absurd (false≢true h)
above_zero (inf false) h n = absurd (false≢true h)
above_zero (fin false zero e) h n = absurd (level_false (0 * up e * 1) (0 * down e) n (omega (arith, zero-mul (up e), zero-mul (down e))))
above_zero (fin false (suc m) e) h n = lt→ltb 0 (suc m) (omega arith)
above_zero (fin true m e) h n =
    let l : level false (0 * down e) true (m * up e * 1) ≡ true = (and_both (le zero⁺ (fin true m e)) (le (fin true m e) one⁺) h).0 in
    let g : 0 * down e ≡ m * up e * 1 = eqb-true (0 * down e) (m * up e * 1) (and_both _ _ l).0 in
    absurd (level_zero true (m * up e * 1) (0 * down e) n (zero-mul (down e)) (sym g))

-- and at most 1
pub at_most_one : (p : Float) → is_probability p ≡ true → T (positive p) → num p ≤ den p
unfolding is_probability le lt eq
at_most_one nan h n = absurd n
at_most_one (inf s) h n = absurd n
at_most_one (fin true m e) h n = absurd n
at_most_one (fin false m e) h n =
    ⊎_elim
    (λ (l : ltb (m * up e * 1) (1 * down e) ≡ true). omega (arith, ltb-true (m * up e * 1) (1 * down e) l, mul-one (m * up e), one-mul (down e)))
    (λ (l : level false (m * up e * 1) false (1 * down e) ≡ true). omega (arith, eqb-true (m * up e * 1) (1 * down e) (and_both _ _ l).0, mul-one (m * up e), one-mul (down e)))
    (or_cases (ltb (m * up e * 1) (1 * down e)) (level false (m * up e * 1) false (1 * down e)) (and_both (le zero⁺ (fin false m e)) (le (fin false m e) one⁺) h).1)

-- and below 1 unless it is 1
pub below_one : (p : Float) → eq p one⁺ ≡ false → T (positive p) → num p ≤ den p → num p < den p
unfolding eq
below_one nan h n l = absurd n
below_one (inf s) h n l = absurd n
below_one (fin true m e) h n l = absurd n
below_one (fin false m e) h n l =
    ⊎_elim
    (λ (g : num (fin false m e) < den (fin false m e)). g)
    (λ (g : den (fin false m e) ≤ num (fin false m e)). absurd (level_false (m * up e * 1) (1 * down e) h (omega (arith, mul-one (m * up e), one-mul (down e)))))
    (less_or_not (m * up e) (down e))

-- `p < 0.5`
pub half_test : (p : Float) → T (positive p) → lt p (fin false 1 (negsuc 0)) ≡ ltb (2 * num p) (den p)
unfolding lt
half_test nan n = absurd n
half_test (inf s) n = absurd n
half_test (fin true m e) n = absurd n
half_test (fin false m e) n = rw (one-mul (down e), mul_comm (m * up e) 2)

-- `p == 0.5`
pub half_is : (p : Float) → eq p (fin false 1 (negsuc 0)) ≡ true → 2 * num p ≡ den p
unfolding eq
half_is nan h = absurd (false≢true h)
half_is (inf s) h = absurd (false≢true h)
half_is (fin s m e) h = omega (arith, eqb-true (m * up e * 2) (1 * down e) (and_both _ _ h).0, one-mul (down e))

-- a probability's fraction is at most 1
pub fraction_most : (p : Float) → is_probability p ≡ true → num p ≤ den p
fraction_most p h = go (eq p zero⁺) refl
  where
    go : (b : Bool) → eq p zero⁺ ≡ b → num p ≤ den p
    go true e = omega (arith, zero_is p e)
    go false e = at_most_one p h (above_zero p h e)

-- a finite number without a minus that is at most another has no greater fraction
plain_cross : (m n : ℕ) (e d : ℤ) (t : Bool) → le (fin false m e) (fin t n d) ≡ true → m * up e * down d ≤ n * up d * down e
unfolding le lt eq
plain_cross m n e d false h =
    ⊎_elim
    (λ (l : ltb (m * up e * down d) (n * up d * down e) ≡ true). omega (arith, ltb-true (m * up e * down d) (n * up d * down e) l))
    (λ (l : level false (m * up e * down d) false (n * up d * down e) ≡ true). omega (arith, eqb-true (m * up e * down d) (n * up d * down e) (and_both _ _ l).0))
    (or_cases (ltb (m * up e * down d) (n * up d * down e)) (level false (m * up e * down d) false (n * up d * down e)) h)
plain_cross m n e d true h = omega (arith, eqb-true (m * up e * down d) (n * up d * down e) (and_both _ _ h).0)

-- one above 0, and a probability
positive_cross : (p q : Float) → T (positive p) → is_probability q ≡ true → le p q ≡ true → num p * den q ≤ num q * den p
unfolding is_probability le lt eq
positive_cross nan q n g o = absurd n
positive_cross (inf s) q n g o = absurd n
positive_cross (fin true m e) q n g o = absurd n
positive_cross (fin false m e) nan n g o = absurd (false≢true g)
positive_cross (fin false m e) (inf true) n g o = absurd (false≢true g)
positive_cross (fin false m e) (inf false) n g o = absurd (false≢true g)
positive_cross (fin false m e) (fin t k d) n g o = plain_cross m k e d t o

-- `p <= q` for two probabilities, by their fractions
pub order_cross : (p q : Float) → is_probability p ≡ true → is_probability q ≡ true → le p q ≡ true → num p * den q ≤ num q * den p
order_cross p q h g o = go (eq p zero⁺) refl
  where
    go : (b : Bool) → eq p zero⁺ ≡ b → num p * den q ≤ num q * den p
    go true e = omega (arith, ap (λ (n : ℕ). n * den q) (zero_is p e), zero-mul (den q))
    go false e = positive_cross p q (above_zero p h e) g o
