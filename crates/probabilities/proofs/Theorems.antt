-- What a reader may rely on: the whole number that is given is within 256 of the exact prior times 2 ^ 32, the float holds it exactly, 1 less a probability has
-- the prior with the other sign, and a greater probability has no greater prior. Assumes nothing.
use mathlib.Core.Path.{◌≡◌, refl, sym, ap, ◌∙◌, subst}
use mathlib.Core.Bool.{Bool, true, false, cond, ◌&&◌}
use Prim.Native.Nat.{ℕ, zero, suc, ◌+◌, ◌-◌, ◌*◌, ◌^◌, ◌≤◌, ◌<◌}
use native.Mathlib.Nat.{add-mul, zero-mul}
use native.Mathlib.Omega.{arith}
use lib.Dec.{eqb, ltb}
use lib.IntN.{ℤ, pos, negsuc, neg_ℤ, nat_abs, ◌-ℤ◌, ◌*ℤ◌, neg_ℤ-+ℤ, pos-*ℤ-pos, negsuc-*ℤ-pos}
use lib.Ieee.{Float, fin, neg, eq, le}
use lib.Ieee.Bits.{is_true}
use lib.Signed.{◌≤ℤ◌}
use lib.Ieee.Exact.{HasValue}
use lib.Ieee.Positive.{num, den, den_pos}
use borrow.Author.Tests.{eqb-false, ltb-true, ltb-false}
use Rattle.numbers.specs.Floats.{zero⁺, one⁺, saturation}
use Rattle.probabilities.specs.Fractions.{Fraction, ratio, cut_to, Near}
use Rattle.probabilities.specs.Logarithm.{logarithm}
use Rattle.probabilities.specs.Scaled.{most, scaled_size, scaled_at, scaled_of, float_of, prior_of}
use Rattle.probabilities.specs.Exact.{Signed, plain, minus, exact_at, exact_prior, signed, Close}
use Rattle.probabilities.specs.Calls.{is_probability}
use Rattle.probabilities.proofs.Logs.{near_most, near_size}
use Rattle.probabilities.proofs.Priors.{at_zero, at_one, scaled_held, den_power, zero_is, one_is, half_is, fraction_most, order_cross}
use Rattle.probabilities.proofs.Sides.{at_same, at_half, at_flip, at_order}
use Rattle.probabilities.proofs.Exactness.{is_below, float_exact, float_range, float_order}

-- ---- near the exact prior

close_plain : (h : ℕ) (x : Fraction) → Near 256 h x → Close (pos h) (plain x)
close_plain h x n = record { sign = refl; near = n }

close_minus : (h : ℕ) (x : Fraction) → Near 256 h x → Close (neg_ℤ (pos h)) (minus x)
close_minus zero x n = record { sign = refl; near = n }
close_minus (suc h) x n = record { sign = refl; near = n }

-- of every fraction from 0 to 1
pub close_at : (a b : ℕ) → a ≤ b → Close (scaled_at a b) (exact_at a b)
unfolding scaled_at exact_at
close_at a b h = go (eqb a 0) (eqb a b) (ltb (2 * a) b) (eqb-false a 0) (eqb-false a b) (ltb-true (2 * a) b) (ltb-false (2 * a) b)
  where
    go : (s t u : Bool) → (s ≡ false → a ≡ 0 → ⊥) → (t ≡ false → a ≡ b → ⊥) → (u ≡ true → 2 * a < b) → (u ≡ false → b ≤ 2 * a)
        → Close
        (cond s (pos (most * 2 ^ 32)) (cond t (neg_ℤ (pos (most * 2 ^ 32))) (cond u (pos (scaled_size (b - a) a)) (neg_ℤ (pos (scaled_size a (b - a)))))))
        (cond s (plain (ratio most 1)) (cond t (minus (ratio most 1)) (cond u (plain (cut_to most (logarithm (b - a) a))) (minus (cut_to most (logarithm a (b - a)))))))
    go true t u n o l g = close_plain (most * 2 ^ 32) (ratio most 1) near_most
    go false true u n o l g = close_minus (most * 2 ^ 32) (ratio most 1) near_most
    go false false true n o l g = let p = n refl in let q = l refl in close_plain (scaled_size (b - a) a) (cut_to most (logarithm (b - a) a)) (near_size (b - a) a (omega arith) (omega arith))
    go false false false n o l g =
        let p = n refl in
        let q = o refl in
        let r = g refl in
        close_minus (scaled_size a (b - a)) (cut_to most (logarithm a (b - a))) (near_size a (b - a) (omega arith) (omega arith))

-- the number that `prior_of` gives is the exact prior times 2 ^ 32, rounded towards zero by at most 256
pub close : (p : Float) → is_probability p ≡ true → Close (scaled_of p) (exact_prior p)
unfolding scaled_of exact_prior
close p h = close_at (num p) (den p) (fraction_most p h)

-- ---- the distance, over the integers

abs_neg : (z : ℤ) → nat_abs (neg_ℤ z) ≡ nat_abs z
abs_neg (pos zero) = refl
abs_neg (pos (suc n)) = refl
abs_neg (negsuc n) = refl

-- of two numbers that are not below zero
abs_between : (m n c : ℕ) → m ≤ n → n ≤ m + c → nat_abs (pos m -ℤ pos n) ≤ c
abs_between m zero c h l = omega arith
abs_between m (suc n) c h l = go (ltb m (suc n)) (ltb-true m (suc n))
  where
    go : (b : Bool) → (b ≡ true → m < suc n) → nat_abs (cond b (negsuc (suc n - suc m)) (pos (m - suc n))) ≤ c
    go true o = omega (arith, o refl)
    go false o = omega arith

-- and of two with one sign
signed_between : (s : Bool) (m n c : ℕ) → m ≤ n → n ≤ m + c → nat_abs (signed s m -ℤ signed s n) ≤ c
signed_between false m n c h l = abs_between m n c h l
signed_between true m n c h l =
    subst (λ (k : ℕ). k ≤ c) (sym (ap nat_abs (sym (neg_ℤ-+ℤ (pos m) (neg_ℤ (pos n)))) ∙ abs_neg (pos m -ℤ pos n))) (abs_between m n c h l)

signed_times : (s : Bool) (h b : ℕ) → signed s h *ℤ pos b ≡ signed s (h * b)
signed_times false h b = pos-*ℤ-pos h b
signed_times true zero b = rw (zero-mul b)
signed_times true (suc h) b = negsuc-*ℤ-pos h b

-- of a number that is close: |r - top / bottom * 2 ^ 32| <= 256, times the bottom
distance : (r : ℤ) (x : Signed) → Close r x → nat_abs (r *ℤ pos x.size.bottom -ℤ signed x.below (x.size.top * 2 ^ 32)) ≤ 256 * x.size.bottom
distance r x c =
    subst
    (λ (z : ℤ). nat_abs (z -ℤ signed x.below (x.size.top * 2 ^ 32)) ≤ 256 * x.size.bottom)
    (sym (ap (λ (z : ℤ). z *ℤ pos x.size.bottom) c.sign ∙ signed_times x.below (nat_abs r) x.size.bottom))
    (signed_between x.below (nat_abs r * x.size.bottom) (x.size.top * 2 ^ 32) (256 * x.size.bottom) c.near.low (omega (arith, c.near.high, add-mul (nat_abs r) 256 x.size.bottom)))

-- so it is within 256 of the exact prior times 2 ^ 32
pub within_256 : (p : Float) → is_probability p ≡ true
    → let x = exact_prior p in nat_abs (scaled_of p *ℤ pos x.size.bottom -ℤ signed x.below (x.size.top * 2 ^ 32)) ≤ 256 * x.size.bottom
within_256 p h = distance (scaled_of p) (exact_prior p) (close p h)

-- ---- the float

-- it is the whole number divided by 2 ^ 32, exactly
pub prior_exact : (p : Float) → HasValue (prior_of p) (is_below (scaled_of p)) (nat_abs (scaled_of p)) (2 ^ 32)
unfolding prior_of
prior_exact p = float_exact (scaled_of p) (omega (arith, scaled_held p (scaled_of p) refl))

-- and passes 4
pub prior_range : (p : Float) → (le (neg saturation) (prior_of p) && le (prior_of p) saturation) ≡ true
unfolding prior_of
prior_range p = float_range (scaled_of p) (scaled_held p (scaled_of p) refl)

-- ---- the ends, the middle and the other side

-- 0, with either sign, has 30
pub prior_zero : (p : Float) → eq p zero⁺ ≡ true → scaled_of p ≡ pos (most * 2 ^ 32)
unfolding scaled_of
prior_zero p h = at_zero (num p) (den p) (zero_is p h)

-- 1 has -30
pub prior_one : (p : Float) → eq p one⁺ ≡ true → scaled_of p ≡ neg_ℤ (pos (most * 2 ^ 32))
unfolding scaled_of
prior_one p h = at_one (num p) (den p) (omega (arith, one_is p h, den_pos p)) (one_is p h)

-- and 1 / 2 has 0, as a fraction ..
pub fraction_half : (p : Float) → 2 * num p ≡ den p → scaled_of p ≡ pos 0
unfolding scaled_of
fraction_half p e = at_half (num p) (den p) (omega (arith, e, den_pos p)) e

-- .. and as the float 0.5
pub prior_half : (p : Float) → eq p (fin false 1 (negsuc 0)) ≡ true → scaled_of p ≡ pos 0
prior_half p h = fraction_half p (half_is p h)

-- where q is 1 - p, exactly, it has the prior of p with the other sign
pub prior_flip : (p q : Float) → num p ≤ den p → num q * den p ≡ (den p - num p) * den q → scaled_of q ≡ neg_ℤ (scaled_of p)
unfolding scaled_of
prior_flip p q h e =
    sym (at_same (den p - num p) (den p) (num q) (den q) (den_power p) (den_power q) (omega arith) (sym e))
    ∙ at_flip (num p) (den p) (den_pos p) h

-- ---- the order

-- of two fractions from 0 to 1 the greater has no greater prior
pub fraction_order : (p q : Float) → num p ≤ den p → num q ≤ den q → num p * den q ≤ num q * den p → scaled_of q ≤ℤ scaled_of p
unfolding scaled_of
fraction_order p q h g o = at_order (num p) (den p) (num q) (den q) (den_power p) (den_power q) h g o

-- so of two probabilities: where p <= q, the whole number of q is at most that of p
pub scaled_order : (p q : Float) → is_probability p ≡ true → is_probability q ≡ true → le p q ≡ true → scaled_of q ≤ℤ scaled_of p
scaled_order p q h g o = fraction_order p q (fraction_most p h) (fraction_most q g) (order_cross p q h g o)

-- and so is the float
pub prior_order : (p q : Float) → is_probability p ≡ true → is_probability q ≡ true → le p q ≡ true → le (prior_of q) (prior_of p) ≡ true
unfolding prior_of
prior_order p q h g o =
    is_true (le (float_of (scaled_of q)) (float_of (scaled_of p)))
    (float_order (scaled_of q) (scaled_of p) (scaled_held q (scaled_of q) refl) (scaled_held p (scaled_of p) refl) (scaled_order p q h g o))
