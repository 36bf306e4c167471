-- A float's sign and magnitude read off its bits, and what `x == x` says. Assumes nothing.
use Rattle.std.proofs.Common.{◌≡◌, ℕ, zero, suc, ◌+◌, ◌*◌, ◌/◌, ◌%◌, Bool, true, false, cond, not, T, eqb, leb, sym, refl, ap, ◌∙◌, subst, true≢false, arith, eq-eqb}
use mathlib.Core.Bool.{false≢true}
use lib.Ieee.{Float, nan, inf, fin, binary64, up, down, eq, level, fits, is_nan, odd, of_fields, of_bits, to_bits, ones, hid, low, prec, nan_bits}
use lib.Ieee.Bits.{of_bits-to_bits, nan_bits_is}
use borrow.Author.Tests.{lt-leb}
use Rattle.numbers.specs.Floats.{abs, is_negative}

-- ---- `x == x`

-- what equals itself is no NaN
pub self_number : (x : Float) → eq x x ≡ true → T (not (is_nan x))
unfolding eq is_nan
self_number nan h = absurd (false≢true h)
self_number (inf s) h = tt
self_number (fin s m e) h = tt

-- and what doesn't is one
pub self_nan : (x : Float) → eq x x ≡ false → x ≡ nan
unfolding eq
self_nan nan h = refl
self_nan (inf true) h = absurd (true≢false h)
self_nan (inf false) h = absurd (true≢false h)
self_nan (fin s m e) h = absurd (true≢false (sym (same s (m * up e * down e)) ∙ h))
  where
    same : (s : Bool) (a : ℕ) → level s a s a ≡ true
    same true a = rw (eq-eqb a a refl)
    same false a = rw (eq-eqb a a refl)

-- ---- the sign

-- a finite float made of digits has the sign given
odd_sign : (d : ℕ) (s : Bool) (q k l : ℕ) → is_negative (odd d s q k l) ≡ s
unfolding odd is_negative
odd_sign d s zero k l = refl
odd_sign d s (suc q) k l = refl

-- and so has a float made of fields, but a NaN
fields_sign : (s : Bool) (x t : ℕ) → T (not (is_nan (of_fields binary64 s x t))) → is_negative (of_fields binary64 s x t) ≡ s
unfolding of_fields is_nan is_negative
fields_sign s zero t n = odd_sign (prec binary64) s t 0 (low binary64)
fields_sign s (suc x) t n = go (eqb (suc x) (ones binary64)) (eqb t 0) n
  where
    go : (a b : Bool) → T (not (is_nan (cond a (cond b (inf s) nan) (odd (prec binary64) s (hid binary64 + t) x (low binary64)))))
        → is_negative (cond a (cond b (inf s) nan) (odd (prec binary64) s (hid binary64 + t) x (low binary64))) ≡ s
    go true true n = refl
    go true false n = absurd n
    go false b n = odd_sign (prec binary64) s (hid binary64 + t) x (low binary64)

-- the sign is the top bit
sign_bit : (b : ℕ) → T (not (is_nan (of_bits binary64 b))) → is_negative (of_bits binary64 b) ≡ leb 9223372036854775808 b
unfolding of_bits
sign_bit b n = fields_sign (leb 9223372036854775808 b) (b % 9223372036854775808 / 4503599627370496) (b % 4503599627370496) n

-- of any float but a NaN
pub negative_bits : (x : Float) → fits binary64 x ≡ true → T (not (is_nan x)) → leb 9223372036854775808 (to_bits binary64 x) ≡ is_negative x
negative_bits x h n =
    let e : of_bits binary64 (to_bits binary64 x) ≡ x = of_bits-to_bits binary64 x (subst T (sym h) tt) in
    sym (sign_bit (to_bits binary64 x) (subst (λ (y : Float). T (not (is_nan y))) (sym e) n)) ∙ ap is_negative e

-- ---- the magnitude

-- of a float made of digits
abs_odd : (d : ℕ) (s : Bool) (q k l : ℕ) → abs (odd d s q k l) ≡ odd d false q k l
unfolding odd abs
abs_odd d s zero k l = refl
abs_odd d s (suc q) k l = refl

-- and of fields
abs_fields : (s : Bool) (x t : ℕ) → abs (of_fields binary64 s x t) ≡ of_fields binary64 false x t
unfolding of_fields abs
abs_fields s zero t = abs_odd (prec binary64) s t 0 (low binary64)
abs_fields s (suc x) t = go (eqb (suc x) (ones binary64)) (eqb t 0)
  where
    go : (a b : Bool) → abs (cond a (cond b (inf s) nan) (odd (prec binary64) s (hid binary64 + t) x (low binary64)))
        ≡ cond a (cond b (inf false) nan) (odd (prec binary64) false (hid binary64 + t) x (low binary64))
    go true true = refl
    go true false = refl
    go false b = abs_odd (prec binary64) s (hid binary64 + t) x (low binary64)

-- the magnitude is the bits below the top one
abs_bit : (b : ℕ) → abs (of_bits binary64 b) ≡ of_bits binary64 (b % 9223372036854775808)
unfolding of_bits
abs_bit b =
    let r : b % 9223372036854775808 % 9223372036854775808 ≡ b % 9223372036854775808 = omega arith in
    let t : b % 9223372036854775808 % 4503599627370496 ≡ b % 4503599627370496 = omega arith in
    abs_fields (leb 9223372036854775808 b) (b % 9223372036854775808 / 4503599627370496) (b % 4503599627370496)
    ∙ sym (rw (lt-leb 9223372036854775808 (b % 9223372036854775808) (omega arith), r, t))

-- of any float
pub abs_bits : (x : Float) → fits binary64 x ≡ true → of_bits binary64 (to_bits binary64 x % 9223372036854775808) ≡ abs x
abs_bits x h = sym (abs_bit (to_bits binary64 x)) ∙ ap abs (of_bits-to_bits binary64 x (subst T (sym h) tt))

-- a NaN's magnitude is a NaN, and no other's is
pub abs_number : (x : Float) → is_nan (abs x) ≡ is_nan x
unfolding is_nan abs
abs_number nan = refl
abs_number (inf s) = refl
abs_number (fin s m e) = refl

-- so these bits are no NaN's
pub abs_no_nan : (x : Float) → fits binary64 x ≡ true → T (not (is_nan x)) → T (not (nan_bits binary64 (to_bits binary64 x % 9223372036854775808)))
abs_no_nan x h n =
    subst (λ (b : Bool). T (not b)) (sym (nan_bits_is binary64 (to_bits binary64 x % 9223372036854775808) ∙ ap is_nan (abs_bits x h) ∙ abs_number x)) n
