-- That the float of a scaled prior holds it exactly, passes 4, and is in the order of the scaled ones. Assumes nothing.
use mathlib.Core.Path.{◌≡◌, refl, sym, ap, ◌∙◌, subst}
use mathlib.Core.Logic.{⊎_elim}
use mathlib.Core.Bool.{Bool, true, false, ◌&&◌, ◌||◌, true≢false, false≢true}
use Prim.Native.Nat.{ℕ, suc, ◌+◌, ◌*◌, ◌^◌, ◌≤◌, ◌<◌}
use native.Mathlib.Nat.{mul_assoc, mul_comm, mul-one, mul_right_comm, mul-pos, mul-le-mul_right, eq_of_mul-eq-mul_right, lt_of_lt_of_le}
use native.Mathlib.Omega.{arith}
use lib.Dec.{T, ltb, lit≤, lt→ltb, leb→le}
use borrow.Author.Tests.{eq-eqb}
use lib.Pow.{pow_pos, pow_mono, shl_lt}
use lib.IntN.{ℤ, pos, negsuc, nat_abs}
use lib.Ieee.{Float, nan, inf, fin, binary64, up, down, round, div, of_int, unlike, neg, level, lt, eq, le}
use lib.Ieee.Fits.{down_pos}
use lib.Ieee.Exact.{HasValue, round_exact}
use lib.Ieee.Order.{transfer, le_of_values}
use lib.Signed.{◌≤ℤ◌}
use Rattle.numbers.specs.Floats.{saturation}
use Rattle.numbers.proofs.Cases.{less_or_not}
use Rattle.probabilities.specs.Scaled.{most, float_of}

-- ---- exactly

rescale : (x : Float) (s : Bool) (w l n d : ℕ) → 0 < l → n * l ≡ w * d → HasValue x s w l → HasValue x s n d
rescale nan s w l n d p h v = v
rescale (inf t) s w l n d p h v = v
rescale (fin t m e) s w l n d p h v = (
  v.0,
  eq_of_mul-eq-mul_right l p (m * up e * d) (n * down e)
      (mul_right_comm (m * up e) d l
      ∙ ap (λ (x : ℕ). x * d) v.1
      ∙ mul_right_comm w (down e) d
      ∙ ap (λ (x : ℕ). x * down e) (sym h)
      ∙ mul_right_comm n l (down e)),
)

-- a number of 53 bits times a power of two is within the format
in_format : (n j : ℕ) → n < 2 ^ 53 → j ≤ 1074 → n * 2 ^ j < 2 ^ (1074 + 1024)
in_format n j h l = lt_of_lt_of_le (shl_lt {a = n} 53 j h) (pow_mono {i = 53 + j} {j = 1074 + 1024} (omega arith))

-- a whole number is a float
whole_exact : (s : Bool) (n : ℕ) → n < 2 ^ 53 → HasValue (round binary64 s n 1) s n 1
whole_exact s n h = round_exact binary64 s n 1 n 1074 (omega arith) h (in_format n 1074 h (omega arith)) (sym (mul-one (n * 2 ^ 1074)))

-- and so is its 2 ^ 32nd part
unlike_plain : (t : Bool) → unlike t false ≡ t
unlike_plain true = refl
unlike_plain false = refl

part_exact : (x : Float) (s : Bool) (n : ℕ) → n < 2 ^ 53 → HasValue x s n 1 → HasValue (div binary64 x (fin false 1 (pos 32))) s n (2 ^ 32)
unfolding div
part_exact nan s n h v = absurd v
part_exact (inf t) s n h v = absurd v
part_exact (fin t m e) s n h v =
    let w : m * up e * 1 ≡ n * down e = v.1 in
    let fine : m * up e * 1 * 2 ^ 1074 ≡ n * 2 ^ 1042 * (2 ^ 32 * down e) =
    ap (λ (x : ℕ). x * 2 ^ 1074) w
    ∙ mul_assoc n (down e) (2 ^ 1074)
    ∙ ap (λ (x : ℕ). n * x) (mul_comm (down e) (2 ^ 1074) ∙ mul_assoc (2 ^ 1042) (2 ^ 32) (down e))
    ∙ sym (mul_assoc n (2 ^ 1042) (2 ^ 32 * down e)) in
    let some : 0 < 2 ^ 32 * down e = mul-pos (pow_pos 32) (down_pos e) in
    subst
    (λ (b : Bool). HasValue (round binary64 b (m * up e * 1) (2 ^ 32 * down e)) s n (2 ^ 32))
    (sym (unlike_plain t ∙ v.0))
    (rescale (round binary64 s (m * up e * 1) (2 ^ 32 * down e)) s (m * up e * 1) (2 ^ 32 * down e) n (2 ^ 32) some
    (ap (λ (x : ℕ). n * x) (mul_comm (2 ^ 32) (down e)) ∙ sym (mul_assoc n (down e) (2 ^ 32)) ∙ ap (λ (x : ℕ). x * 2 ^ 32) (sym w))
    (round_exact binary64 s (m * up e * 1) (2 ^ 32 * down e) n 1042 some h (in_format n 1042 h (lit≤ tt)) fine))

-- the sign of a whole number: 0 has none
abbrev pub is_below : ℤ → Bool
is_below (pos n) = false
is_below (negsuc n) = true

-- the float of z is z / 2 ^ 32
pub float_exact : (z : ℤ) → nat_abs z < 2 ^ 53 → HasValue (float_of z) (is_below z) (nat_abs z) (2 ^ 32)
unfolding float_of of_int
float_exact (pos n) h = part_exact (round binary64 false n 1) false n h (whole_exact false n h)
float_exact (negsuc n) h = part_exact (round binary64 true (suc n) 1) true (suc n) h (whole_exact true (suc n) h)

-- ---- from -30 to 30

or_first : (a b : Bool) → T a → T (a || b)
or_first true b h = tt
or_first false b h = absurd h

or_second : (a b : Bool) → T b → T (a || b)
or_second true b h = tt
or_second false b h = h

both_hold : (a b : Bool) → T a → T b → (a && b) ≡ true
both_hold true true h k = refl
both_hold true false h k = absurd k
both_hold false b h k = absurd h

-- above 0 or not, a number is at least -30 / 1 ..
plain_low : (m : ℕ) (e : ℤ) → T (le (neg saturation) (fin false m e))
unfolding neg le lt eq
plain_low m e =
    or_first (ltb 0 (30 * down e + m * up e * 1)) (level true (30 * down e) false (m * up e * 1)) (lt→ltb 0 (30 * down e + m * up e * 1) (omega (arith, down_pos e)))

minus_high : (m : ℕ) (e : ℤ) → T (le (fin true m e) saturation)
unfolding le lt eq
minus_high m e =
    or_first (ltb 0 (m * up e * 1 + 30 * down e)) (level true (m * up e * 1) false (30 * down e)) (lt→ltb 0 (m * up e * 1 + 30 * down e) (omega (arith, down_pos e)))

-- of two that are not above 0
minus_order : (a b : ℕ) → b ≤ a → T (ltb b a || level true a true b)
minus_order a b h =
    ⊎_elim
    (λ (l : b < a). or_first (ltb b a) (level true a true b) (lt→ltb b a l))
    (λ (l : a ≤ b). let e : a ≡ b = omega arith in or_second (ltb b a) (level true a true b) (rw (eq-eqb a b e) tt))
    (less_or_not b a)

minus_low : (m : ℕ) (e : ℤ) (n : ℕ) → n ≤ most * 2 ^ 32 → m * up e * 2 ^ 32 ≡ n * down e → T (le (neg saturation) (fin true m e))
unfolding neg le lt eq
minus_low m e n h v = minus_order (30 * down e) (m * up e * 1) (omega (arith, v, mul-le-mul_right (down e) h))

-- ± n / 2 ^ 32, n up to 30 * 2 ^ 32
in_range : (x : Float) (s : Bool) (n : ℕ) → n ≤ most * 2 ^ 32 → HasValue x s n (2 ^ 32) → (le (neg saturation) x && le x saturation) ≡ true
in_range nan s n h v = absurd v
in_range (inf t) s n h v = absurd v
in_range (fin false m e) s n h v =
    both_hold (le (neg saturation) (fin false m e)) (le (fin false m e) saturation) (plain_low m e)
    (le_of_values (fin false m e) saturation n (2 ^ 32) most 1 (pow_pos 32) (pow_pos 0) (refl, v.1) (refl, refl) (omega arith))
in_range (fin true m e) s n h v = both_hold (le (neg saturation) (fin true m e)) (le (fin true m e) saturation) (minus_low m e n h v.1) (minus_high m e)

-- a scaled prior's float passes 4
pub float_range : (z : ℤ) → nat_abs z ≤ most * 2 ^ 32 → (le (neg saturation) (float_of z) && le (float_of z) saturation) ≡ true
float_range z h = in_range (float_of z) (is_below z) (nat_abs z) h (float_exact z (omega arith))

-- ---- in order

-- a number below 0 is below one that is not
minus_plain : (a b c d : ℕ) → 0 < a → 0 < c → T (ltb 0 (a * c + b * d) || level true (a * c) false (b * d))
minus_plain a b c d p q = or_first (ltb 0 (a * c + b * d)) (level true (a * c) false (b * d)) (lt→ltb 0 (a * c + b * d) (omega (arith, mul-pos p q)))

-- a fraction over c of the value (n + 1) / 2 ^ 32 is above 0
some_size : (a n c : ℕ) → 0 < c → a * 2 ^ 32 ≡ suc n * c → 0 < a
some_size a n c p v = omega (arith, v, mul-pos {m = suc n} (omega arith) p)

-- two floats that are y / 2 ^ 32 and z / 2 ^ 32
values_order : (v w : Float) (y z : ℤ) → HasValue v (is_below y) (nat_abs y) (2 ^ 32) → HasValue w (is_below z) (nat_abs z) (2 ^ 32) → y ≤ℤ z → T (le v w)
unfolding le lt eq
values_order v w (pos m) (pos n) p q h = le_of_values v w m (2 ^ 32) n (2 ^ 32) (pow_pos 32) (pow_pos 32) p q (mul-le-mul_right (2 ^ 32) (leb→le m n h.le))
values_order v w (pos m) (negsuc n) p q h = absurd h.le
values_order (fin true a e) (fin false b d) (negsuc m) (pos n) p q h = minus_plain (a * up e) (b * up d) (down d) (down e) (some_size (a * up e) m (down e) (down_pos e) p.1) (down_pos d)
values_order (fin true a e) (fin true b d) (negsuc m) (negsuc n) p q h =
    minus_order (a * up e * down d) (b * up d * down e)
    (transfer (b * up d) (a * up e) (down d) (down e) (suc n) (suc m) (2 ^ 32) (2 ^ 32) (pow_pos 32) (pow_pos 32) q.1 p.1
    (mul-le-mul_right {m = suc n} {n = suc m} (2 ^ 32) (omega (arith, leb→le n m h.le))))
values_order nan w (negsuc m) z p q h = absurd p
values_order (inf s) w (negsuc m) z p q h = absurd p
values_order (fin false a e) w (negsuc m) z p q h = absurd (false≢true p.0)
values_order (fin true a e) nan (negsuc m) z p q h = absurd q
values_order (fin true a e) (inf s) (negsuc m) z p q h = absurd q
values_order (fin true a e) (fin true b d) (negsuc m) (pos n) p q h = absurd (true≢false q.0)
values_order (fin true a e) (fin false b d) (negsuc m) (negsuc n) p q h = absurd (false≢true q.0)

-- of two scaled priors the lesser has the lesser float
pub float_order : (y z : ℤ) → nat_abs y ≤ most * 2 ^ 32 → nat_abs z ≤ most * 2 ^ 32 → y ≤ℤ z → T (le (float_of y) (float_of z))
float_order y z h g o = values_order (float_of y) (float_of z) y z (float_exact y (omega arith)) (float_exact z (omega arith)) o
