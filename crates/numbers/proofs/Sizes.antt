-- How large a float is: what lies between two bounds, a sum and a product keep to bounds that are whole numbers. Assumes nothing.
use Rattle.std.proofs.Common.{◌≡◌, ℕ, suc, ◌+◌, ◌-◌, ◌*◌, ◌/◌, ◌^◌, ◌<◌, ◌≤◌, Bool, true, false, cond, not, ◌&&◌, ltb, sym, refl, ap, ◌∙◌, subst, le_trans, le_of_eq, lt_of_lt_of_le, lt_of_le_of_lt, mul-le-mul_right, mul_assoc, mul_comm, add-mul, mul-le-mul, mul-pos, mul-one, mul_right_comm, le_of_mul-le-mul_right, div-one, arith, pow_pos, pow_mono, pow-add, shl_lt}
use mathlib.Core.Bool.{beq, false≢true}
use Prim.Native.Nat.{compare, Ordering}
use native.Mathlib.Nat.{mul-mul-mul_comm, mod-one, div-le_of_le-mul}
use lib.Ieee.{Float, nan, inf, fin, Format, binary64, prec, emax, low, up, down, size, nearest, units, round, unlike, neg, sum, add, mul, le}
use lib.Ieee.Digits.{size-le, back}
use lib.Ieee.Fits.{round_is, reach, down_pos}
use lib.Ieee.Exact.{HasValue, units_val}
use lib.Ieee.Nearest.{closest, closest_mono}
use lib.Ieee.Order.{drop, kept}
use Rattle.numbers.specs.Floats.{◌+ᶠ◌, ◌*ᶠ◌, is_finite}
use Rattle.numbers.proofs.Order.{NotAbove, le_fact}

-- x is a finite number of at most a in size
abbrev pub Within : Float → ℕ → Type 0
Within nan a = ⊥
Within (inf s) a = ⊥
Within (fin s m e) a = m * up e ≤ a * down e

-- so it is finite
pub within_finite : (x : Float) (a : ℕ) → Within x a → is_finite x ≡ true
unfolding is_finite
within_finite nan a h = absurd h
within_finite (inf s) a h = absurd h
within_finite (fin s m e) a h = refl

-- what is a / c, and that at most k, is within k
value_within : (x : Float) (s : Bool) (a c k : ℕ) → 0 < c → a ≤ k * c → HasValue x s a c → Within x k
value_within nan s a c k p h v = v
value_within (inf t) s a c k p h v = v
value_within (fin t m e) s a c k p h v =
    let u : a * down e ≤ k * c * down e = mul-le-mul_right (down e) h in
    le_of_mul-le-mul_right {k = c} (omega (arith, u, v.1, mul_right_comm k c (down e))) p

-- ---- comparing

-- a / p <= b / q <= k give a / p <= k
fraction_within : (a p b q k : ℕ) → 0 < q → a * q ≤ b * p → b ≤ k * q → a ≤ k * p
fraction_within a p b q k some h g = le_of_mul-le-mul_right {k = q} (le_trans h (le_trans (mul-le-mul_right p g) (le_of_eq (mul_right_comm k q p)))) some

-- a is at most b in size where a <= ±b
plus_bound : (a : ℕ) (t : Bool) (b : ℕ) → NotAbove false a t b → a ≤ b
plus_bound a false b h = h
plus_bound a true b h = omega arith

-- and where ±b <= -a
minus_bound : (b : ℕ) (t : Bool) (a : ℕ) → NotAbove t b true a → a ≤ b
minus_bound b false a h = omega arith
minus_bound b true a h = h

-- what is between -y and y is within each bound of y
pub between_within : (x y : Float) (a : ℕ) → le (neg y) x ≡ true → le x y ≡ true → Within y a → Within x a
unfolding neg le
between_within x nan a h g w = absurd w
between_within x (inf t) a h g w = absurd w
between_within nan (fin t n d) a h g w = absurd (false≢true g)
between_within (inf true) (fin t n d) a h g w = absurd (false≢true h)
between_within (inf false) (fin t n d) a h g w = absurd (false≢true g)
between_within (fin false m e) (fin t n d) a h g w = fraction_within (m * up e) (down e) (n * up d) (down d) a (down_pos d) (plus_bound _ t _ (le_fact false _ t _ g)) w
between_within (fin true m e) (fin t n d) a h g w = fraction_within (m * up e) (down e) (n * up d) (down d) a (down_pos d) (minus_bound _ (not t) _ (le_fact (not t) _ true _ h)) w

-- ---- rounding

-- a whole number is the closest to itself
closest_whole : (n : ℕ) → closest n 1 ≡ n
closest_whole n = ap (λ (o : Ordering). nearest (n / 1) o) (ap (λ (x : ℕ). compare (x * 2) 1) (mod-one n)) ∙ div-one n

-- of a fraction n / den that is at most k * 2 ^ l, where k has at most p digits, at most l digits are dropped
few_dropped : (p l n den k : ℕ) → n ≤ k * 2 ^ l * den → k < 2 ^ p → drop p n den ≤ l
few_dropped p l n den k h few =
    let most : n / den ≤ k * 2 ^ l = div-le_of_le-mul den (omega (arith, mul_comm (k * 2 ^ l) den)) in
    let some : size (n / den) ≤ p + l = size-le (n / den) (p + l) (lt_of_le_of_lt most (shl_lt {a = k} p l few)) in
    omega arith

-- and what is kept is at most k * 2 ^ l too, since that is a multiple of the unit
kept_within : (p l n den k : ℕ) → 0 < den → n ≤ k * 2 ^ l * den → k < 2 ^ p → kept p n den * 2 ^ drop p n den ≤ k * 2 ^ l
kept_within p l n den k some h few =
    let j = drop p n den in
    let whole = k * 2 ^ (l - j) in
    let split : whole * 2 ^ j ≡ k * 2 ^ l =
    mul_assoc k (2 ^ (l - j)) (2 ^ j) ∙ ap (λ (x : ℕ). k * x) (sym (pow-add 2 (l - j) j) ∙ ap (λ (x : ℕ). 2 ^ x) (back l j (few_dropped p l n den k h few))) in
    let below : n * 1 ≤ whole * (den * 2 ^ j) =
    le_trans (le_of_eq (mul-one n)) (le_trans h (le_of_eq (ap (λ (x : ℕ). x * den) (sym split) ∙ mul_assoc whole (2 ^ j) den ∙ ap (λ (x : ℕ). whole * x) (mul_comm (2 ^ j) den)))) in
    let near : kept p n den ≤ whole = le_trans (closest_mono n (den * 2 ^ j) whole 1 (mul-pos some (pow_pos j)) (pow_pos 0) below) (le_of_eq (closest_whole whole)) in
    le_trans (mul-le-mul_right (2 ^ j) near) (le_of_eq split)

-- rounding keeps to a bound that is a whole number of the format's digits, whatever the sign
rounded_within : (f : Format) (s : Bool) (num den k : ℕ) → 0 < den → num ≤ k * den → k < 2 ^ prec f → Within (round f s num den) k
rounded_within f s num den k some h few =
    let l = 2 ^ low f in
    let n = num * l in
    let below : n ≤ k * l * den = le_trans (mul-le-mul_right l h) (le_of_eq (mul_right_comm k den l)) in
    let most : kept (prec f) n den * 2 ^ drop (prec f) n den ≤ k * l = kept_within (prec f) (low f) n den k some below few in
    let room : 2 ^ (prec f + low f) ≤ 2 ^ (low f + suc (emax f)) = pow_mono (in_reach (prec f) (low f) (suc (emax f)) (reach f)) in
    subst (λ (x : Float). Within x k) (sym (round_is f s num den))
    (value_within (units f s (kept (prec f) n den) (drop (prec f) n den)) s (kept (prec f) n den * 2 ^ drop (prec f) n den) l k (pow_pos (low f)) most
    (units_val f s (kept (prec f) n den) (drop (prec f) n den) (lt_of_le_of_lt most (lt_of_lt_of_le (shl_lt {a = k} (prec f) (low f) few) room))))
  where
    in_reach : (p l m : ℕ) → p ≤ m → p + l ≤ l + m
    in_reach p l m h = omega arith

-- rounding keeps to a whole number below 2 ^ 53
pub round_within : (s : Bool) (num den k : ℕ) → 0 < den → num ≤ k * den → k < 2 ^ 53 → Within (round binary64 s num den) k
round_within s num den k some h few = rounded_within binary64 s num den k some h few

-- ---- sums and products

-- of two that are within a bound, the one that is chosen
cond_within : (b : Bool) (x y : Float) (k : ℕ) → Within x k → Within y k → Within (cond b x y) k
cond_within true x y k h g = h
cond_within false x y k h g = g

-- a sum over one denominator, whatever the signs
sum_within : (s : Bool) (a : ℕ) (t : Bool) (b c k : ℕ) → 0 < c → a + b ≤ k * c → k < 2 ^ 53 → Within (sum binary64 s a t b c) k
unfolding sum
sum_within s a t b c k some h few =
    cond_within (beq s t) _ _ k
    (round_within s (a + b) c k some h few)
    (cond_within (ltb a b) _ _ k (round_within t (b - a) c k some (omega arith) few) (round_within (s && ltb b a) (a - b) c k some (omega arith) few))

-- a sum is within the sum of the bounds
pub add_within : (x y : Float) (a b : ℕ) → Within x a → Within y b → a + b < 2 ^ 53 → Within (x +ᶠ y) (a + b)
unfolding add
add_within nan y a b h g few = absurd h
add_within (inf s) y a b h g few = absurd h
add_within (fin s m e) nan a b h g few = absurd g
add_within (fin s m e) (inf t) a b h g few = absurd g
add_within (fin s m e) (fin t n d) a b h g few =
    let u : m * up e * down d ≤ a * (down e * down d) = le_trans (mul-le-mul_right (down d) h) (le_of_eq (mul_assoc a (down e) (down d))) in
    let v : n * up d * down e ≤ b * (down e * down d) = le_trans (mul-le-mul_right (down e) g) (le_of_eq (mul_assoc b (down d) (down e) ∙ ap (λ (x : ℕ). b * x) (mul_comm (down d) (down e)))) in
    sum_within s (m * up e * down d) t (n * up d * down e) (down e * down d) (a + b) (mul-pos (down_pos e) (down_pos d)) (omega (arith, u, v, add-mul a b (down e * down d))) few

-- and a product within their product
pub mul_within : (x y : Float) (a b : ℕ) → Within x a → Within y b → a * b < 2 ^ 53 → Within (x *ᶠ y) (a * b)
unfolding mul
mul_within nan y a b h g few = absurd h
mul_within (inf s) y a b h g few = absurd h
mul_within (fin s m e) nan a b h g few = absurd g
mul_within (fin s m e) (inf t) a b h g few = absurd g
mul_within (fin s m e) (fin t n d) a b h g few =
    round_within (unlike s t) (m * up e * (n * up d)) (down e * down d) (a * b) (mul-pos (down_pos e) (down_pos d))
    (le_trans (mul-le-mul h g) (le_of_eq (mul-mul-mul_comm a (down e) b (down d)))) few
