-- Gammas that are drawn from an interval within 1 are within 1: low + (high - low) * unit, each operation rounded. The span is at most 2, so it rounds up by at most
-- 2 ^ -53; a share of it, from 0 to 1, rounds to no more than it; and what is at most 1 + 2 ^ -53 rounds to at most 1, a tie to the even one. Assumes nothing.
use Prim.Native.Nat.{ℕ, suc, ◌+◌, ◌-◌, ◌*◌, ◌/◌, ◌%◌, ◌^◌, ◌<◌, ◌≤◌, compare, Ordering}
use mathlib.Core.Path.{◌≡◌, refl, sym, ap, ◌∙◌, subst}
use mathlib.Core.Bool.{true, false, not, true≢false}
use mathlib.Core.Logic.{⊎_elim}
use native.Mathlib.Nat.{le_trans, le_of_eq, le_antisymm, mul_comm, mul-le-mul_left, mul-le-mul_right, le_of_mul-le-mul_right, mul-lt-mul_of_pos_right, mul-pos}
use native.Mathlib.Nat.{div-add-mod', mod-lt, div-lt_iff_lt-mul, div-div-eq-div-mul}
use native.Mathlib.Omega.{arith}
use lib.Bits.{xor_lt}
use lib.Dec.{T, ltb, is_le, compare_is_eq, nleb→lt, eqb→eq}
use lib.IntN.{negsuc}
use lib.ListN.{get_or}
use lib.Pow.{pow-add, pow_pos, pow_mono, pow-lt}
use lib.Ieee.{Float, nan, inf, fin, Format, binary64, prec, low, up, down, nearest, round, neg, sum, add, sub, mul, of_int, le}
use lib.Ieee.Bits.{is_true}
use lib.Ieee.Back.{round_whole}
use lib.Ieee.Digits.{size-le}
use lib.Ieee.Exact.{HasValue, round_exact}
use lib.Ieee.Fits.{two, reach, kept-lt, nearest-le, down_pos}
use lib.Ieee.Nearest.{closest}
use lib.Ieee.Order.{drop, kept, transfer, round_mono}
use lib.Ieee.Scale.{grid, overflow, finite, round_val, round_under}
use borrow.Author.Tests.{lt-ltb, le-ltb}
use Rattle.numbers.specs.Draw.{mixed_by, mixed, unit, gamma}
use Rattle.numbers.specs.Floats.{◌+ᶠ◌, ◌-ᶠ◌, ◌*ᶠ◌, zero⁺, one⁺}
use Rattle.numbers.proofs.Cases.{less_or_not}
use Rattle.numbers.proofs.Order.{le_fact}
use Rattle.numbers.proofs.Sizes.{Within, round_within, add_within, mul_within}
use Rattle.relay_gammas.specs.Gammas.{drawn_on, drawn}
use Rattle.relay_gammas.proofs.Draws.{drawn_at}

-- ---- how far rounding goes up

-- to the nearest whole number: at most a half
near_half : (w r u : ℕ) (o : Ordering) → (T (compare_is_eq o) → r * 2 ≡ u) → (T (not (is_le o)) → u < r * 2) → 2 * (nearest w o * u) ≤ 2 * (w * u + r) + u
near_half w r u Ordering.lt e g = omega arith
near_half w r u Ordering.eq e g =
    let most : w + w % 2 ≤ suc w = omega arith in
    omega (arith, mul-le-mul_right u most, e tt)
near_half w r u Ordering.gt e g = omega (arith, g tt)

-- of a fraction
closest_half : (n u : ℕ) → 2 * (closest n u * u) ≤ 2 * n + u
closest_half n u =
    omega (arith, div-add-mod' n u, near_half (n / u) (n % u) u (compare (n % u * 2) u) (eqb→eq (n % u * 2) u) (nleb→lt (n % u * 2) u))

-- as many digits are kept as a format has, or one power of two more
kept_most : (p n c : ℕ) → kept p n c ≤ 2 ^ p
kept_most p n c =
    let k = drop p n c in
    le_trans (nearest-le (n / (c * 2 ^ k)) (compare (n % (c * 2 ^ k) * 2) (c * 2 ^ k)))
    (subst (λ (x : ℕ). x < 2 ^ p) (div-div-eq-div-mul n c (2 ^ k)) (kept-lt p (n / c)))

-- a format has digits for what is below 2
last_digit : (f : Format) → low f + 1 - prec f + prec f ≡ low f + 1
last_digit f = omega (arith, reach f, two f)

-- g / X is n / c and at most 1 / Y more
scaled_half : (g n c X Y Z : ℕ) → 2 * (g * c) ≤ 2 * (n * X) + c * Z → Z * Y ≡ 2 * X → g * (c * Y) ≤ (n * Y + c) * X
scaled_half g n c X Y Z h e = omega (arith, mul-le-mul_right Y h, ap (λ (m : ℕ). c * m) e)

-- what is below 2 rounds to at most 2 ^ -prec more
below_two : (f : Format) (n c : ℕ) → 0 < c → n < 2 * c → grid f n c * (c * 2 ^ prec f) ≤ (n * 2 ^ prec f + c) * 2 ^ low f
below_two f n c some h =
    let l = low f in
    let p = prec f in
    let j = l + 1 - p in
    let m = n * 2 ^ l in
    let d = drop p m c in
    let below : m / c < 2 ^ (l + 1) =
    (div-lt_iff_lt-mul some).1 (omega (arith, mul-lt-mul_of_pos_right h (pow_pos l), pow-add 2 l 1, ap (λ (x : ℕ). x * c) (pow-add 2 l 1))) in
    let few : d ≤ j = omega (arith, size-le (m / c) (l + 1) below, last_digit f) in
    let fine : c * 2 ^ d ≤ c * 2 ^ j = mul-le-mul_left c (pow_mono few) in
    let most : 2 * (kept p m c * 2 ^ d * c) ≤ 2 * m + c * 2 ^ j = omega (arith, closest_half m (c * 2 ^ d), fine) in
    scaled_half (kept p m c * 2 ^ d) n c (2 ^ l) (2 ^ p) (2 ^ j) most (sym (pow-add 2 j p) ∙ ap (λ (x : ℕ). 2 ^ x) (last_digit f) ∙ pow-add 2 l 1 ∙ mul_comm (2 ^ l) 2)

-- ---- what is no more than a rounded value rounds to no more

-- of two values that are not negative, one not above the other
le_values : (x y : Float) (a c b d : ℕ) → HasValue x false a c → HasValue y false b d → T (le x y) → a * d ≤ b * c
unfolding le
le_values nan y a c b d v w h = absurd v
le_values (inf s) y a c b d v w h = absurd v
le_values (fin true m e) y a c b d v w h = absurd (true≢false v.0)
le_values (fin false m e) nan a c b d v w h = absurd w
le_values (fin false m e) (inf t) a c b d v w h = absurd w
le_values (fin false m e) (fin true n k) a c b d v w h = absurd (true≢false w.0)
le_values (fin false m e) (fin false n k) a c b d v w h =
    transfer a b c d (m * up e) (n * up k) (down e) (down k) (down_pos e) (down_pos k) (sym v.1) (sym w.1) (le_fact false _ false _ (is_true _ h))

module _ (f : Format) (a c : ℕ) (some : 0 < c) (inside : T (finite (round f false a c))) where
  -- the value of a fraction that is rounded
  rounded : HasValue (round f false a c) false (grid f a c) (2 ^ low f)
  rounded = round_val f a c (round_under f a c inside)

  -- it is at most one that has the digits of the format
  digits_bound : (k j : ℕ) → k < 2 ^ prec f → k * 2 ^ j < overflow f → a * 2 ^ low f ≤ k * 2 ^ j * c → grid f a c ≤ k * 2 ^ j
  digits_bound k j small fine h =
      le_of_mul-le-mul_right {k = 2 ^ low f}
      (le_values (round f false a c) (round f false (k * 2 ^ j) (2 ^ low f)) (grid f a c) (2 ^ low f) (k * 2 ^ j) (2 ^ low f) rounded
      (round_exact f false (k * 2 ^ j) (2 ^ low f) k j (pow_pos (low f)) small fine refl)
      (round_mono f a c (k * 2 ^ j) (2 ^ low f) some (pow_pos (low f)) h))
      (pow_pos (low f))

  -- and at most one that was rounded
  rounded_bound : (n d : ℕ) → grid f n d < overflow f → a * 2 ^ low f ≤ grid f n d * c → grid f a c ≤ grid f n d
  rounded_bound n d fine h =
      ⊎_elim
      (λ (l : kept p m d < 2 ^ p). digits_bound (kept p m d) j l fine h)
      (λ (l : 2 ^ p ≤ kept p m d).
      let same : 2 ^ (p - 1) * 2 ^ suc j ≡ grid f n d =
      sym (pow-add 2 (p - 1) (suc j)) ∙ ap (λ (x : ℕ). 2 ^ x) (moved p j (two f)) ∙ pow-add 2 p j ∙ ap (λ (x : ℕ). x * 2 ^ j) (le_antisymm l (kept_most p m d)) in
      le_trans (digits_bound (2 ^ (p - 1)) (suc j) (pow-lt (one_less p (two f))) (rw same fine) (rw same h)) (le_of_eq same))
      (less_or_not (kept p m d) (2 ^ p))
    where
      p : ℕ
      p = prec f

      m : ℕ
      m = n * 2 ^ low f

      j : ℕ
      j = drop p m d

      moved : (p j : ℕ) → 2 ≤ p → p - 1 + suc j ≡ p + j
      moved p j h = omega arith

      one_less : (p : ℕ) → 2 ≤ p → p - 1 < p
      one_less p h = omega arith

-- ---- what is at most 2 rounds to at most 2 ^ -prec more

-- 2 is a number of each format
two_is : (f : Format) → 2 ^ (prec f - 1) * 2 ^ (low f + 2 - prec f) ≡ 2 * 2 ^ low f
two_is f =
    let e : prec f - 1 + (low f + 2 - prec f) ≡ low f + 1 = omega (arith, reach f, two f) in
    sym (pow-add 2 (prec f - 1) (low f + 2 - prec f)) ∙ ap (λ (x : ℕ). 2 ^ x) e ∙ pow-add 2 (low f) 1 ∙ mul_comm (2 ^ low f) 2

-- so what is at most 2 rounds to at most 2
at_most_two : (f : Format) (n c : ℕ) → 0 < c → T (finite (round f false n c)) → n ≤ 2 * c → grid f n c ≤ 2 * 2 ^ low f
at_most_two f n c some inside h =
    let room : 2 ^ (low f + 1) < overflow f = pow-lt (omega (arith, reach f, two f)) in
    let fine : 2 * 2 ^ low f < overflow f = omega (arith, room, pow-add 2 (low f) 1) in
    le_trans
    (digits_bound f n c some inside (2 ^ (prec f - 1)) (low f + 2 - prec f) (pow-lt (omega (arith, two f))) (rw (two_is f) fine)
    (rw (two_is f) (omega (arith, mul-le-mul_right (2 ^ low f) h))))
    (le_of_eq (two_is f))

-- the excess
rounded_half : (f : Format) (n c : ℕ) → 0 < c → T (finite (round f false n c)) → n ≤ 2 * c → grid f n c * (c * 2 ^ prec f) ≤ (n * 2 ^ prec f + c) * 2 ^ low f
rounded_half f n c some inside h =
    ⊎_elim
    (λ (l : n < 2 * c). below_two f n c some l)
    (λ (l : 2 * c ≤ n). at_two (grid f n c) (2 ^ low f) (2 ^ prec f) l (at_most_two f n c some inside h))
    (less_or_not n (2 * c))
  where
    at_two : (g X Y : ℕ) → 2 * c ≤ n → g ≤ 2 * X → g * (c * Y) ≤ (n * Y + c) * X
    at_two g X Y l k = omega (arith, mul-le-mul_right (c * Y) k, mul-le-mul_right (Y * X) l)

-- ---- a share of what was rounded

-- x is not negative, and at most n / c
abbrev Under : Float → ℕ → ℕ → Type 0
Under nan n c = ⊥
Under (inf s) n c = ⊥
Under (fin true m e) n c = ⊥
Under (fin false m e) n c = m * up e * c ≤ n * down e

-- by its value
value_under : (x : Float) (g l n c : ℕ) → 0 < l → HasValue x false g l → g * c ≤ n * l → Under x n c
value_under nan g l n c some v h = v
value_under (inf s) g l n c some v h = v
value_under (fin true m e) g l n c some v h = true≢false v.0
value_under (fin false m e) g l n c some v h =
    le_of_mul-le-mul_right {k = l} (omega (arith, ap (λ (x : ℕ). x * c) v.1, mul-le-mul_right (down e) h)) some

-- a share u of a rounded fraction s, from 0 to 1, is at most the fraction and its excess
share_under : (f : Format) (s u : Float) (n c : ℕ) → 0 < c → n ≤ 2 * c → T (finite (round f false n c)) → s ≡ round f false n c → Under u 1 1 → T (finite (mul f s u))
    → Under (mul f s u) (n * 2 ^ prec f + c) (c * 2 ^ prec f)
unfolding mul
share_under f s u n c some h inside is share ok = go s u (subst (λ (x : Float). HasValue x false (grid f n c) (2 ^ low f)) (sym is) (rounded f n c some inside)) share ok
  where
    cross : (a b g l p k q : ℕ) → a * l ≡ g * p → k * 1 ≤ 1 * q → b ≡ a * k → b * l ≤ g * (p * q)
    cross a b g l p k q e h r = rw r (omega (arith, ap (λ (x : ℕ). x * k) e, mul-le-mul_right (g * p) h))

    go : (s u : Float) → HasValue s false (grid f n c) (2 ^ low f) → Under u 1 1 → T (finite (mul f s u)) → Under (mul f s u) (n * 2 ^ prec f + c) (c * 2 ^ prec f)
    go nan u v w ok = absurd v
    go (inf t) u v w ok = absurd v
    go (fin true m e) u v w ok = absurd (true≢false v.0)
    go (fin false m e) nan v w ok = absurd w
    go (fin false m e) (inf t) v w ok = absurd w
    go (fin false m e) (fin true k d) v w ok = absurd w
    go (fin false m e) (fin false k d) v w ok =
        let a = m * up e * (k * up d) in
        let b = down e * down d in
        let pos : 0 < b = mul-pos (down_pos e) (down_pos d) in
        let less : grid f a b ≤ grid f n c =
        rounded_bound f a b pos ok n c (round_under f n c inside) (cross (m * up e) a (grid f n c) (2 ^ low f) (down e) (k * up d) (down d) v.1 w refl) in
        value_under (round f false a b) (grid f a b) (2 ^ low f) (n * 2 ^ prec f + c) (c * 2 ^ prec f) (pow_pos (low f)) (rounded f a b pos ok)
        (le_trans (mul-le-mul_right (c * 2 ^ prec f) less) (rounded_half f n c some inside h))

-- ---- in binary64

-- what is within a bound is finite
inside_of : (x : Float) (a : ℕ) → Within x a → T (finite x)
inside_of nan a h = absurd h
inside_of (inf s) a h = absurd h
inside_of (fin s m e) a h = tt

-- from 0 to 1
zero_to_one : (x : Float) → T (le zero⁺ x) → T (le x one⁺) → Within x 1
unfolding le
zero_to_one nan h k = absurd h
zero_to_one (inf true) h k = absurd h
zero_to_one (inf false) h k = absurd k
zero_to_one (fin true m e) h k = omega (arith, le_fact false (0 * 1 * down e) true (m * up e * 1) (is_true _ h))
zero_to_one (fin false m e) h k = omega (arith, le_fact false (m * up e * 1) false (1 * 1 * down e) (is_true _ k))

-- what is at most 1 + 2 ^ -53 rounds to at most 1, a tie to the even one
about_one : (n c : ℕ) → 0 < c → n * 2 ^ 53 ≤ (2 ^ 53 + 1) * c → Within (round binary64 false n c) 1
unfolding round
about_one n c some h =
    zero_to_one (round binary64 false n c) (round_mono binary64 0 1 n c (omega arith) some (omega arith))
    (round_mono binary64 n c (2 ^ 53 + 1) (2 ^ 53) some (omega arith) h)

-- where the exact span n / c, added to lo, ends: at most at 1
abbrev Reaches : Float → ℕ → ℕ → Type 0
Reaches nan n c = ⊥
Reaches (inf s) n c = ⊥
Reaches (fin false m e) n c = n * down e + m * up e * c ≤ down e * c
Reaches (fin true m e) n c = n * down e ≤ (down e + m * up e) * c

-- lo at or above 0: the exact sum of lo = l / p and t / q
sum_above : (l p t q n c y : ℕ) → 0 < c → t * (c * y) ≤ (n * y + c) * q → n * p + l * c ≤ p * c → (l * q + t * p) * y ≤ (y + 1) * (p * q)
sum_above l p t q n c y some h k = le_of_mul-le-mul_right {k = c} (omega (arith, mul-le-mul_right p h, mul-le-mul_right (q * y) k)) some

-- and below 0
sum_below : (l p t q n c y r : ℕ) → 0 < c → t * (c * y) ≤ (n * y + c) * q → n * p ≤ (p + l) * c → r + l * q ≡ t * p → r * y ≤ (y + 1) * (p * q)
sum_below l p t q n c y r some h k e =
    le_of_mul-le-mul_right {k = c} (omega (arith, mul-le-mul_right p h, mul-le-mul_right (q * y) k, ap (λ (x : ℕ). x * (y * c)) e)) some

-- the sum of lo and a share of the span
sum_one : (lo t : Float) (n c : ℕ) → 0 < c → Within lo 1 → Reaches lo n c → Under t (n * 2 ^ 53 + c) (c * 2 ^ 53) → Within (lo +ᶠ t) 1
unfolding add sum
sum_one nan t n c some w h k = absurd w
sum_one (inf s) t n c some w h k = absurd w
sum_one (fin s m e) nan n c some w h k = absurd k
sum_one (fin s m e) (inf t) n c some w h k = absurd k
sum_one (fin s m e) (fin true a d) n c some w h k = absurd k
sum_one (fin false m e) (fin false a d) n c some w h k =
    about_one (m * up e * down d + a * up d * down e) (down e * down d) (mul-pos (down_pos e) (down_pos d))
    (sum_above (m * up e) (down e) (a * up d) (down d) n c (2 ^ 53) some k h)
sum_one (fin true m e) (fin false a d) n c some w h k =
    let l = m * up e * down d in
    let t = a * up d * down e in
    let b = down e * down d in
    ⊎_elim
    (λ (g : l < t).
    rw (lt-ltb l t g)
    (about_one (t - l) b (mul-pos (down_pos e) (down_pos d)) (sum_below (m * up e) (down e) (a * up d) (down d) n c (2 ^ 53) (t - l) some k h (omega arith))))
    (λ (g : t ≤ l). rw (le-ltb l t g) (round_within (ltb t l) (l - t) b 1 (mul-pos (down_pos e) (down_pos d)) (omega (arith, mul-le-mul_right (down d) w)) (omega arith)))
    (less_or_not l t)

-- ---- the span

-- what high - low is: a rounded fraction that reaches to 1 at most, or a zero
data Span (lo : Float) : Float → Type 0 where
  some_span : (n c : ℕ) → 0 < c → n ≤ 2 * c → Reaches lo n c → Span lo (round binary64 false n c)
  no_span : (x : Float) → Within x 0 → Span lo x

-- of two ends that are within 1
span_is : (lo hi : Float) → Within lo 1 → Within hi 1 → le lo hi ≡ true → Span lo (hi -ᶠ lo)
unfolding sub add neg sum le
span_is nan hi v w h = absurd v
span_is (inf s) hi v w h = absurd v
span_is (fin s m e) nan v w h = absurd w
span_is (fin s m e) (inf t) v w h = absurd w
span_is (fin true m e) (fin false n d) v w h =
    some_span (n * up d * down e + m * up e * down d) (down d * down e) (mul-pos (down_pos d) (down_pos e))
    (omega (arith, mul-le-mul_right (down d) v, mul-le-mul_right (down e) w)) (omega (arith, mul-le-mul_right (down e * down e) w))
span_is (fin false m e) (fin false n d) v w h =
    let l = m * up e * down d in
    let r = n * up d * down e in
    let b = down d * down e in
    let f : l ≤ r = le_fact false l false r h in
    let g : r - l + l ≡ r = omega arith in
    rw (le-ltb r l f)
    (some_span (r - l) b (mul-pos (down_pos d) (down_pos e)) (omega (arith, mul-le-mul_right (down e) w))
    (omega (arith, ap (λ (x : ℕ). x * down e) g, mul-le-mul_right (down e * down e) w)))
span_is (fin false m e) (fin true n d) v w h =
    let l = m * up e * down d in
    let r = n * up d * down e in
    no_span _ (round_within true (r + l) (down d * down e) 0 (mul-pos (down_pos d) (down_pos e)) (omega (arith, le_fact false l true r h)) (omega arith))
span_is (fin true m e) (fin true n d) v w h =
    let l = m * up e * down d in
    let r = n * up d * down e in
    let b = down d * down e in
    let f : r ≤ l = le_fact true l true r h in
    let pos : 0 < b = mul-pos (down_pos d) (down_pos e) in
    ⊎_elim
    (λ (g : r < l).
    let k : l - r ≤ l = omega arith in
    rw (lt-ltb r l g) (some_span (l - r) b pos (omega (arith, mul-le-mul_right (down d) v)) (omega (arith, mul-le-mul_right (down e) k))))
    (λ (g : l ≤ r). rw (le-ltb r l g) (no_span _ (round_within (ltb l r) (r - l) b 0 pos (omega arith) (omega arith))))
    (less_or_not r l)

-- ---- a draw

-- a float within 1 with a plus is from 0 to 1
plus_under : (x : Float) (g l : ℕ) → HasValue x false g l → Within x 1 → Under x 1 1
plus_under nan g l v w = w
plus_under (inf s) g l v w = w
plus_under (fin true m e) g l v w = true≢false v.0
plus_under (fin false m e) g l v w = omega arith

-- and the other way
under_within : (x : Float) → Under x 1 1 → Within x 1
under_within nan h = h
under_within (inf s) h = h
under_within (fin true m e) h = absurd h
under_within (fin false m e) h = omega arith

-- 2 ^ -53 of at most 2 ^ 53 is
unit_of_lem : (x : Float) (k : ℕ) → HasValue x false k 1 → k ≤ 2 ^ 53 → Under (x *ᶠ fin false 1 (negsuc 52)) 1 1
unfolding mul
unit_of_lem nan k v h = absurd v
unit_of_lem (inf s) k v h = absurd v
unit_of_lem (fin true m e) k v h = absurd (true≢false v.0)
unit_of_lem (fin false m e) k v h =
    let a = m * up e * (1 * 1) in
    let b = down e * 2 ^ 53 in
    let pos : 0 < b = mul-pos (down_pos e) (pow_pos 53) in
    let w : Within (round binary64 false a b) 1 = round_within false a b 1 pos (omega (arith, v.1, mul-le-mul_right (down e) h)) (omega arith) in
    plus_under (round binary64 false a b) (grid binary64 a b) (2 ^ low binary64) (rounded binary64 a b pos (inside_of (round binary64 false a b) 1 w)) w

-- and so is a draw as a number
unit_under : (u : ℕ) → u < 2 ^ 64 → Under (unit u) 1 1
unfolding unit of_int
unit_under u h = unit_of_lem (round binary64 false (u / 2 ^ 11) 1) (u / 2 ^ 11) (round_whole binary64 false (u / 2 ^ 11) (omega arith)) (omega arith)

-- a draw has 64 bits
mixed_small : (z : ℕ) → mixed z < 2 ^ 64
unfolding mixed
mixed_small z =
    let b = mixed_by 27 0x94D049BB133111EB (mixed_by 30 0xBF58476D1CE4E5B9 z) in
    let h : b < 2 ^ 64 = mod-lt _ (pow_pos 64) in
    xor_lt 64 b (b / 2 ^ 31) h (omega arith)

module _ (lo hi : Float) (v : Within lo 1) (w : Within hi 1) (rises : le lo hi ≡ true) where
  -- the gamma of a draw
  pub gamma_within : (u : ℕ) → u < 2 ^ 64 → Within (gamma lo hi u) 1
  unfolding gamma
  gamma_within u h = go (hi -ᶠ lo) (span_is lo hi v w rises)
    where
      go : (s : Float) → Span lo s → Within (lo +ᶠ s *ᶠ unit u) 1
      go _ (some_span n c some few r) =
          let s = round binary64 false n c in
          let q : Within s 2 = round_within false n c 2 some few (omega arith) in
          let p : Within (s *ᶠ unit u) 2 = mul_within s (unit u) 2 1 q (under_within (unit u) (unit_under u h)) (omega arith) in
          sum_one lo (s *ᶠ unit u) n c some v r (share_under binary64 s (unit u) n c some few (inside_of s 2 q) refl (unit_under u h) (inside_of (s *ᶠ unit u) 2 p))
      go s (no_span _ z) =
          add_within lo (s *ᶠ unit u) 1 0 v (mul_within s (unit u) 0 1 z (under_within (unit u) (unit_under u h)) (omega arith)) (omega arith)

  -- and so each that is drawn
  pub drawn_within : (start n v : ℕ) → v < n → Within (get_or (drawn lo hi start n).gammas v nan) 1
  unfolding drawn drawn_on
  drawn_within start n v h = let z = (drawn lo hi start (suc v)).state in rw (drawn_at lo hi start n v h) (gamma_within (mixed z) (mixed_small _))
