-- How floats compare: of two, not each is below the other; a magnitude that is below a float is below every number that is not; and how "below" and "not above" go together. Assumes nothing.
use Rattle.std.proofs.Common.{◌≡◌, ℕ, ◌+◌, ◌*◌, ◌<◌, ◌≤◌, Bool, true, false, ◌||◌, eqb, ltb, ◌⊎◌, sym, refl, ap, ◌∙◌, inl, inr, ⊎_elim, true≢false, mul-le-mul_right, eq-zero-or-pos, lt_of_mul-lt-mul_right, mul-lt-mul_of_pos_right, mul-pos, mul_right_comm, arith, ltb-false, ltb-true, le-ltb, lt-ltb, eq-eqb, eqb-true}
use mathlib.Core.Bool.{false≢true}
use lib.Ieee.{Float, nan, inf, fin, up, down, below, level, lt, eq, le, is_nan}
use lib.Ieee.Fits.{down_pos}
use lib.Ieee.Positive.{first_pos}
use Rattle.numbers.specs.Floats.{abs, is_finite}
use Rattle.numbers.proofs.Cases.{less_or_not, and_both}

-- of two signed numbers, not each is below the other
below_one_way : (s : Bool) (a : ℕ) (t : Bool) (b : ℕ) → below s a t b ≡ true → below t b s a ≡ false
below_one_way false a false b h = le-ltb b a (omega (arith, ltb-true a b h))
below_one_way false a true b h = absurd (false≢true h)
below_one_way true a false b h = refl
below_one_way true a true b h = le-ltb a b (omega (arith, ltb-true b a h))

-- nor of two floats
pub lt_one_way : (x y : Float) → lt x y ≡ true → lt y x ≡ false
unfolding lt
lt_one_way nan y h = absurd (false≢true h)
lt_one_way (inf s) nan h = absurd (false≢true h)
lt_one_way (inf true) (inf true) h = refl
lt_one_way (inf true) (inf false) h = refl
lt_one_way (inf false) (inf t) h = absurd (false≢true h)
lt_one_way (inf true) (fin t n d) h = refl
lt_one_way (inf false) (fin t n d) h = absurd (false≢true h)
lt_one_way (fin s m e) nan h = absurd (false≢true h)
lt_one_way (fin s m e) (inf true) h = absurd (false≢true h)
lt_one_way (fin s m e) (inf false) h = refl
lt_one_way (fin s m e) (fin t n d) h = below_one_way s _ t _ h

-- what is below another is a number
pub lt_number : (x y : Float) → lt x y ≡ true → is_nan x ≡ false
unfolding lt is_nan
lt_number nan y h = absurd (false≢true h)
lt_number (inf s) y h = refl
lt_number (fin s m e) y h = refl

-- and so is the other
pub number_lt : (x y : Float) → lt x y ≡ true → is_nan y ≡ false
unfolding lt is_nan
number_lt nan y h = absurd (false≢true h)
number_lt (inf s) nan h = absurd (false≢true h)
number_lt (inf s) (inf t) h = refl
number_lt (inf s) (fin t n d) h = refl
number_lt (fin s m e) nan h = absurd (false≢true h)
number_lt (fin s m e) (inf t) h = refl
number_lt (fin s m e) (fin t n d) h = refl

-- a / p < c / r and c / r <= b / q give a / p < b / q
fractions : (a b c p q r : ℕ) → 0 < q → a * r < c * p → c * q ≤ b * r → a * q < b * p
fractions a b c p q r hq h k =
    let x : a * r * q < c * p * q = mul-lt-mul_of_pos_right h hq in
    let y : c * q * p ≤ b * r * p = mul-le-mul_right p k in
    lt_of_mul-lt-mul_right r (omega (arith, x, y, mul_right_comm a r q, mul_right_comm c p q, mul_right_comm b r p))

-- a magnitude that is below z is below each magnitude that is not, if that is a number
pub below_what_is_not : (x y z : Float) → lt (abs x) z ≡ true → lt (abs y) z ≡ false → is_nan y ≡ false → lt (abs x) (abs y) ≡ true
unfolding lt is_nan abs
below_what_is_not nan y z h k n = absurd (false≢true h)
below_what_is_not (inf s) y nan h k n = absurd (false≢true h)
below_what_is_not (inf s) y (inf t) h k n = absurd (false≢true h)
below_what_is_not (inf s) y (fin t c r) h k n = absurd (false≢true h)
below_what_is_not (fin s a p) nan z h k n = absurd (true≢false n)
below_what_is_not (fin s a p) (inf t) z h k n = refl
below_what_is_not (fin s a p) (fin t b q) nan h k n = absurd (false≢true h)
below_what_is_not (fin s a p) (fin t b q) (inf u) h k n = absurd (false≢true (sym k ∙ h))
below_what_is_not (fin s a p) (fin t b q) (fin true c r) h k n = absurd (false≢true h)
below_what_is_not (fin s a p) (fin t b q) (fin false c r) h k n =
    lt-ltb _ _ (fractions (a * up p) (b * up q) (c * up r) (down p) (down q) (down r) (down_pos q) (ltb-true _ _ h) (ltb-false _ _ k))

-- what is below another is not above it
pub lt_le : (x y : Float) → lt x y ≡ true → le x y ≡ true
unfolding le
lt_le x y h = rw h

-- a finite float is a number
pub finite_number : (x : Float) → is_finite x ≡ true → is_nan x ≡ false
unfolding is_finite is_nan
finite_number nan h = absurd (false≢true h)
finite_number (inf s) h = absurd (false≢true h)
finite_number (fin s m e) h = refl

-- ---- "not above", as a fact

-- ±a <= ±b
abbrev pub NotAbove : Bool → ℕ → Bool → ℕ → Type 0
NotAbove false a false b = a ≤ b
NotAbove false a true b = a + b ≤ 0
NotAbove true a false b = 0 ≤ a + b
NotAbove true a true b = b ≤ a

-- one of two tests holds
one_holds : (p q : Bool) → (p || q) ≡ true → (p ≡ true) ⊎ (q ≡ true)
one_holds true q h = inl refl
one_holds false q h = inr h

-- the second of two tests is enough
second_holds : (p q : Bool) → q ≡ true → (p || q) ≡ true
second_holds true q h = refl
second_holds false q h = h

-- the fact from the test
pub le_fact : (s : Bool) (a : ℕ) (t : Bool) (b : ℕ) → (below s a t b || level s a t b) ≡ true → NotAbove s a t b
le_fact false a false b h =
    ⊎_elim (λ (l : ltb a b ≡ true). omega (arith, ltb-true a b l)) (λ (l : level false a false b ≡ true). omega (arith, eqb-true a b (and_both _ _ l).0)) (one_holds _ _ h)
le_fact false a true b h = let both = and_both (eqb a b) (eqb a 0) h in omega (arith, eqb-true a b both.0, eqb-true a 0 both.1)
le_fact true a false b h = omega arith
le_fact true a true b h =
    ⊎_elim (λ (l : ltb b a ≡ true). omega (arith, ltb-true b a l)) (λ (l : level true a true b ≡ true). omega (arith, eqb-true a b (and_both _ _ l).0)) (one_holds _ _ h)

-- and the test from the fact
fact_le : (s : Bool) (a : ℕ) (t : Bool) (b : ℕ) → NotAbove s a t b → (below s a t b || level s a t b) ≡ true
fact_le false a false b h =
    ⊎_elim (λ (l : a < b). rw (lt-ltb a b l)) (λ (l : b ≤ a). second_holds (ltb a b) _ (rw (eq-eqb a b (omega arith)))) (less_or_not a b)
fact_le false a true b h = rw (eq-eqb a b (omega arith), eq-eqb a 0 (omega arith))
fact_le true a false b h =
    ⊎_elim
    (λ (l : 0 < a + b). rw (lt-ltb 0 (a + b) l))
    (λ (l : a + b ≤ 0). second_holds (ltb 0 (a + b)) _ (rw (eq-eqb a b (omega arith), eq-eqb a 0 (omega arith))))
    (less_or_not 0 (a + b))
fact_le true a true b h =
    ⊎_elim (λ (l : b < a). rw (lt-ltb b a l)) (λ (l : a ≤ b). second_holds (ltb b a) _ (rw (eq-eqb a b (omega arith)))) (less_or_not b a)

-- a signed number is not above itself
fact_itself : (s : Bool) (a : ℕ) → NotAbove s a s a
fact_itself false a = omega arith
fact_itself true a = omega arith

-- where one is not below the other, the other is not above it
fact_other : (s : Bool) (a : ℕ) (t : Bool) (b : ℕ) → below s a t b ≡ false → NotAbove t b s a
fact_other false a false b h = ltb-false a b h
fact_other false a true b h = omega arith
fact_other true a false b h = omega (arith, ltb-false 0 (a + b) h)
fact_other true a true b h = ltb-false b a h

-- a number is not above itself
pub le_itself : (x : Float) → is_nan x ≡ false → le x x ≡ true
unfolding le is_nan
le_itself nan n = absurd (true≢false n)
le_itself (inf true) n = refl
le_itself (inf false) n = refl
le_itself (fin s m e) n = fact_le s _ s _ (fact_itself s (m * up e * down e))

-- of two numbers, where one is not below the other, the other is not above it
pub not_below : (x y : Float) → is_nan x ≡ false → is_nan y ≡ false → lt x y ≡ false → le y x ≡ true
unfolding lt le is_nan
not_below nan y p q h = absurd (true≢false p)
not_below (inf s) nan p q h = absurd (true≢false q)
not_below (inf true) (inf true) p q h = refl
not_below (inf true) (inf false) p q h = absurd (true≢false h)
not_below (inf false) (inf true) p q h = refl
not_below (inf false) (inf false) p q h = refl
not_below (inf true) (fin t n d) p q h = absurd (true≢false h)
not_below (inf false) (fin t n d) p q h = refl
not_below (fin s m e) nan p q h = absurd (true≢false q)
not_below (fin s m e) (inf true) p q h = refl
not_below (fin s m e) (inf false) p q h = absurd (true≢false h)
not_below (fin s m e) (fin t n d) p q h = fact_le t _ s _ (fact_other s _ t _ h)

-- ---- below what is not above

-- a / p <= c / r and c / r < b / q give a / p < b / q
fractions_after : (a b c p q r : ℕ) → 0 < p → a * r ≤ c * p → c * q < b * r → a * q < b * p
fractions_after a b c p q r hp h k =
    let x : a * r * q ≤ c * p * q = mul-le-mul_right q h in
    let y : c * q * p < b * r * p = mul-lt-mul_of_pos_right k hp in
    lt_of_mul-lt-mul_right r (omega (arith, x, y, mul_right_comm a r q, mul_right_comm c p q, mul_right_comm b r p))

-- -a / p < b / q <= c / r: one of a and c is above 0
some_above : (a b c p q r : ℕ) → 0 < p → 0 < r → 0 < a * q + b * p → b * r ≤ c * q → 0 < a * r + c * p
some_above a b c p q r hp hr h k =
    ⊎_elim
    (λ (z : a ≡ 0).
    let u : 0 < b * p = omega (arith, ap (λ x. x * q) z) in
    let v : 0 < b * r = mul-pos (first_pos b p u) hr in
    omega (arith, mul-pos (first_pos c q (omega arith)) hp))
    (λ (z : 0 < a). omega (arith, mul-pos z hr))
    (eq-zero-or-pos a)

-- a product that is 0, of which the second number is not
first_zero : (a q : ℕ) → 0 < q → a * q ≤ 0 → a ≡ 0
first_zero a q hq h = ⊎_elim (λ (z : a ≡ 0). z) (λ (z : 0 < a). absurd (omega (arith, mul-pos z hq))) (eq-zero-or-pos a)

-- -a / p < b / q, where b and c are 0: a is not
only_first : (a b c p q r : ℕ) → 0 < q → 0 < r → 0 < a * q + b * p → b * r + c * q ≤ 0 → c * p < a * r
only_first a b c p q r hq hr h k =
    let u : b * p ≡ 0 * p = ap (λ x. x * p) (first_zero b r hr (omega arith)) in
    let v : c * p ≡ 0 * p = ap (λ x. x * p) (first_zero c q hq (omega arith)) in
    omega (arith, mul-pos (first_pos a q (omega arith)) hr)

-- ±a / p below ±b / q, which is not above ±c / r
below_then : (s t u : Bool) (a b c p q r : ℕ) → 0 < p → 0 < q → 0 < r → below s (a * q) t (b * p) ≡ true → NotAbove t (b * r) u (c * q) → below s (a * r) u (c * p) ≡ true
below_then false false false a b c p q r hp hq hr h k = lt-ltb _ _ (fractions a c b p r q hr (ltb-true _ _ h) k)
below_then false false true a b c p q r hp hq hr h k =
    absurd (omega (arith, mul-pos (first_pos b p (omega (arith, ltb-true (a * q) (b * p) h))) hr))
below_then false true u a b c p q r hp hq hr h k = absurd (false≢true h)
below_then true false false a b c p q r hp hq hr h k = lt-ltb _ _ (some_above a b c p q r hp hr (ltb-true _ _ h) k)
below_then true false true a b c p q r hp hq hr h k = lt-ltb (c * p) (a * r) (only_first a b c p q r hq hr (ltb-true _ _ h) k)
below_then true true false a b c p q r hp hq hr h k =
    lt-ltb 0 (a * r + c * p) (omega (arith, mul-pos (first_pos a q (omega (arith, ltb-true (b * p) (a * q) h))) hr))
below_then true true true a b c p q r hp hq hr h k = lt-ltb _ _ (fractions_after c a b r p q hr k (ltb-true _ _ h))

-- below what is not above z is below z
pub below_along : (x y z : Float) → lt x y ≡ true → le y z ≡ true → lt x z ≡ true
unfolding lt le
below_along nan y z h k = absurd (false≢true h)
below_along (inf s) nan z h k = absurd (false≢true h)
below_along (inf true) (inf true) z h k = absurd (false≢true h)
below_along (inf true) (inf false) nan h k = absurd (false≢true k)
below_along (inf true) (inf false) (inf true) h k = absurd (false≢true k)
below_along (inf true) (inf false) (inf false) h k = refl
below_along (inf true) (inf false) (fin u c r) h k = refl
below_along (inf false) (inf t) z h k = absurd (false≢true h)
below_along (inf true) (fin t n d) nan h k = absurd (false≢true k)
below_along (inf true) (fin t n d) (inf true) h k = absurd (false≢true k)
below_along (inf true) (fin t n d) (inf false) h k = refl
below_along (inf true) (fin t n d) (fin u c r) h k = refl
below_along (inf false) (fin t n d) z h k = absurd (false≢true h)
below_along (fin s m e) nan z h k = absurd (false≢true h)
below_along (fin s m e) (inf true) z h k = absurd (false≢true h)
below_along (fin s m e) (inf false) nan h k = absurd (false≢true k)
below_along (fin s m e) (inf false) (inf true) h k = absurd (false≢true k)
below_along (fin s m e) (inf false) (inf false) h k = refl
below_along (fin s m e) (inf false) (fin u c r) h k = absurd (false≢true k)
below_along (fin s m e) (fin t n d) nan h k = absurd (false≢true k)
below_along (fin s m e) (fin t n d) (inf true) h k = absurd (false≢true k)
below_along (fin s m e) (fin t n d) (inf false) h k = refl
below_along (fin s m e) (fin t n d) (fin u c r) h k =
    below_then s t u (m * up e) (n * up d) (c * up r) (down e) (down d) (down r) (down_pos e) (down_pos d) (down_pos r) h (le_fact t _ u _ k)

-- nor is one that equals another above it
pub eq_le : (x y : Float) → eq x y ≡ true → le x y ≡ true
unfolding le
eq_le x y h = second_holds (lt x y) (eq x y) h

-- of what is below another, the other is not at most it
pub lt_not_le : (x y : Float) → lt x y ≡ true → le y x ≡ true → ⊥
lt_not_le x y h k = let c = below_along x y x h k in true≢false (sym c ∙ lt_one_way x x c)
