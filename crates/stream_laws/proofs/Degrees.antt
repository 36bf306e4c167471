-- The sum of degrees, one byte of the payload further: a byte of a degree adds its worth, and any other leaves the sum. And its bound, so that no sum wraps.
-- Assumes nothing.
use mathlib.Core.Path.{◌≡◌, refl, ap, ◌∙◌}
use mathlib.Core.List.{List, [], ◌∷◌, ◌++◌}
use mathlib.Core.Logic.{◌⊎◌, inl, inr, ⊎_elim}
use Prim.Native.Nat.{ℕ, zero, suc, ◌+◌, ◌*◌, ◌-◌, ◌^◌, ◌<◌, ◌≤◌}
use native.Mathlib.Nat.{suc-mul, mul-le-mul_right}
use native.Mathlib.Omega.{arith}
use lib.ListN.{length}
use Rattle.numbers.proofs.Cases.{last_or_before}
use Rattle.stream_grammar.specs.Stream.{AreBytes, degree, degrees}
use Rattle.stream_grammar.proofs.Bytes.{number_past, number_bound, number_before, number_within, number_after}

-- the place is no byte of the mechanism m's degree
abbrev Apart : ℕ → ℕ → Type 0
Apart place m = (place < 20 + 12 * m) ⊎ (24 + 12 * m ≤ place)

-- a byte elsewhere leaves a degree
degree_same : (p : List ℕ) (b m : ℕ) → Apart (length p) m → degree (p ++ (b ∷ [])) m ≡ degree p m
unfolding degree
degree_same p b m (inl h) = number_before 4 (20 + 12 * m) p b h
degree_same p b m (inr h) = number_after 4 (20 + 12 * m) p b (omega arith)

-- a byte that is no degree's leaves the sum
pub degrees_same : (n : ℕ) (p : List ℕ) (b : ℕ) → ((m : ℕ) → m < n → Apart (length p) m) → degrees n (p ++ (b ∷ [])) ≡ degrees n p
unfolding degrees
degrees_same zero p b f = refl
degrees_same (suc n) p b f = rw (degrees_same n p b (λ m h. f m (omega arith)), degree_same p b n (f n (omega arith)))

-- a degree's byte adds its worth
pub degrees_more : (n : ℕ) (p : List ℕ) (b m k : ℕ) → m < n → k < 4 → length p ≡ 20 + 12 * m + k → degrees n (p ++ (b ∷ [])) ≡ degrees n p + b * 256 ^ k
unfolding degrees degree
degrees_more zero p b m k h l e = absurd (omega arith)
degrees_more (suc n) p b m k h l e =
    ⊎_elim
    (λ (s : m ≡ n).
    let place : length p - (20 + 12 * n) ≡ k = omega arith in
    let own : degree (p ++ (b ∷ [])) n ≡ degree p n + b * 256 ^ k =
    number_within 4 (20 + 12 * n) p b (omega arith) (omega arith) ∙ ap (λ j. degree p n + b * 256 ^ j) place in
    let others : degrees n (p ++ (b ∷ [])) ≡ degrees n p = degrees_same n p b (λ i q. inr (omega arith)) in
    omega (arith, own, others))
    (λ (s : m < n).
    let own : degree (p ++ (b ∷ [])) n ≡ degree p n = degree_same p b n (inl (omega arith)) in
    omega (arith, own, degrees_more n p b m k s l e))
    (last_or_before m n h)

-- where no degree begins the sum is 0
pub degrees_none : (n : ℕ) (p : List ℕ) → length p ≤ 20 → degrees n p ≡ 0
unfolding degrees degree
degrees_none zero p h = refl
degrees_none (suc n) p h = rw (degrees_none n p h, number_past 4 (20 + 12 * n) p (omega arith))

-- each degree is below 2 ^ 32
degrees_bound : (n : ℕ) (p : List ℕ) → AreBytes p → degrees n p ≤ n * 4294967295
unfolding degrees degree
degrees_bound zero p f = omega arith
degrees_bound (suc n) p f = omega (arith, suc-mul n 4294967295, degrees_bound n p f, number_bound 4 (20 + 12 * n) p f)

-- so that the sum of fewer than 2 ^ 32 never wraps
pub degrees_small : (n : ℕ) (p : List ℕ) → AreBytes p → n < 4294967296 → degrees n p < 2 ^ 64
degrees_small n p f h = let l : n ≤ 4294967295 = omega arith in omega (arith, degrees_bound n p f, mul-le-mul_right 4294967295 l)

-- fewer mechanisms have no more detectors
pub degrees_rise : (n k : ℕ) (p : List ℕ) → degrees n p ≤ degrees (n + k) p
unfolding degrees
degrees_rise n zero p = let e : n + 0 ≡ n = omega arith in rw e (omega arith)
degrees_rise n (suc k) p = let e : n + suc k ≡ suc (n + k) = omega arith in rw e (omega (arith, degrees_rise n k p))
