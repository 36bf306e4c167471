-- Laws of little-endian numbers: the first byte of one, one byte more at the end, and that a number within its bytes is read back. Assumes nothing.
use Rattle.std.proofs.Common.{◌≡◌, ℕ, zero, suc, ◌+◌, ◌-◌, ◌*◌, ◌^◌, ◌<◌, ◌≤◌, List, [], ◌∷◌, ◌++◌, length, get_or, take, drop, sym, refl, ◌∙◌, ⊎_elim, mul_assoc, mul_comm, pow-suc, mul-add, add-one, arith, length-append, length-drop, drop_of_length-le, length-take, get_or-drop, take_all, drop-cons, get_or-take, drop-drop}
use native.Mathlib.Nat.{pow-zero, pow-succ'}
use lib.ListN.{get_or-eq_default}
use lib.Seq.{take-nil, drop-append-le, take-append-le}
use Rattle.numbers.proofs.Cases.{less_or_not}
use Rattle.stream_grammar.specs.Stream.{AreBytes, number, number_at}

-- ---- from the front

-- past the end a number is 0
pub number_past : (n at : ℕ) (xs : List ℕ) → length xs ≤ at → number_at n at xs ≡ 0
unfolding number_at number
number_past n at xs h = rw (drop_of_length-le xs h, take-nil {A = ℕ} n)

-- the first byte, and the number in the others
number_first : (n at : ℕ) (xs : List ℕ) → number_at (suc n) at xs ≡ get_or xs at 0 + 256 * number_at n (at + 1) xs
unfolding number_at number
number_first n at xs =
    ⊎_elim
    (λ (h : at < length xs). rw (add-one, drop-cons xs at 0 h))
    (λ (h : length xs ≤ at). rw (drop_of_length-le xs h, get_or-eq_default xs 0 h, number_past n (at + 1) xs (omega arith)))
    (less_or_not at (length xs))

-- ---- one byte more at the end

-- the last byte of a number is worth 256 for each byte before it
number_last : (xs : List ℕ) (b : ℕ) → number (xs ++ (b ∷ [])) ≡ number xs + b * 256 ^ length xs
unfolding number
number_last [] b = rw (pow-zero 256) (omega arith)
number_last (x ∷ xs) b =
    let e : 256 * (b * 256 ^ length xs) ≡ b * (256 ^ length xs * 256) = mul_comm 256 (b * 256 ^ length xs) ∙ mul_assoc b (256 ^ length xs) 256 in
    rw (number_last xs b, pow-suc 256 (length xs)) (omega (arith, mul-add 256 (number xs) (b * 256 ^ length xs), e))

module _ (n at : ℕ) (xs : List ℕ) (b : ℕ) where
  -- before its bytes begin
  pub number_before : length xs < at → number_at n at (xs ++ (b ∷ [])) ≡ number_at n at xs
  number_before h =
      number_past n at (xs ++ (b ∷ [])) (omega (arith, length-append xs (b ∷ []))) ∙ sym (number_past n at xs (omega arith))

  -- within
  pub number_within : at ≤ length xs → length xs < at + n → number_at n at (xs ++ (b ∷ [])) ≡ number_at n at xs + b * 256 ^ (length xs - at)
  unfolding number_at
  number_within h k =
      let ys = drop at xs in
      let l : length ys ≡ length xs - at = length-drop at xs in
      rw (drop-append-le at xs (b ∷ []) h, take_all n (ys ++ (b ∷ [])) (omega (arith, l, length-append ys (b ∷ []))), take_all n ys (omega (arith, l)), ← l) (number_last ys b)

  -- once it is whole
  pub number_after : at + n ≤ length xs → number_at n at (xs ++ (b ∷ [])) ≡ number_at n at xs
  unfolding number_at
  number_after h =
      let ys = drop at xs in
      let l : length ys ≡ length xs - at = length-drop at xs in
      rw (drop-append-le at xs (b ∷ []) (omega arith), take-append-le n ys (b ∷ []) (omega (arith, l)))

-- no bytes are worth 0
number_none : (at : ℕ) (xs : List ℕ) → number_at 0 at xs ≡ 0
unfolding number_at number
number_none at xs = refl

-- four bytes, the first worth least
pub number_4 : (at : ℕ) (xs : List ℕ) (a b c d : ℕ) → a ≡ get_or xs at 0 → b ≡ get_or xs (at + 1) 0 → c ≡ get_or xs (at + 2) 0 → d ≡ get_or xs (at + 3) 0
    → a + 256 * (b + 256 * (c + 256 * d)) ≡ number_at 4 at xs
number_4 at xs a b c d p q r s =
    let e : at + 1 + 1 ≡ at + 2 = omega arith in
    let f : at + 2 + 1 ≡ at + 3 = omega arith in
    rw (number_first 3 at xs, number_first 2 (at + 1) xs, e, number_first 1 (at + 2) xs, f, number_first 0 (at + 3) xs, number_none (at + 3 + 1) xs, p, q, r, s) (omega arith)

-- eight bytes are four and four
pub number_8 : (at : ℕ) (xs : List ℕ) (a b : ℕ) → a ≡ number_at 4 at xs → b ≡ number_at 4 (at + 4) xs → a + 4294967296 * b ≡ number_at 8 at xs
number_8 at xs a b p q =
    let e : at + 1 + 1 ≡ at + 2 = omega arith in
    let f : at + 2 + 1 ≡ at + 3 = omega arith in
    let g : at + 3 + 1 ≡ at + 4 = omega arith in
    rw (p, q, number_first 7 at xs, number_first 6 (at + 1) xs, e, number_first 5 (at + 2) xs, f, number_first 4 (at + 3) xs, g)
    (omega (arith, number_4 at xs (get_or xs at 0) (get_or xs (at + 1) 0) (get_or xs (at + 2) 0) (get_or xs (at + 3) 0) refl refl refl refl))

-- a number further on
pub number_drop : (n at k : ℕ) (xs : List ℕ) → number_at n at (drop k xs) ≡ number_at n (k + at) xs
unfolding number_at
number_drop n at k xs = rw (drop-drop at k xs)

-- ---- bytes, and the bound of their number

-- bytes, and one more
pub bytes_more : (xs : List ℕ) (b : ℕ) → AreBytes xs → b < 256 → AreBytes (xs ++ (b ∷ []))
bytes_more [] b f h zero = h
bytes_more [] b f h (suc i) = omega arith
bytes_more (x ∷ xs) b f h zero = f zero
bytes_more (x ∷ xs) b f h (suc i) = bytes_more xs b (λ j. f (suc j)) h i

-- the bytes from a place on
pub bytes_drop : (n : ℕ) (xs : List ℕ) → AreBytes xs → AreBytes (drop n xs)
bytes_drop n xs f i = rw (get_or-drop n xs i 0) (f (n + i))

-- a number is below 256 for each of its bytes
pub number_bound : (n at : ℕ) (xs : List ℕ) → AreBytes xs → number_at n at xs < 256 ^ n
number_bound zero at xs f = rw (number_none at xs, pow-zero 256) (omega arith)
number_bound (suc n) at xs f = rw (number_first n at xs, pow-succ' 256 n) (omega (arith, f at, number_bound n (at + 1) xs f))

-- some bytes from the front
pub bytes_take : (n : ℕ) (xs : List ℕ) → AreBytes xs → AreBytes (take n xs)
bytes_take n xs f i =
    ⊎_elim
    (λ (h : i < n). rw (get_or-take n xs i 0 h) (f i))
    (λ (h : n ≤ i). rw (get_or-eq_default (take n xs) 0 {n = i} (omega (arith, length-take n xs))) (omega arith))
    (less_or_not i n)

-- bytes, and more bytes
pub bytes_append : (xs ys : List ℕ) → AreBytes xs → AreBytes ys → AreBytes (xs ++ ys)
bytes_append [] ys f g i = g i
bytes_append (x ∷ xs) ys f g zero = f zero
bytes_append (x ∷ xs) ys f g (suc i) = bytes_append xs ys (λ j. f (suc j)) g i
