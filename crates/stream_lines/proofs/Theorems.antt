-- What a reader of this crate may rely on: a decimal says its number, has no leading zero, and the reference's example is as it stands there. Assumes nothing.
use mathlib.Core.Path.{◌≡◌, refl, sym, ◌∙◌}
use mathlib.Core.Bool.{true}
use mathlib.Core.List.{List, [], ◌∷◌, foldl, foldl-append}
use mathlib.Core.Logic.{⊎_elim}
use Prim.Native.Nat.{ℕ, zero, suc, ◌+◌, ◌*◌, ◌-◌, ◌/◌, ◌%◌, ◌^◌, ◌<◌, ◌≤◌}
use native.Mathlib.Nat.{pow-zero, pow-succ'}
use native.Mathlib.Omega.{arith}
use lib.ListN.{length, get_or, length-append, get_or-append}
use borrow.Author.Tests.{lt-ltb, le-ltb}
use Rattle.numbers.proofs.Cases.{less_or_not}
use Rattle.numbers.specs.Loops.{over}
use Rattle.stream_lines.specs.Lines.{digits, decimal, flag, bit_digit, bits_after, shot_line, end_line}

-- the number that decimal digits say
abbrev said : List ℕ → ℕ
said ds = foldl (λ n d. 10 * n + (d - 48)) 0 ds

-- k digits say every number below 10 ^ k
digits_say : (k n : ℕ) → n < 10 ^ k → said (digits k n) ≡ n
unfolding digits
digits_say zero n h = omega (arith, pow-zero 10)
digits_say (suc k) n h =
    ⊎_elim
    (λ (l : n < 10). rw (lt-ltb n 10 l) (omega arith))
    (λ (l : 10 ≤ n).
    let q : n / 10 < 10 ^ k = omega (arith, pow-succ' 10 k) in
    rw (le-ltb n 10 l, foldl-append (λ m d. 10 * m + (d - 48)) 0 (digits k (n / 10)) ((48 + n % 10) ∷ []), digits_say k (n / 10) q) (omega arith))
    (less_or_not n 10)

-- a decimal says its number
pub decimal_says : (n : ℕ) → n < 2 ^ 64 → said (decimal n) ≡ n
unfolding decimal
decimal_says n h = digits_say 20 n (omega arith)

-- the first digit of a number from 1 on is no zero
first_digit : (k n : ℕ) → 1 ≤ n → n < 10 ^ k → (0 < length (digits k n)) × (48 < get_or (digits k n) 0 0)
unfolding digits
first_digit zero n p h = absurd (omega (arith, pow-zero 10))
first_digit (suc k) n p h =
    ⊎_elim
    (λ (l : n < 10). rw (lt-ltb n 10 l) (omega arith, omega arith))
    (λ (l : 10 ≤ n).
    let f = first_digit k (n / 10) (omega arith) (omega (arith, pow-succ' 10 k)) in
    rw (le-ltb n 10 l, get_or-append (digits k (n / 10)) ((48 + n % 10) ∷ []) 0 0 f.0) (omega (arith, length-append (digits k (n / 10)) ((48 + n % 10) ∷ []), f.0), f.1))
    (less_or_not n 10)

-- and has no leading zero
pub no_leading_zero : (n : ℕ) → 1 ≤ n → n < 2 ^ 64 → 48 < get_or (decimal n) 0 0
unfolding decimal
no_leading_zero n p h = (first_digit 20 n p (omega arith)).1

-- the example: `shot 0 1 2 1 100`, and `end 1`
pub example_shot : shot_line 0 true 2 1 (1 ∷ 0 ∷ 0 ∷ [])
    ≡ 115 ∷ 104 ∷ 111 ∷ 116 ∷ 32 ∷ 48 ∷ 32 ∷ 49 ∷ 32 ∷ 50 ∷ 32 ∷ 49 ∷ 32 ∷ 49 ∷ 48 ∷ 48 ∷ 10 ∷ []
unfolding shot_line decimal digits flag bits_after bit_digit
example_shot = refl

pub example_end : end_line 1 ≡ 101 ∷ 110 ∷ 100 ∷ 32 ∷ 49 ∷ 10 ∷ []
unfolding end_line decimal digits
example_end = refl

-- two results that the contract of a line w allows coincide: the answer and the array
pub line_once : (w old new new' : List ℕ) (r r' : ℕ) → (r ≡ length w) × (new ≡ over w old) → (r' ≡ length w) × (new' ≡ over w old) → (r ≡ r') × (new ≡ new')
line_once w old new new' r r' p q = (p.0 ∙ sym q.0, p.1 ∙ sym q.1)
