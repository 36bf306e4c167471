-- Laws of `count`, sums that go by it, and that the test `names_once` says what the record `NamesOnce` says. Assumes nothing.
use Prim.Native.Nat.{ℕ, zero, suc, ◌+◌, ◌*◌, ◌<◌, ◌≤◌}
use mathlib.Core.Path.{◌≡◌, refl, sym, ◌∙◌, ap}
use mathlib.Core.Bool.{Bool, true, false, ◌&&◌, cond}
use mathlib.Core.List.{List, [], ◌∷◌, ◌++◌}
use mathlib.Core.Logic.{◌↔◌}
use native.Mathlib.Omega.{arith}
use native.Mathlib.Decide.{ℕ_discrete, dec_lt}
use lib.Dec.{eqb}
use lib.ListN.{length}
use borrow.Author.Tests.{eqb-true, eq-eqb, ne_eqb}
use Rattle.relay_orders.specs.Order.{count, once, NamesOnce, names_once}
use Rattle.relay_orders.proofs.All.{All, nil, cons}
use Rattle.numbers.specs.Loops.{turns, every}
use Rattle.numbers.proofs.Cases.{and_both}
use Rattle.numbers.proofs.Loops.{every_at, every_true}

-- of the first name
pub count_same : (x : ℕ) (xs : List ℕ) → count x (x ∷ xs) ≡ suc (count x xs)
unfolding count
count_same x xs = rw (eq-eqb x x refl)

-- and of another
pub count_other : (k x : ℕ) (xs : List ℕ) → (x ≡ k → ⊥) → count k (x ∷ xs) ≡ count k xs
unfolding count
count_other k x xs h = rw (ne_eqb x k h)

-- as `cond` has it, and what follows for any x
tail_le : (b : Bool) (n : ℕ) → n ≤ cond b (suc n) n
tail_le true n = omega arith
tail_le false n = omega arith

-- a list counts at least what its tail does
count_tail : (k x : ℕ) (xs : List ℕ) → count k xs ≤ count k (x ∷ xs)
unfolding count
count_tail k x xs = tail_le (eqb x k) (count k xs)

-- two names count alike in either order
two : (b c : Bool) (x : ℕ) → cond b (suc (cond c (suc x) x)) (cond c (suc x) x) ≡ cond c (suc (cond b (suc x) x)) (cond b (suc x) x)
two true true x = refl
two true false x = refl
two false true x = refl
two false false x = refl

-- one name more, anywhere
pub count_insert : (k n : ℕ) (pre post : List ℕ) → count k (pre ++ (n ∷ post)) ≡ count k (n ∷ (pre ++ post))
unfolding count
count_insert k n [] post = refl
count_insert k n (p ∷ pre) post = rw (count_insert k n pre post) (two (eqb p k) (eqb n k) (count k (pre ++ post)))

-- the first place where k stands
pub record Found (k : ℕ) (xs : List ℕ) : Type 0 where
  pub pre : List ℕ
  pub post : List ℕ
  pub is : xs ≡ pre ++ (k ∷ post)

-- it is the first, or stands in the rest
found_first : (k x : ℕ) (xs : List ℕ) (m : ℕ) (b : Bool) → eqb x k ≡ b → cond b (suc (count k xs)) (count k xs) ≡ suc m → (count k xs ≡ suc m → Found k xs) → Found k (x ∷ xs)
found_first k x xs m true e h rec = record { pre = []; post = xs; is = ap (λ y. y ∷ xs) (eqb-true x k e) }
found_first k x xs m false e h rec = let f = rec h in record { pre = x ∷ f.pre; post = f.post; is = ap (λ ys. x ∷ ys) f.is }

-- a name that is counted stands somewhere
pub found : (k : ℕ) (xs : List ℕ) (m : ℕ) → count k xs ≡ suc m → Found k xs
unfolding count
found k [] m h = absurd (omega arith)
found k (x ∷ xs) m h = found_first k x xs m (eqb x k) refl h (λ e. found k xs m e)

-- ---- sums

-- w 0 + w 1 + .. + w (n - 1)
abbrev pub sum_below : ℕ → (ℕ → ℕ) → ℕ
sum_below n w = turns n (λ k sum. sum + w k) 0

-- w of each of a list
abbrev pub sum_over : (ℕ → ℕ) → List ℕ → ℕ
sum_over w [] = 0
sum_over w (x ∷ xs) = w x + sum_over w xs

-- of the names below n, each as often as it stands there
abbrev pub sum_to : (ℕ → ℕ) → ℕ → List ℕ → ℕ
sum_to w n xs = sum_below n (λ k. count k xs * w k)

module _ (w : ℕ → ℕ) where
  -- a name from n on adds nothing
  sum_out : (n x : ℕ) (xs : List ℕ) → n ≤ x → sum_to w n (x ∷ xs) ≡ sum_to w n xs
  sum_out zero x xs h = refl
  sum_out (suc n) x xs h = rw (sum_out n x xs (omega arith), count_other n x xs (λ e. omega arith))

  -- a name below n adds its own
  sum_in : (n x : ℕ) (xs : List ℕ) → x < n → sum_to w n (x ∷ xs) ≡ w x + sum_to w n xs
  sum_in zero x xs h = absurd (omega arith)
  sum_in (suc n) x xs h = go (ℕ_discrete x n) (λ l. sum_in n x xs l)
    where
      go : Dec (x ≡ n) → (x < n → sum_to w n (x ∷ xs) ≡ w x + sum_to w n xs) → sum_to w n (x ∷ xs) + count n (x ∷ xs) * w n ≡ w x + (sum_to w n xs + count n xs * w n)
      go (yes e) rec = rw (sum_out n x xs (omega arith), e, count_same) (omega arith)
      go (no e) rec = rw (rec (omega arith), count_other n x xs e) (omega arith)

  -- of no names
  sum_nil : (n : ℕ) → sum_to w n [] ≡ 0
  unfolding count
  sum_nil zero = refl
  sum_nil (suc n) = rw (sum_nil n) (omega arith)

  -- where all names are below n, the sum is that over the list
  pub sum_over_lem : (n : ℕ) {xs : List ℕ} → All (λ k. k < n) xs → sum_to w n xs ≡ sum_over w xs
  sum_over_lem n nil = sum_nil n
  sum_over_lem n (cons {x = x} {xs = xs} h t) = sum_in n x xs h ∙ ap (λ k. w x + k) (sum_over_lem n t)

  -- each once: the sum is that of all below n
  pub sum_once : (n : ℕ) (xs : List ℕ) → ((k : ℕ) → k < n → count k xs ≡ 1) → sum_to w n xs ≡ sum_below n w
  sum_once zero xs h = refl
  sum_once (suc n) xs h = rw (sum_once n xs (λ k l. h k (omega arith)), h n (omega arith)) (omega arith)

-- ---- the sum of the counts: each name weighs 1

-- that weight
abbrev one : ℕ → ℕ
one k = 1

-- over a list it is its length
pub over_one : (xs : List ℕ) → sum_over one xs ≡ length xs
over_one [] = refl
over_one (x ∷ xs) = omega (arith, over_one xs)

-- below n it is n
below_one : (n : ℕ) → sum_below n one ≡ n
below_one zero = refl
below_one (suc n) = omega (arith, below_one n)

-- where all names are below n, the sum is the number of names
pub sum_length : (n : ℕ) {xs : List ℕ} → All (λ k. k < n) xs → sum_to one n xs ≡ length xs
sum_length n {xs} h = sum_over_lem one n h ∙ over_one xs

-- a name from n on takes a place that none below n has
pub sum_beyond : (n k : ℕ) (xs : List ℕ) → n ≤ k → sum_to one n xs + count k xs ≤ length xs
unfolding count
sum_beyond n k [] h = omega (arith, sum_nil one n)
sum_beyond n k (x ∷ xs) h = go (dec_lt x n) (sum_beyond n k xs h)
  where
    le : (b : Bool) (m : ℕ) → cond b (suc m) m ≤ suc m
    le true m = omega arith
    le false m = omega arith

    go : Dec (x < n) → sum_to one n xs + count k xs ≤ length xs → sum_to one n (x ∷ xs) + count k (x ∷ xs) ≤ suc (length xs)
    go (yes l) rec = omega (arith, sum_in one n x xs l, count_other k x xs (λ e. omega arith))
    go (no l) rec = omega (arith, sum_out one n x xs (omega arith), le (eqb x k) (count k xs))

-- each once: the sum is n
pub sum_ones : (n : ℕ) (xs : List ℕ) → ((k : ℕ) → k < n → count k xs ≡ 1) → sum_to one n xs ≡ n
sum_ones n xs h = sum_once one n xs h ∙ below_one n

-- none twice: the sum is at most n
sum_le : (n : ℕ) (xs : List ℕ) → ((k : ℕ) → k < n → count k xs ≤ 1) → sum_to one n xs ≤ n
sum_le zero xs h = omega arith
sum_le (suc n) xs h = omega (arith, sum_le n xs (λ k l. h k (omega arith)), h n (omega arith))

-- none twice, and n of them: each once
pub ones : (n : ℕ) (xs : List ℕ) → ((k : ℕ) → k < n → count k xs ≤ 1) → sum_to one n xs ≡ n → (k : ℕ) → k < n → count k xs ≡ 1
ones zero xs h e k l = absurd (omega arith)
ones (suc n) xs h e k l =
    let s = sum_le n xs (λ j m. h j (omega arith)) in
    go (ℕ_discrete k n) (ones n xs (λ j m. h j (omega arith)) (omega (arith, h n (omega arith))))
  where
    go : Dec (k ≡ n) → ((j : ℕ) → j < n → count j xs ≡ 1) → count k xs ≡ 1
    go (yes q) rec = rw q (omega (arith, sum_le n xs (λ j m. h j (omega arith)), h n (omega arith)))
    go (no q) rec = rec k (omega arith)

-- ---- the test and the record

-- what is counted only below n is below n
pub all_below : (n : ℕ) (xs : List ℕ) → ((k : ℕ) → n ≤ k → count k xs ≡ 0) → All (λ k. k < n) xs
all_below n [] h = nil
all_below n (x ∷ xs) h = cons (go (dec_lt x n)) (all_below n xs (λ k l. omega (arith, h k l, count_tail k x xs)))
  where
    go : Dec (x < n) → x < n
    go (yes l) = l
    go (no l) = absurd (omega (arith, h x (omega arith), count_same x xs))

-- each name is a check
pub names_below : {n : ℕ} {xs : List ℕ} → NamesOnce n xs → All (λ k. k < n) xs
names_below {n} {xs} h = all_below n xs h.none_else

-- as many names as there are checks
names_length : {n : ℕ} {xs : List ℕ} → NamesOnce n xs → length xs ≡ n
names_length {n} {xs} h = sym (sum_length n (names_below h)) ∙ sum_ones n xs h.once_each

-- the test is passed just where each check is named once, and nothing else is
pub names_once_is : (n : ℕ) (xs : List ℕ) → (names_once n xs ≡ true) ↔ NamesOnce n xs
unfolding names_once once
names_once_is n xs = (there, λ h. rw (names_length h, eq-eqb n n refl) (every_true n (once xs) (λ k l. eq-eqb (count k xs) 1 (h.once_each k l))))
  where
    there : (eqb (length xs) n && every n (once xs)) ≡ true → NamesOnce n xs
    there h =
        let w = and_both (eqb (length xs) n) (every n (once xs)) h in
        let l = eqb-true (length xs) n w.0 in
        let o : (k : ℕ) → k < n → count k xs ≡ 1 = λ k m. eqb-true (count k xs) 1 (every_at n (once xs) w.1 k m) in
        record { once_each = o; none_else = λ k m. omega (arith, sum_beyond n k xs m, sum_ones n xs o) }
