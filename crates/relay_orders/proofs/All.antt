-- Facts about all elements of a list of numbers, and about tests of them. Assumes nothing.
use Prim.Native.Nat.{ℕ, zero, suc, ◌<◌, suc-le-suc}
use mathlib.Core.Path.{◌≡◌, refl}
use mathlib.Core.Bool.{Bool, true, false, ◌||◌, true≢false}
use mathlib.Core.List.{List, [], ◌∷◌, ◌++◌}
use native.Mathlib.Nat.{zero-lt-suc, not-suc-le-zero, le_of_suc-le-suc}
use lib.ListN.{length, get_or}
use Rattle.relay_orders.specs.Order.{any_of}

-- P of each element
pub data All (P : ℕ → Type 0) : List ℕ → Type 0 where
  nil : All P []
  cons : {x : ℕ} {xs : List ℕ} → P x → All P xs → All P (x ∷ xs)

-- the first
pub all_head : {P : ℕ → Type 0} {x : ℕ} {xs : List ℕ} → All P (x ∷ xs) → P x
all_head (cons h t) = h

-- and the rest
pub all_tail : {P : ℕ → Type 0} {x : ℕ} {xs : List ℕ} → All P (x ∷ xs) → All P xs
all_tail (cons h t) = t

-- from one fact to another
pub all_map : {P Q : ℕ → Type 0} {xs : List ℕ} (f : (x : ℕ) → P x → Q x) → All P xs → All Q xs
all_map f nil = nil
all_map f (cons {x = x} h t) = cons (f x h) (all_map f t)

-- from two facts to a third
pub all_zip : {P Q R : ℕ → Type 0} {xs : List ℕ} (f : (x : ℕ) → P x → Q x → R x) → All P xs → All Q xs → All R xs
all_zip f nil nil = nil
all_zip f (cons {x = x} h t) (cons k u) = cons (f x h k) (all_zip f t u)

-- what holds of everything
pub all_always : {P : ℕ → Type 0} (f : (x : ℕ) → P x) (xs : List ℕ) → All P xs
all_always f [] = nil
all_always f (x ∷ xs) = cons (f x) (all_always f xs)

-- of the front of a list
pub all_left : {P : ℕ → Type 0} (xs ys : List ℕ) → All P (xs ++ ys) → All P xs
all_left [] ys t = nil
all_left (x ∷ xs) ys (cons h t) = cons h (all_left xs ys t)

-- and of its back
pub all_right : {P : ℕ → Type 0} (xs ys : List ℕ) → All P (xs ++ ys) → All P ys
all_right [] ys t = t
all_right (x ∷ xs) ys (cons h t) = all_right xs ys t

-- of both together
pub all_append : {P : ℕ → Type 0} {xs ys : List ℕ} → All P xs → All P ys → All P (xs ++ ys)
all_append nil u = u
all_append (cons h t) u = cons h (all_append t u)

-- one less within
pub all_without : {P : ℕ → Type 0} (xs : List ℕ) (y : ℕ) (ys : List ℕ) → All P (xs ++ (y ∷ ys)) → All P (xs ++ ys)
all_without [] y ys (cons h t) = t
all_without (x ∷ xs) y ys (cons h t) = cons h (all_without xs y ys t)

-- from every place
pub all_places : {P : ℕ → Type 0} (xs : List ℕ) → ((i : ℕ) → i < length xs → P (get_or xs i 0)) → All P xs
all_places [] h = nil
all_places (x ∷ xs) h = cons (h 0 (zero-lt-suc _)) (all_places xs (λ i l. h (suc i) (suc-le-suc l)))

-- and back
pub all_at : {P : ℕ → Type 0} {xs : List ℕ} → All P xs → (i : ℕ) → i < length xs → P (get_or xs i 0)
all_at nil i h = absurd (not-suc-le-zero h)
all_at (cons h t) zero l = h
all_at (cons h t) (suc i) l = all_at t i (le_of_suc-le-suc l)

-- ---- tests

-- where neither of two holds, the first does not
pub or_left : (a b : Bool) → (a || b) ≡ false → a ≡ false
or_left true b h = h
or_left false b h = refl

-- nor does the second
pub or_right : (a b : Bool) → (a || b) ≡ false → b ≡ false
or_right true b h = absurd (true≢false h)
or_right false b h = h

-- a test that is not true is false
pub not_so : (b : Bool) → (b ≡ true → ⊥) → b ≡ false
not_so true h = absurd (h refl)
not_so false h = refl

-- nothing passes
pub any_none : (p : ℕ → Bool) (xs : List ℕ) → any_of p xs ≡ false → All (λ x. p x ≡ false) xs
any_none p [] h = nil
any_none p (x ∷ xs) h = cons (or_left (p x) (any_of p xs) h) (any_none p xs (or_right (p x) (any_of p xs) h))
