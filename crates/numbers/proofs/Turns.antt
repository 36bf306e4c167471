-- One turn of a loop, as the code has it: a fold, a loop that counts, and a list whose first elements are written: by a table, out of another list, by one
-- value. Assumes nothing.
use Rattle.std.proofs.Common.{◌≡◌, ℕ, zero, suc, ◌+◌, ◌<◌, ◌≤◌, List, [], ◌∷◌, ◌++◌, map, length, get_or, take, set, replicate, sym, refl, ap, ◌∙◌, add-one, arith, take_all, take-suc, take-suc-set}
use mathlib.Core.List.{map-append, foldl}
use Rattle.numbers.specs.Loops.{turns, table}
use Rattle.numbers.proofs.Loops.{foldl_take}

-- ---- a state

-- `for x in xs`, one element further
pub fold_turn {ℓ κ} : {A : Type ℓ} {S : Type κ} (f : S → A → S) (s t u : S) (xs : List A) (i : ℕ) (x d : A) → i < length xs → x ≡ get_or xs i d
    → t ≡ foldl f s (take i xs) → u ≡ f t x → u ≡ foldl f s (take (i + 1) xs)
fold_turn f s t u xs i x d h e p q = rw (q, e, p, add-one) (sym (foldl_take f s xs i d h))

-- and all of them
pub fold_done {ℓ κ} : {A : Type ℓ} {S : Type κ} (f : S → A → S) (s t : S) (xs : List A) (i : ℕ) → length xs ≤ i → t ≡ foldl f s (take i xs) → t ≡ foldl f s xs
fold_done f s t xs i h p = rw (take_all i xs h) at p

-- `for i in 0..n`, one further
pub turns_turn {ℓ} : {S : Type ℓ} (f : ℕ → S → S) (s t u : S) (i : ℕ) → t ≡ turns i f s → u ≡ f i t → u ≡ turns (i + 1) f s
turns_turn f s t u i p q = rw (q, p, add-one)

-- ---- a list

module _ {ℓ} {A : Type ℓ} where
  -- a table, one element further
  pub table_turn : (f : ℕ → A) (out : List A) (i : ℕ) (x : A) → i < length out → take i out ≡ table i f → x ≡ f i → take (i + 1) (set out i x) ≡ table (i + 1) f
  table_turn f out i x h p q = rw (add-one, take-suc-set, h, p, q)

  -- and all of it
  pub table_done : (f : ℕ → A) (out : List A) (i n : ℕ) → length out ≡ n → n ≤ i → i ≤ n → take i out ≡ table i f → out ≡ table n f
  table_done f out i n l h k p = let e : i ≡ n = omega arith in sym (take_all i out (omega arith)) ∙ p ∙ ap (λ m. table m f) e

  -- a copy, one element further
  pub copy_turn : (from to : List A) (i : ℕ) (d : A) → i < length from → i < length to → take i to ≡ take i from
      → take (i + 1) (set to i (get_or from i d)) ≡ take (i + 1) from
  copy_turn from to i d h k p = rw (add-one, take-suc-set, k, p) (sym (take-suc from i d h))

  -- one more of the same at the end
  replicate_last : (n : ℕ) (a : A) → replicate n a ++ (a ∷ []) ≡ replicate (suc n) a
  replicate_last zero a = refl
  replicate_last (suc n) a = ap (λ l. a ∷ l) (replicate_last n a)

  -- a list that is filled with one value, one element further
  pub fill_turn : (out : List A) (i : ℕ) (a : A) → i < length out → take i out ≡ replicate i a → take (i + 1) (set out i a) ≡ replicate (i + 1) a
  fill_turn out i a h p = rw (add-one, take-suc-set, h, p) (replicate_last i a)

  -- and all of it
  pub fill_done : (out : List A) (i n : ℕ) (a : A) → length out ≡ n → n ≤ i → i ≤ n → take i out ≡ replicate i a → out ≡ replicate n a
  fill_done out i n a l h k p = let e : i ≡ n = omega arith in sym (take_all i out (omega arith)) ∙ p ∙ ap (λ m. replicate m a) e

-- a list made of another, element by element, one further
pub map_turn {ℓ κ} : {A : Type ℓ} {B : Type κ} (f : A → B) (xs : List A) (out : List B) (i : ℕ) (x : B) (d : A) → i < length xs → i < length out
    → take i out ≡ map f (take i xs) → x ≡ f (get_or xs i d) → take (i + 1) (set out i x) ≡ map f (take (i + 1) xs)
map_turn f xs out i x d h k p q = rw (add-one, take-suc-set, k, take-suc xs i d, h, p, q) (sym (map-append f (take i xs) (get_or xs i d ∷ [])))
