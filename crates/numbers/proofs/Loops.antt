-- Laws of the forms that definitions are made of: one element more of a fold, tests that all hold, and the length and the elements of a table, of a part,
-- and of a list with a part replaced. (One step more of `turns`, `table` and `every`, at `suc n`, is how they compute.) Assumes nothing.
use Rattle.std.proofs.Common.{◌≡◌, ℕ, zero, suc, ◌+◌, ◌-◌, ◌<◌, ◌≤◌, Bool, true, false, ◌⊎◌, List, [], ◌∷◌, ◌++◌, map, length, get_or, take, drop, set, sym, refl, ap, ◌∙◌, inl, inr, ⊎_elim, true≢false, le_of_suc-le-suc, not-suc-le-zero, arith, length-append, length-drop, length-set, length-take-le, get_or-drop, get_or-set_other, get_or-take, get_or-set_same, get_or-append-add, ext_get_or, below_more}
use mathlib.Core.List.{foldl}
use native.Mathlib.Decide.{dec_lt}
use lib.ListN.{get_or-append}
use Rattle.numbers.proofs.Cases.{either, equal_or_not, and_both}
use Rattle.numbers.specs.Loops.{table, every, part, spliced}

-- ---- a fold

-- one element more of a `for x in xs`
pub foldl_take {ℓ κ} : {A : Type ℓ} {S : Type κ} (f : S → A → S) (s : S) (xs : List A) (i : ℕ) (d : A) → i < length xs
    → foldl f s (take (suc i) xs) ≡ f (foldl f s (take i xs)) (get_or xs i d)
foldl_take f s [] i d h = absurd (not-suc-le-zero h)
foldl_take f s (x ∷ xs) zero d h = refl
foldl_take f s (x ∷ xs) (suc i) d h = foldl_take f (f s x) xs i d (le_of_suc-le-suc h)

-- ---- every

-- where every one holds, each does
pub every_at : (n : ℕ) (p : ℕ → Bool) → every n p ≡ true → (i : ℕ) → i < n → p i ≡ true
every_at zero p h i l = absurd (not-suc-le-zero l)
every_at (suc n) p h i l = let w = and_both (every n p) (p n) h in below_more (λ k. p k ≡ true) n (every_at n p w.0) w.1 i (omega arith)

-- where each holds, every one does
pub every_true : (n : ℕ) (p : ℕ → Bool) → ((i : ℕ) → i < n → p i ≡ true) → every n p ≡ true
every_true zero p h = refl
every_true (suc n) p h = rw (every_true n p (λ i l. h i (omega arith)), h n (omega arith))

-- where not every one holds, there is one that fails
pub every_false : (n : ℕ) (p : ℕ → Bool) → every n p ≡ false → (i : ℕ) × (i < n) × (p i ≡ false)
every_false zero p h = absurd (true≢false h)
every_false (suc n) p h =
    ⊎_elim
    (λ (a : every n p ≡ true). (n, omega arith, rw a at h))
    (λ (a : every n p ≡ false). let w = every_false n p a in (w.0, omega (arith, w.1), w.2))
    (either (every n p))

-- ---- table

module _ {ℓ} {A : Type ℓ} where
  -- a table's length
  pub length_table : (n : ℕ) (f : ℕ → A) → length (table n f) ≡ n
  length_table zero f = refl
  length_table (suc n) f = length-append (table n f) (f n ∷ []) ∙ omega (arith, length_table n f)

  -- its i-th element
  pub get_or_table : (n : ℕ) (f : ℕ → A) (i : ℕ) (d : A) → i < n → get_or (table n f) i d ≡ f i
  get_or_table zero f i d h = absurd (not-suc-le-zero h)
  get_or_table (suc n) f i d h = go (dec_lt i n) (get_or_table n f i d)
    where
      go : Dec (i < n) → (i < n → get_or (table n f) i d ≡ f i) → get_or (table (suc n) f) i d ≡ f i
      go (yes k) u = get_or-append (table n f) (f n ∷ []) d i (omega (arith, length_table n f)) ∙ u k
      go (no k) u =
          let e : i ≡ length (table n f) + 0 = omega (arith, length_table n f) in
          let w : n ≡ i = omega arith in
          ap (λ m. get_or (table (suc n) f) m d) e ∙ get_or-append-add (table n f) (f n ∷ []) 0 d ∙ ap f w

  -- tables that agree
  pub tables_agree : (n : ℕ) (f h : ℕ → A) → ((i : ℕ) → i < n → h i ≡ f i) → table n h ≡ table n f
  tables_agree zero f h e = refl
  tables_agree (suc n) f h e = rw (tables_agree n f h (λ i l. e i (omega arith)), e n (omega arith))

  -- tables that agree but at one place, where that is put right
  pub but_one : (n : ℕ) (f h : ℕ → A) (l : ℕ) (d : A) → l < n → ((i : ℕ) → i < n → (i ≡ l → ⊥) → h i ≡ f i) → set (table n h) l (f l) ≡ table n f
  but_one n f h l d k e = ext_get_or d _ _ (length-set (table n h) l (f l) ∙ length_table n h ∙ sym (length_table n f)) (λ i m. at i (omega (arith, length-set (table n h) l (f l), length_table n h, m)))
    where
      at : (i : ℕ) → i < n → get_or (set (table n h) l (f l)) i d ≡ get_or (table n f) i d
      at i m = by (equal_or_not i l)
        where
          by : (i ≡ l) ⊎ (i ≡ l → ⊥) → get_or (set (table n h) l (f l)) i d ≡ get_or (table n f) i d
          by (inl q) = rw q (get_or-set_same (table n h) l (f l) d (omega (arith, length_table n h)) ∙ sym (get_or_table n f l d k))
          by (inr q) = get_or-set_other (table n h) l i (f l) d q ∙ get_or_table n h i d m ∙ e i m q ∙ sym (get_or_table n f i d m)

  -- ---- part

  -- a part's length
  pub length_part : (a e : ℕ) (xs : List A) → e ≤ length xs → length (part a e xs) ≡ e - a
  length_part a e xs h = length-take-le (e - a) (drop a xs) (simp length-drop (omega arith))

  -- its j-th element
  pub get_d_part : (a e : ℕ) (xs : List A) (j : ℕ) (d : A) → a + j < e → get_or (part a e xs) j d ≡ get_or xs (a + j) d
  get_d_part a e xs j d h = get_or-take (e - a) (drop a xs) j d (omega arith) ∙ get_or-drop a xs j d

-- ---- lists of numbers

-- a list is a table by its elements
pub is_table : (n : ℕ) (f : ℕ → ℕ) (xs : List ℕ) → length xs ≡ n → ((i : ℕ) → i < n → get_or xs i 0 ≡ f i) → xs ≡ table n f
is_table n f xs e h = ext_get_or 0 xs (table n f) (e ∙ sym (length_table n f)) (λ i l. h i (omega arith) ∙ sym (get_or_table n f i 0 (omega arith)))

-- an element of a mapped list
pub map_at : (f : ℕ → ℕ) (xs : List ℕ) (i : ℕ) → i < length xs → get_or (map f xs) i 0 ≡ f (get_or xs i 0)
map_at f [] i h = absurd (not-suc-le-zero h)
map_at f (x ∷ xs) zero h = refl
map_at f (x ∷ xs) (suc i) h = map_at f xs i (le_of_suc-le-suc h)

-- ---- spliced

-- i lies outside a .. e
abbrev pub Outside : ℕ → ℕ → ℕ → Type 0
Outside a e i = (i < a) ⊎ (e ≤ i)

module _ {ℓ} {A : Type ℓ} (xs : List A) (a e : ℕ) (new : List A) (h : a ≤ e) (k : e ≤ length xs) (l : length new ≡ e - a) where
  -- as many stand before the part as its start says
  front : length (take a xs) ≡ a
  front = length-take-le a xs (omega arith)

  -- a part replaced by as many leaves the length
  pub length_spliced : length (spliced xs a e new) ≡ length xs
  length_spliced = simp (length-append, length-drop) (omega (arith, front))

  -- outside the part the elements are the old
  pub spliced_out : (i : ℕ) (d : A) → Outside a e i → get_or (spliced xs a e new) i d ≡ get_or xs i d
  spliced_out i d (inl o) = get_or-append (take a xs) (new ++ drop e xs) d i (omega (arith, front)) ∙ get_or-take a xs i d o
  spliced_out i d (inr o) =
      let p : i ≡ length (take a xs) + (length new + (i - e)) = omega (arith, front) in
      let q : e + (i - e) ≡ i = omega arith in
      ap (λ n. get_or (spliced xs a e new) n d) p
      ∙ get_or-append-add (take a xs) (new ++ drop e xs) (length new + (i - e)) d
      ∙ get_or-append-add new (drop e xs) (i - e) d
      ∙ get_or-drop e xs (i - e) d
      ∙ ap (λ n. get_or xs n d) q

  -- within it, the new
  pub spliced_in : (j : ℕ) (d : A) → a + j < e → get_or (spliced xs a e new) (a + j) d ≡ get_or new j d
  spliced_in j d o =
      ap (λ n. get_or (spliced xs a e new) (n + j) d) (sym front)
      ∙ get_or-append-add (take a xs) (new ++ drop e xs) j d
      ∙ get_or-append new (drop e xs) d j (omega arith)
