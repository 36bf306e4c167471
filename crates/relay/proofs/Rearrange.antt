-- Over any step function: an order that keeps each two dependent steps as they are gives what the index order gives. Assumes nothing.
use Prim.Native.Nat.{ℕ, suc, ◌<◌, ◌≤◌}
use mathlib.Core.Path.{◌≡◌, refl, sym, ◌∙◌, ap}
use mathlib.Core.List.{List, [], ◌∷◌, ◌++◌, foldl, foldl-append}
use native.Mathlib.Omega.{arith}
use Rattle.numbers.specs.Loops.{upto}
use Rattle.relay_orders.proofs.All.{All, nil, cons, all_map, all_left, all_right, all_append}

-- xs names 0 .. n - 1 once each, and the greatest may change places with all that stand after it; so does the next, among the rest; and so on
pub data Orders (Free : ℕ → ℕ → Type 0) : ℕ → List ℕ → Type 0 where
  none : Orders Free 0 []
  more : {n : ℕ} (pre post : List ℕ) → All (Free n) post → Orders Free n (pre ++ post) → Orders Free (suc n) (pre ++ (n ∷ post))

-- it names nothing from n on
orders_below : {Free : ℕ → ℕ → Type 0} {n : ℕ} {xs : List ℕ} → Orders Free n xs → All (λ k. k < n) xs
orders_below none = nil
orders_below (more {n = n} pre post t o) =
    let a = all_map up (orders_below o) in
    all_append (all_left pre post a) (cons (omega arith) (all_right pre post a))
  where
    up : (k : ℕ) → k < n → k < suc n
    up k h = omega arith

-- `Good` is what the steps below `top` keep of a state, and all that their changing places needs of it
module _ {S : Type 0} (f : S → ℕ → S) (top : ℕ) (Good : S → Type 0) (Free : ℕ → ℕ → Type 0) (lower : (a b : ℕ) → Free a b → b < a)
    (keep : (a : ℕ) → a < top → (s : S) → Good s → Good (f s a))
    (commute : (a b : ℕ) → a < top → Free a b → (s : S) → Good s → f (f s a) b ≡ f (f s b) a) where
  -- what the steps keep, a run of them keeps
  pub keeps : (xs : List ℕ) → All (λ k. k < top) xs → (s : S) → Good s → Good (foldl f s xs)
  keeps [] nil s g = g
  keeps (x ∷ xs) (cons h t) s g = keeps xs t (f s x) (keep x h s g)

  -- a step that is free of all that follow may come last
  last : (n : ℕ) → n < top → (post : List ℕ) → All (Free n) post → (s : S) → Good s → foldl f (f s n) post ≡ f (foldl f s post) n
  last n h [] nil s g = refl
  last n h (y ∷ ys) (cons u t) s g =
      ap (λ x. foldl f x ys) (commute n y h u s g) ∙ last n h ys t (f s y) (keep y (omega (arith, lower n y u)) s g)

  -- such an order and the index order come out the same
  pub same : {n : ℕ} {xs : List ℕ} → Orders Free n xs → n ≤ top → (s : S) → Good s → foldl f s xs ≡ foldl f s (upto n)
  same none h s g = refl
  same (more {n = n} pre post t o) h s g =
      foldl-append f s pre (n ∷ post)
      ∙ last n h post t (foldl f s pre) (keeps pre (all_left pre post (all_map below (orders_below o))) s g)
      ∙ ap (λ u. f u n) (sym (foldl-append f s pre post) ∙ same o (omega arith) s g)
      ∙ sym (foldl-append f s (upto n) (n ∷ []))
    where
      below : (k : ℕ) → k < n → k < top
      below k l = omega arith
