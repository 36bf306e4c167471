-- Two loops whose steps agree on good states, and keep them good, end alike. Assumes nothing.
use Prim.Native.Nat.{ℕ, zero, suc, ◌<◌}
use mathlib.Core.Path.{◌≡◌, refl, ◌∙◌, ap}
use mathlib.Core.List.{List, foldl}
use native.Mathlib.Omega.{arith}
use Rattle.numbers.specs.Loops.{turns}
use Rattle.relay_orders.proofs.All.{All, nil, cons}

module _ {S : Type 0} (Good : S → Type 0) where
  -- a loop that counts
  pub turns_agree : (n : ℕ) (f h : ℕ → S → S) → ((i : ℕ) → i < n → (s : S) → Good s → (f i s ≡ h i s) × Good (f i s))
      → (s : S) → Good s → (turns n f s ≡ turns n h s) × Good (turns n f s)
  turns_agree zero f h e s z = (refl, z)
  turns_agree (suc n) f h e s z =
      let t = turns_agree n f h (λ i l. e i (omega arith)) s z in
      let u = e n (omega arith) (turns n f s) t.1 in
      (u.0 ∙ ap (h n) t.0, u.1)

  -- a loop over a list
  pub folds_agree : (f h : S → ℕ → S) {xs : List ℕ} → All (λ x. (s : S) → Good s → (f s x ≡ h s x) × Good (f s x)) xs
      → (s : S) → Good s → foldl f s xs ≡ foldl h s xs
  folds_agree f h nil s z = refl
  folds_agree f h (cons {x = x} {xs = xs} t ts) s z = folds_agree f h ts (f s x) (t s z).1 ∙ ap (λ (u : S). foldl h u xs) (t s z).0
