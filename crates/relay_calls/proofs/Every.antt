-- A test of every number below n, and of a list's elements. Assumes nothing.
use mathlib.Core.Path.{◌≡◌, refl, sym, ◌∙◌}
use mathlib.Core.Bool.{Bool, true, false, true≢false}
use mathlib.Core.Logic.{◌↔◌, ◌⊎◌, inl, inr, ⊎_elim}
use Prim.Native.Nat.{ℕ, zero, suc, ◌<◌}
use native.Mathlib.Omega.{arith}
use Rattle.numbers.specs.Loops.{every}
use Rattle.numbers.proofs.Cases.{either, and_both, last_or_before}

-- what every number passes each one does
every_each : (p : ℕ → Bool) (n : ℕ) → every n p ≡ true → (k : ℕ) → k < n → p k ≡ true
every_each p zero h k l = absurd (omega arith)
every_each p (suc n) h k l = let w = and_both _ _ h in ⊎_elim (λ (e : k ≡ n). rw e w.1) (λ m. every_each p n w.0 k m) (last_or_before k n l)

-- and what each one passes every number does
every_all : (p : ℕ → Bool) (n : ℕ) → ((k : ℕ) → k < n → p k ≡ true) → every n p ≡ true
every_all p zero f = refl
every_all p (suc n) f = rw (every_all p n (λ k l. f k (omega arith)), f n (omega arith))

-- a test that holds just where each one passes
pub every_iff : (n : ℕ) (p : ℕ → Bool) (b : Bool) → b ≡ true ↔ ((k : ℕ) → k < n → p k ≡ true) → b ≡ every n p
every_iff n p b h = ⊎_elim (λ e. e ∙ sym (every_all p n (h.0 e))) (λ e. e ∙ sym (go (either (every n p)) e)) (either b)
  where
    go : (every n p ≡ true) ⊎ (every n p ≡ false) → b ≡ false → every n p ≡ false
    go (inl t) e = absurd (true≢false (sym (h.1 (every_each p n t)) ∙ e))
    go (inr f) e = f
