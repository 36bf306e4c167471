-- Numbers and tests by cases, and the turns of a loop of tests. Assumes nothing.
use Rattle.std.proofs.Common.{◌≡◌, ℕ, zero, suc, ◌+◌, ◌<◌, ◌≤◌, Bool, true, false, cond, not, ◌&&◌, eqb, ltb, ◌⊎◌, sym, refl, ◌∙◌, inl, inr, ⊎_elim, add-one, arith, ltb-false, ltb-true, eq-eqb, ne_eqb, eqb-true}
use mathlib.Core.Bool.{and-false, false≢true}
use borrow.Author.Tests.{not-true, not-false, eqb-false}
use Rattle.numbers.specs.Loops.{every}

-- ---- cases

-- a test holds or fails
pub either : (b : Bool) → (b ≡ true) ⊎ (b ≡ false)
either true = inl refl
either false = inr refl

-- a is below b, or not
pub less_or_not : (a b : ℕ) → (a < b) ⊎ (b ≤ a)
less_or_not a b = ⊎_elim (λ e. inl (ltb-true a b e)) (λ e. inr (ltb-false a b e)) (either (ltb a b))

-- a is b, or not
pub equal_or_not : (a b : ℕ) → (a ≡ b) ⊎ (a ≡ b → ⊥)
equal_or_not a b = ⊎_elim (λ e. inl (eqb-true a b e)) (λ e. inr (eqb-false a b e)) (either (eqb a b))

-- what is below n + 1 is n or below n
pub last_or_before : (i n : ℕ) → i < suc n → (i ≡ n) ⊎ (i < n)
last_or_before i n h = ⊎_elim (λ e. inl e) (λ e. inr (omega arith)) (equal_or_not i n)

-- ---- tests

-- two tests that both hold
pub and_both : (a b : Bool) → (a && b) ≡ true → (a ≡ true) × (b ≡ true)
and_both true b h = (refl, h)
and_both false b h = absurd (false≢true h)

-- two tests of equality that follow from one another
pub same_test : (a b x y : ℕ) → (a ≡ b → x ≡ y) → (x ≡ y → a ≡ b) → eqb a b ≡ eqb x y
same_test a b x y f g =
    ⊎_elim
    (λ (e : a ≡ b). eq-eqb a b e ∙ sym (eq-eqb x y (f e)))
    (λ (n : a ≡ b → ⊥). ne_eqb a b n ∙ sym (ne_eqb x y (λ e. n (g e))))
    (equal_or_not a b)

-- both choices alike
pub either_way {ℓ} : {A : Type ℓ} (b : Bool) (x : A) → cond b x x ≡ x
either_way true x = refl
either_way false x = refl

-- what `if !b` that is not taken tells, where b is v
pub was_true : (b v : Bool) → b ≡ v → not b ≡ false → v ≡ true
was_true b v e h = sym e ∙ not-false b h

-- and what one that is taken tells
pub was_false : (b v : Bool) → b ≡ v → not b ≡ true → v ≡ false
was_false b v e h = sym e ∙ not-true b h

-- ---- a loop of tests

-- one more that holds
pub every_turn : (p : ℕ → Bool) (i : ℕ) → every i p ≡ true → p i ≡ true → every (i + 1) p ≡ true
every_turn p i h t = rw (add-one, h, t)

-- one that fails
pub every_stop : (p : ℕ → Bool) (i n : ℕ) → i < n → p i ≡ false → every n p ≡ false
every_stop p i zero h t = absurd (omega arith)
every_stop p i (suc n) h t =
    ⊎_elim (λ (e : i ≡ n). rw (← e, t) (and-false (every i p))) (λ l. rw (every_stop p i n l t)) (last_or_before i n h)

-- `if !b { return false; }`, taken
pub every_refuse : (p : ℕ → Bool) (i n : ℕ) (b : Bool) → i < n → b ≡ p i → not b ≡ true → false ≡ every n p
every_refuse p i n b l e t = sym (every_stop p i n l (sym e ∙ not-true b t))

-- and not taken
pub every_go : (p : ℕ → Bool) (i : ℕ) (b : Bool) → every i p ≡ true → b ≡ p i → not b ≡ false → every (i + 1) p ≡ true
every_go p i b h e t = every_turn p i h (sym e ∙ not-false b t)
