-- Tests that answer the same answer the same together: probabilities that pass 8 as their priors, which pass 4. Assumes nothing.
use mathlib.Core.Bool.{Bool, true, false}
use mathlib.Core.List.{List, [], ◌∷◌, map}
use mathlib.Core.Logic.{⊎_elim}
use mathlib.Core.Path.{◌≡◌, refl, sym, ap, ◌∙◌}
use Prim.Native.Nat.{ℕ, zero, suc, ◌*◌, ◌<◌}
use native.Mathlib.Omega.{arith}
use lib.Dec.{eqb}
use lib.Ieee.{Float, nan}
use lib.ListN.{length, get_or}
use borrow.Author.Tests.{eqb-true}
use Rattle.numbers.proofs.Cases.{either}
use Rattle.numbers.specs.Loops.{row}
use Rattle.refusals.proofs.Tests.{first_all}
use Rattle.refusals.specs.Tests.{unless, or_else, first_of}
use Rattle.refusals.specs.Refusal.{Answer}
use Rattle.std.specs.Prelude.{Ok}
use Rattle.probabilities.specs.Calls.{probability_fault}
use Rattle.probabilities.specs.Scaled.{prior_of}
use Rattle.probabilities.proofs.Theorems.{prior_range}
use Rattle.graph_lists.specs.Model.{prior_good, prior_fault, mechanism_test, mechanism_fault, sparse_fault, dense_fault}

-- two loops of tests that answer the same one by one
first_same : (f h : ℕ → Answer) (n : ℕ) → ((i : ℕ) → i < n → f i ≡ h i) → first_of n f ≡ first_of n h
unfolding first_of
first_same f h zero e = refl
first_same f h (suc n) e = rw (first_same f h n (λ i l. e i (omega arith)), e n (omega arith))

-- the tests of a model by two tests of its numbers, which answer the same where there are as many numbers as mechanisms
module _ (checks mechanisms edges numbers : ℕ) (given given' : ℕ → Answer) (fit fit' : Bool) (f : numbers ≡ mechanisms → fit ≡ fit')
    (e : numbers ≡ mechanisms → (m : ℕ) → m < mechanisms → given m ≡ given' m) where
  -- mechanism by mechanism
  mechanisms_same : (off dets : List ℕ) → numbers ≡ mechanisms → first_of mechanisms (mechanism_fault checks given off dets) ≡ first_of mechanisms (mechanism_fault checks given' off dets)
  unfolding mechanism_fault
  mechanisms_same off dets n = first_same _ _ mechanisms (λ m l. ap (λ (a : Answer). mechanism_test checks m a (row off m dets)) (e n m l))

  -- a sparse model with as many
  sparse_many : (off dets : List ℕ) → numbers ≡ mechanisms → sparse_fault checks mechanisms edges numbers given off dets fit ≡ sparse_fault checks mechanisms edges numbers given' off dets fit'
  unfolding sparse_fault
  sparse_many off dets n = rw (f n, mechanisms_same off dets n)

  -- with another number of them 2 comes first
  sparse_other : (off dets : List ℕ) → eqb numbers mechanisms ≡ false
      → sparse_fault checks mechanisms edges numbers given off dets fit ≡ sparse_fault checks mechanisms edges numbers given' off dets fit'
  unfolding sparse_fault or_else unless
  sparse_other off dets n = rw n

  -- a sparse model
  pub sparse_same : (off dets : List ℕ) → sparse_fault checks mechanisms edges numbers given off dets fit ≡ sparse_fault checks mechanisms edges numbers given' off dets fit'
  sparse_same off dets = ⊎_elim (λ h. sparse_many off dets (eqb-true numbers mechanisms h)) (λ h. sparse_other off dets h) (either (eqb numbers mechanisms))

  -- a dense model with as many
  dense_many : (bytes : ℕ) → numbers ≡ mechanisms → dense_fault checks mechanisms edges numbers given bytes fit ≡ dense_fault checks mechanisms edges numbers given' bytes fit'
  unfolding dense_fault
  dense_many bytes n = rw (f n, first_same given given' mechanisms (e n))

  -- with another number of them
  dense_other : (bytes : ℕ) → eqb numbers mechanisms ≡ false → (b : Bool) → eqb bytes (checks * mechanisms) ≡ b
      → dense_fault checks mechanisms edges numbers given bytes fit ≡ dense_fault checks mechanisms edges numbers given' bytes fit'
  unfolding dense_fault or_else unless
  dense_other bytes n true h = rw (n, h)
  dense_other bytes n false h = rw (n, h)

  -- a dense model
  pub dense_same : (bytes : ℕ) → dense_fault checks mechanisms edges numbers given bytes fit ≡ dense_fault checks mechanisms edges numbers given' bytes fit'
  dense_same bytes = ⊎_elim (λ h. dense_many bytes (eqb-true numbers mechanisms h)) (λ h. dense_other bytes h _ refl) (either (eqb numbers mechanisms))

-- a place of a list that is made element by element
get_or_made : (f : Float → Float) (xs : List Float) (i : ℕ) → i < length xs → get_or (map f xs) i nan ≡ f (get_or xs i nan)
get_or_made f [] i l = absurd (omega arith)
get_or_made f (x ∷ xs) zero l = refl
get_or_made f (x ∷ xs) (suc i) l = get_or_made f xs i (omega arith)

-- the prior of whatever passes 4
prior_good_lem : (p : Float) → prior_good (prior_of p) ≡ true
unfolding prior_good
prior_good_lem p = prior_range p

-- of probabilities that pass 8 each prior passes 4
pub made_passes : (ps : List Float) → first_of (length ps) (probability_fault ps) ≡ Ok tt → (m : ℕ) → m < length ps → probability_fault ps m ≡ prior_fault (map prior_of ps) m
unfolding prior_fault unless
made_passes ps h m l = first_all (probability_fault ps) (length ps) h m l ∙ sym (rw (get_or_made prior_of ps m l, prior_good_lem (get_or ps m nan)))
