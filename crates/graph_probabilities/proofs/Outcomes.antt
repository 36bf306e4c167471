-- The two ways out of each call, and what lists that fit are. Assumes nothing.
use mathlib.Core.Bool.{Bool, true, false}
use mathlib.Core.List.{List, map}
use mathlib.Core.Path.{◌≡◌, ap, ◌∙◌}
use Prim.Native.Nat.{ℕ}
use lib.Ieee.{Float}
use lib.ListN.{length}
use borrow.Author.Tests.{eqb-true}
use Rattle.numbers.proofs.Cases.{and_both}
use Rattle.refusals.specs.Tests.{is_done, unless_refused}
use Rattle.refusals.specs.Refusal.{Answer}
use Rattle.probabilities.specs.Calls.{probability_fault}
use Rattle.probabilities.specs.Scaled.{prior_of}
use Rattle.graph_lists.specs.Graph.{Graph, graph_of, among, marked}
use Rattle.graph_lists.specs.Model.{sparse_fault, count_edges, dense_fault}
use Rattle.graph_lists.specs.Sound.{Long}
use Rattle.graph_lists.proofs.SparseTests.{long_told}
use Rattle.graph_probabilities.specs.Calls.{probability_outcome, made, made_fits, build_sparse_probabilities, build_dense_probabilities}

-- lists that fit: as many priors as mechanisms, and the five lengths
pub fits_told : (edges : ℕ) (priors : List Float) (g : Graph) → made_fits edges priors g ≡ true → (length priors ≡ g.mechanisms) × Long edges g
unfolding made_fits
fits_told edges priors g h = let w = and_both _ _ h in (eqb-true _ _ w.0, long_told edges g w.1)

-- a call that answers a: what it makes where it refuses nothing
made_done : (a b : Answer) (ps : List Float) (inc : ℕ → ℕ → Bool) (priors xs : List Float) (old new : Graph) → a ≡ b → is_done a ≡ true → xs ≡ map prior_of ps
    → new ≡ graph_of old.checks old.mechanisms inc → probability_outcome a xs new ≡ made b ps inc priors old
unfolding made unless_refused
made_done a b ps inc priors xs old new p d e f = rw (← p, d, e, f)

-- and that it leaves the lists where it refuses
made_refused : (a b : Answer) (ps : List Float) (inc : ℕ → ℕ → Bool) (priors : List Float) (old : Graph) → a ≡ b → is_done a ≡ false
    → probability_outcome a priors old ≡ made b ps inc priors old
unfolding made unless_refused
made_refused a b ps inc priors old p d = rw (← p, d)

-- the two ways out of `build_sparse_probabilities`
module _ (edges : ℕ) (ps : List Float) (off dets : List ℕ) (a : Answer) (fit : Bool) (priors : List Float) (old : Graph) (f : fit ≡ made_fits edges priors old)
    (p : a ≡ sparse_fault old.checks old.mechanisms edges (length ps) (probability_fault ps) off dets fit) where
  -- the answer is that of the definition
  sparse_answer : a ≡ sparse_fault old.checks old.mechanisms edges (length ps) (probability_fault ps) off dets (made_fits edges priors old)
  sparse_answer = p ∙ ap (λ (b : Bool). sparse_fault old.checks old.mechanisms edges (length ps) (probability_fault ps) off dets b) f

  -- built
  pub sparse_done : (xs : List Float) (new : Graph) → is_done a ≡ true → xs ≡ map prior_of ps → new ≡ graph_of old.checks old.mechanisms (among off dets)
      → probability_outcome a xs new ≡ build_sparse_probabilities edges ps off dets priors old
  unfolding build_sparse_probabilities
  sparse_done xs new d e n = made_done a _ ps (among off dets) priors xs old new sparse_answer d e n

  -- refused
  pub sparse_refused : is_done a ≡ false → probability_outcome a priors old ≡ build_sparse_probabilities edges ps off dets priors old
  unfolding build_sparse_probabilities
  sparse_refused d = made_refused a _ ps (among off dets) priors old sparse_answer d

-- the two ways out of `build_dense_probabilities`
module _ (ps : List Float) (matrix : List ℕ) (a : Answer) (edges : ℕ) (fit : Bool) (priors : List Float) (old : Graph) (c : edges ≡ count_edges matrix)
    (f : fit ≡ made_fits edges priors old) (p : a ≡ dense_fault old.checks old.mechanisms edges (length ps) (probability_fault ps) (length matrix) fit) where
  -- the answer is that of the definition
  dense_answer : a ≡ dense_fault old.checks old.mechanisms (count_edges matrix) (length ps) (probability_fault ps) (length matrix) (made_fits (count_edges matrix) priors old)
  dense_answer =
      p
      ∙ ap (λ (b : Bool). dense_fault old.checks old.mechanisms edges (length ps) (probability_fault ps) (length matrix) b) f
      ∙ ap (λ (n : ℕ). dense_fault old.checks old.mechanisms n (length ps) (probability_fault ps) (length matrix) (made_fits n priors old)) c

  -- built
  pub dense_done : (xs : List Float) (new : Graph) → is_done a ≡ true → xs ≡ map prior_of ps
      → new ≡ graph_of old.checks old.mechanisms (marked old.mechanisms matrix) → probability_outcome a xs new ≡ build_dense_probabilities ps matrix priors old
  unfolding build_dense_probabilities
  dense_done xs new d e n = made_done a _ ps (marked old.mechanisms matrix) priors xs old new dense_answer d e n

  -- refused
  pub dense_refused : is_done a ≡ false → probability_outcome a priors old ≡ build_dense_probabilities ps matrix priors old
  unfolding build_dense_probabilities
  dense_refused d = made_refused a _ ps (marked old.mechanisms matrix) priors old dense_answer d
