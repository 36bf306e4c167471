-- What a reader may rely on of models that are given by probabilities. Assumes nothing.
use mathlib.Core.Bool.{Bool, true, false, ◌&&◌, false≢true}
use mathlib.Core.List.{List, map}
use mathlib.Core.Path.{◌≡◌, refl, sym, ap, ◌∙◌}
use Prim.Native.Nat.{ℕ}
use lib.Dec.{eqb}
use lib.Ieee.{Float}
use lib.IntN.{ℤ}
use lib.ListN.{length, length-map}
use borrow.Author.Tests.{eq-eqb, eqb-true}
use Rattle.numbers.proofs.Cases.{and_both}
use Rattle.refusals.proofs.Tests.{or_done, unless_done}
use Rattle.refusals.specs.Refusal.{number_of}
use Rattle.refusals.specs.Tests.{is_done, unless, or_else, first_of, unless_refused}
use Rattle.refusals.specs.Refusal.{Answer}
use Rattle.std.specs.Prelude.{Ok, Err}
use Rattle.refusals.specs.declared.Refusal.TheVariants.{ModelListLength, BadProbability}
use Rattle.probabilities.specs.Calls.{probability_fault, priors_fault, priors_of}
use Rattle.probabilities.specs.Scaled.{prior_of}
use Rattle.graph_lists.specs.Graph.{Graph, graph_of, among, marked}
use Rattle.graph_lists.specs.Model.{graph_fits, prior_fault, built, sparse_fault, build_sparse, count_edges, dense_fault, build_dense}
use Rattle.graph_lists.proofs.SparseTests.{sparse_told}
use Rattle.graph_lists.proofs.DenseTests.{dense_told}
use Rattle.graph_probabilities.specs.Calls.{ProbabilityOutcome, probability_outcome, made, made_fits, build_sparse_probabilities, build_dense_probabilities}
use Rattle.graph_probabilities.proofs.Same.{sparse_same, dense_same, made_passes}

-- ---- `priors_of`, then building from priors

-- what `priors_of` tells where it refuses nothing
record PriorsTold (ps priors : List Float) (scaled : List ℤ) : Type 0 where
  many : length priors ≡ length ps
  none : first_of (length ps) (probability_fault ps) ≡ Ok tt
  priors_are : (priors_of ps priors scaled).priors ≡ map prior_of ps

-- and that it does
priors_told : (ps priors : List Float) (scaled : List ℤ) → (priors_of ps priors scaled).answer ≡ Ok tt → PriorsTold ps priors scaled
unfolding priors_of priors_fault unless_refused
priors_told ps priors scaled h =
    let w = or_done _ _ h in
    record { many = eqb-true _ _ (and_both _ _ (unless_done _ ModelListLength w.0)).0; none = w.1; priors_are = rw h }

-- the lists to be written fit where the graph lists do, if there are as many priors as mechanisms
room_for : (edges : ℕ) (priors : List Float) (g : Graph) → length priors ≡ g.mechanisms → made_fits edges priors g ≡ graph_fits edges g
unfolding made_fits
room_for edges priors g e = rw (eq-eqb (length priors) g.mechanisms e)

-- an outcome of building from priors beside the list of priors: written, unless the call refuses
abbrev beside : Answer → List Float → List Float → Graph → ProbabilityOutcome
beside a new priors g = probability_outcome a (unless_refused a new priors) g

module _ (ps priors : List Float) (scaled : List ℤ) (h : (priors_of ps priors scaled).answer ≡ Ok tt) (g : Graph) where
  -- the tests of a sparse model by 8, and those of its priors by 4
  sparse_answers : (edges : ℕ) (off dets : List ℕ)
      → sparse_fault g.checks g.mechanisms edges (length ps) (probability_fault ps) off dets (made_fits edges priors g)
      ≡ sparse_fault g.checks g.mechanisms edges (length (map prior_of ps)) (prior_fault (map prior_of ps)) off dets (graph_fits edges g)
  sparse_answers edges off dets =
      let t = priors_told ps priors scaled h in
      sparse_same g.checks g.mechanisms edges (length ps) (probability_fault ps) (prior_fault (map prior_of ps)) (made_fits edges priors g) (graph_fits edges g)
      (λ n. room_for edges priors g (t.many ∙ n)) (λ n m l. made_passes ps t.none m (rw n l)) off dets
      ∙ ap (λ (k : ℕ). sparse_fault g.checks g.mechanisms edges k (prior_fault (map prior_of ps)) off dets (graph_fits edges g)) (sym (length-map ps prior_of))

  -- What is built from probabilities is what `build_sparse` builds from the priors that `priors_of` makes of them: the same answer, the same graph lists, and
  -- those priors in the list of priors, which a refusal leaves as it was.
  pub sparse_from_priors : (edges : ℕ) (off dets : List ℕ)
      → let xs = (priors_of ps priors scaled).priors in
      let o = build_sparse edges xs off dets g in
      build_sparse_probabilities edges ps off dets priors g ≡ beside o.answer xs priors o.lists
  unfolding build_sparse_probabilities made build_sparse built
  sparse_from_priors edges off dets =
      rw (priors_told ps priors scaled h).priors_are
      (ap (λ (a : Answer). probability_outcome a (unless_refused a (map prior_of ps) priors) (unless_refused a (graph_of g.checks g.mechanisms (among off dets)) g)) (sparse_answers edges off dets))

  -- the tests of a dense model by 8, and those of its priors by 4
  dense_answers : (edges bytes : ℕ)
      → dense_fault g.checks g.mechanisms edges (length ps) (probability_fault ps) bytes (made_fits edges priors g)
      ≡ dense_fault g.checks g.mechanisms edges (length (map prior_of ps)) (prior_fault (map prior_of ps)) bytes (graph_fits edges g)
  dense_answers edges bytes =
      let t = priors_told ps priors scaled h in
      dense_same g.checks g.mechanisms edges (length ps) (probability_fault ps) (prior_fault (map prior_of ps)) (made_fits edges priors g) (graph_fits edges g)
      (λ n. room_for edges priors g (t.many ∙ n)) (λ n m l. made_passes ps t.none m (rw n l)) bytes
      ∙ ap (λ (k : ℕ). dense_fault g.checks g.mechanisms edges k (prior_fault (map prior_of ps)) bytes (graph_fits edges g)) (sym (length-map ps prior_of))

  -- So it is with `build_dense`.
  pub dense_from_priors : (matrix : List ℕ)
      → let xs = (priors_of ps priors scaled).priors in
      let o = build_dense xs matrix g in
      build_dense_probabilities ps matrix priors g ≡ beside o.answer xs priors o.lists
  unfolding build_dense_probabilities made build_dense built
  dense_from_priors matrix =
      rw (priors_told ps priors scaled h).priors_are
      (ap (λ (a : Answer). probability_outcome a (unless_refused a (map prior_of ps) priors) (unless_refused a (graph_of g.checks g.mechanisms (marked g.mechanisms matrix)) g))
      (dense_answers (count_edges matrix) (length matrix)))

-- ---- 8

-- an answer's number, and 0 for none
abbrev number : Answer → ℕ
number (Ok _) = 0
number (Err r) = number_of r

-- 8 behind 2 is no answer of tests behind 2 that are passed
eight_behind : (b : Bool) (m : ℕ) → or_else (unless b ModelListLength) (Ok tt) ≡ Err (BadProbability m) → ⊥
unfolding or_else unless
eight_behind true m h = absurd (false≢true (ap (λ (a : Answer). eqb (number a) 8) h))
eight_behind false m h = absurd (false≢true (ap (λ (a : Answer). eqb (number a) 8) h))

-- so `priors_of` does not answer 8 where all are probabilities
no_eight : (ps priors : List Float) (scaled : List ℤ) (m : ℕ) → first_of (length ps) (probability_fault ps) ≡ Ok tt → (priors_of ps priors scaled).answer ≡ Err (BadProbability m) → ⊥
unfolding priors_of priors_fault
no_eight ps priors scaled m n h = eight_behind (eqb (length priors) (length ps) && eqb (length scaled) (length ps)) m (rw n at h)

-- an answer that is not `Done` refuses
not_done : (a : Answer) → (a ≡ Ok tt → ⊥) → is_done a ≡ false
not_done (Ok _) h = absurd (h refl)
not_done (Err r) h = refl

-- Where `priors_of` refuses probabilities with 8, at whatever place, building from them is refused too.
pub sparse_eight : (edges : ℕ) (ps : List Float) (off dets : List ℕ) (priors : List Float) (scaled : List ℤ) (g : Graph) (m : ℕ)
    → (priors_of ps priors scaled).answer ≡ Err (BadProbability m) → is_done (build_sparse_probabilities edges ps off dets priors g).answer ≡ false
unfolding build_sparse_probabilities made
sparse_eight edges ps off dets priors scaled g m h =
    not_done _ (λ d.
    let t = sparse_told g.checks g.mechanisms edges (length ps) (probability_fault ps) off dets (made_fits edges priors g) d in
    no_eight ps priors scaled m (ap (λ (k : ℕ). first_of k (probability_fault ps)) t.lengths.numbers_many ∙ t.given_none) h)

-- So is building from a dense model.
pub dense_eight : (ps : List Float) (matrix : List ℕ) (priors : List Float) (scaled : List ℤ) (g : Graph) (m : ℕ)
    → (priors_of ps priors scaled).answer ≡ Err (BadProbability m) → is_done (build_dense_probabilities ps matrix priors g).answer ≡ false
unfolding build_dense_probabilities made
dense_eight ps matrix priors scaled g m h =
    not_done _ (λ d.
    let t = dense_told g.checks g.mechanisms (count_edges matrix) (length ps) (probability_fault ps) (length matrix) (made_fits (count_edges matrix) priors g) d in
    no_eight ps priors scaled m (ap (λ (k : ℕ). first_of k (probability_fault ps)) t.numbers_many ∙ t.given_none) h)

-- ---- one result

-- two outcomes that coincide do so in the answer, in the priors and in the graph lists
outcomes : (a b : Answer) (xs ys : List Float) (g h : Graph) → probability_outcome a xs g ≡ probability_outcome b ys h → (a ≡ b) × (xs ≡ ys) × (g ≡ h)
outcomes a b xs ys g h e = (
  ap (λ (o : ProbabilityOutcome). o.answer) e,
  ap (λ (o : ProbabilityOutcome). o.priors) e,
  ap (λ (o : ProbabilityOutcome). o.lists) e,
)

-- Two results that the contract of `build_sparse_probabilities` allows coincide, the answer and the six lists.
pub sparse_once : (edges : ℕ) (ps : List Float) (off dets : List ℕ) (priors : List Float) (old : Graph) (a b : Answer) (xs ys : List Float) (g h : Graph)
    → probability_outcome a xs g ≡ build_sparse_probabilities edges ps off dets priors old → probability_outcome b ys h ≡ build_sparse_probabilities edges ps off dets priors old
    → (a ≡ b) × (xs ≡ ys) × (g ≡ h)
sparse_once edges ps off dets priors old a b xs ys g h p q = outcomes a b xs ys g h (p ∙ sym q)

-- Two that the contract of `build_dense_probabilities` allows.
pub dense_once : (ps : List Float) (matrix : List ℕ) (priors : List Float) (old : Graph) (a b : Answer) (xs ys : List Float) (g h : Graph)
    → probability_outcome a xs g ≡ build_dense_probabilities ps matrix priors old → probability_outcome b ys h ≡ build_dense_probabilities ps matrix priors old
    → (a ≡ b) × (xs ≡ ys) × (g ≡ h)
dense_once ps matrix priors old a b xs ys g h p q = outcomes a b xs ys g h (p ∙ sym q)
