-- The tests of a sparse model one after the other: which refuses, what they tell where none does, and the two ways out of `build_sparse`. Assumes nothing.
use mathlib.Core.Bool.{Bool, true, false, ◌&&◌}
use mathlib.Core.List.{List}
use mathlib.Core.Path.{◌≡◌, ap, ◌∙◌}
use Prim.Native.Nat.{ℕ, suc, ◌≤◌}
use lib.Ieee.{Float}
use lib.ListN.{length}
use borrow.Author.Tests.{eq-eqb, leb-true, eqb-true}
use Rattle.numbers.proofs.Cases.{and_both}
use Rattle.refusals.proofs.Tests.{or_done, unless_done}
use Rattle.refusals.specs.Tests.{is_done, unless, or_else, first_of, unless_refused}
use Rattle.refusals.specs.Refusal.{Answer}
use Rattle.std.specs.Prelude.{Ok, Err}
use Rattle.refusals.specs.declared.Refusal.TheVariants.{SizeAboveLimit, ModelListLength, BadDetectorOffsets}
use Rattle.graph_lists.specs.Graph.{Graph, graph_of, among}
use Rattle.graph_lists.specs.Model.{graph_fits, offsets_good, prior_fault, mechanism_fault, build_outcome, built, build_sparse, counts_good, edges_good, sizes_good, sparse_fits, sparse_fault}
use Rattle.graph_lists.specs.Sound.{Long}
use Rattle.graph_lists.specs.Steps.{Valid}
use Rattle.graph_lists.proofs.ModelTests.{offsets_told, valid_told, given_told}

-- what sizes are that pass 1
pub record Few (checks mechanisms edges : ℕ) : Type 0 where
  pub checks_few : checks ≤ 65536
  pub mechanisms_few : mechanisms ≤ 65536
  pub edges_few : edges ≤ 1048576

-- and that the test tells it
pub few_told : (checks mechanisms edges : ℕ) → counts_good checks mechanisms ≡ true → edges_good edges ≡ true → Few checks mechanisms edges
few_told checks mechanisms edges h k =
    let a = and_both _ _ h in
    record { checks_few = leb-true _ _ a.0; mechanisms_few = leb-true _ _ a.1; edges_few = leb-true _ _ k }

module _ (checks mechanisms edges numbers : ℕ) (given : ℕ → Answer) (off dets : List ℕ) (fit : Bool) where
  -- 1
  pub sparse_1 : sizes_good checks mechanisms edges ≡ false → Err SizeAboveLimit ≡ sparse_fault checks mechanisms edges numbers given off dets fit
  unfolding sparse_fault or_else unless
  sparse_1 h = rw h

  -- 2
  pub sparse_2 : sizes_good checks mechanisms edges ≡ true → (sparse_fits mechanisms edges numbers (length off) (length dets) && fit) ≡ false
      → Err ModelListLength ≡ sparse_fault checks mechanisms edges numbers given off dets fit
  unfolding sparse_fault or_else unless
  sparse_2 h k = rw (h, k)

  -- 3
  pub sparse_3 : sizes_good checks mechanisms edges ≡ true → (sparse_fits mechanisms edges numbers (length off) (length dets) && fit) ≡ true
      → offsets_good mechanisms (length dets) off ≡ false → Err BadDetectorOffsets ≡ sparse_fault checks mechanisms edges numbers given off dets fit
  unfolding sparse_fault or_else unless
  sparse_3 h k l = rw (h, k, l)

  -- `given`, 5 or 6, or none
  pub sparse_4 : (a : Answer) → sizes_good checks mechanisms edges ≡ true → (sparse_fits mechanisms edges numbers (length off) (length dets) && fit) ≡ true
      → offsets_good mechanisms (length dets) off ≡ true → a ≡ first_of mechanisms (mechanism_fault checks given off dets) → a ≡ sparse_fault checks mechanisms edges numbers given off dets fit
  unfolding sparse_fault or_else unless
  sparse_4 a h k l e = rw (h, k, l) e

  -- what the lengths are where they fit
  pub record Lengths : Type 0 where
    pub numbers_many : numbers ≡ mechanisms
    pub off_many : length off ≡ suc mechanisms
    pub dets_many : length dets ≡ edges
    pub fits : fit ≡ true

  -- and that the test tells it
  pub lengths_told : (sparse_fits mechanisms edges numbers (length off) (length dets) && fit) ≡ true → Lengths
  lengths_told h =
      let a = and_both _ _ h in
      let b = and_both _ _ a.0 in
      let c = and_both _ _ b.1 in
      record { numbers_many = eqb-true _ _ b.0; off_many = eqb-true _ _ c.0; dets_many = eqb-true _ _ c.1; fits = a.1 }

  -- what the tests tell where none refuses
  pub record Told : Type 0 where
    pub few : Few checks mechanisms edges
    pub lengths : Lengths
    pub valid : Valid checks mechanisms off dets
    pub given_none : first_of mechanisms given ≡ Ok tt

  -- and that they do
  pub sparse_told : sparse_fault checks mechanisms edges numbers given off dets fit ≡ Ok tt → Told
  unfolding sparse_fault
  sparse_told h =
      let a = or_done _ _ h in
      let b = or_done _ _ a.1 in
      let c = or_done _ _ b.1 in
      let s = and_both _ _ (unless_done _ SizeAboveLimit a.0) in
      let l = lengths_told (unless_done _ ModelListLength b.0) in
      record {
        few = few_told _ _ _ s.0 s.1;
        lengths = l;
        valid = valid_told checks mechanisms given off dets (offsets_told mechanisms (length dets) off l.off_many (unless_done _ BadDetectorOffsets c.0)) c.1;
        given_none = given_told checks mechanisms given off dets c.1;
      }

-- the five lengths, where they fit
pub long_told : (edges : ℕ) (g : Graph) → graph_fits edges g ≡ true → Long edges g
unfolding graph_fits
long_told edges g h =
    let a = and_both _ _ h in
    let b = and_both _ _ a.1 in
    let c = and_both _ _ b.1 in
    let d = and_both _ _ c.1 in
    record {
      check_var = eqb-true _ _ a.0;
      check_offset = eqb-true _ _ b.0;
      var_check = eqb-true _ _ c.0;
      var_message = eqb-true _ _ d.0;
      var_offset = eqb-true _ _ d.1;
    }

-- and the other way
pub long_fits : (edges : ℕ) (g : Graph) → Long edges g → graph_fits edges g ≡ true
unfolding graph_fits
long_fits edges g f =
    rw (
      eq-eqb (length g.check_var) edges f.check_var,
      eq-eqb (length g.check_offset) (suc g.checks) f.check_offset,
      eq-eqb (length g.var_check) edges f.var_check,
      eq-eqb (length g.var_message) edges f.var_message,
      eq-eqb (length g.var_offset) (suc g.mechanisms) f.var_offset,
    )

-- a call that answers a: what it builds where it refuses nothing
pub built_done : (a b : Answer) (inc : ℕ → ℕ → Bool) (old new : Graph) → a ≡ b → is_done a ≡ true → new ≡ graph_of old.checks old.mechanisms inc → build_outcome a new ≡ built b inc old
unfolding built unless_refused
built_done a b inc old new p d e = rw (← p, d, e)

-- and that it leaves the lists where it refuses
pub built_refused : (a b : Answer) (inc : ℕ → ℕ → Bool) (old : Graph) → a ≡ b → is_done a ≡ false → build_outcome a old ≡ built b inc old
unfolding built unless_refused
built_refused a b inc old p d = rw (← p, d)

-- the two ways out of `build_sparse`
module _ (edges : ℕ) (priors : List Float) (off dets : List ℕ) (a : Answer) (fit : Bool) (old : Graph) (f : fit ≡ graph_fits edges old)
    (p : a ≡ sparse_fault old.checks old.mechanisms edges (length priors) (prior_fault priors) off dets fit) where
  -- the answer is that of the definition
  answer : a ≡ sparse_fault old.checks old.mechanisms edges (length priors) (prior_fault priors) off dets (graph_fits edges old)
  answer = p ∙ ap (λ (b : Bool). sparse_fault old.checks old.mechanisms edges (length priors) (prior_fault priors) off dets b) f

  -- built
  pub sparse_done : (new : Graph) → is_done a ≡ true → new ≡ graph_of old.checks old.mechanisms (among off dets) → build_outcome a new ≡ build_sparse edges priors off dets old
  unfolding build_sparse
  sparse_done new d e = built_done a _ (among off dets) old new answer d e

  -- refused
  pub sparse_refused : is_done a ≡ false → build_outcome a old ≡ build_sparse edges priors off dets old
  unfolding build_sparse
  sparse_refused d = built_refused a _ (among off dets) old answer d
