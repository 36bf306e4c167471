-- The tests of a dense model one after the other: which refuses, what they tell where none does, and the two ways out of `build_dense`. Assumes nothing.
use mathlib.Core.Bool.{Bool, true, false}
use mathlib.Core.List.{List}
use mathlib.Core.Path.{◌≡◌, ap, ◌∙◌}
use Prim.Native.Nat.{ℕ, ◌*◌, ◌≤◌}
use native.Mathlib.Nat.{mul-le-mul}
use native.Mathlib.Omega.{arith}
use lib.Dec.{eqb, leb}
use lib.Ieee.{Float}
use lib.ListN.{length}
use borrow.Author.Tests.{leb-true, eqb-true}
use Rattle.numbers.proofs.Cases.{and_both}
use Rattle.refusals.proofs.Tests.{or_done, unless_done}
use Rattle.refusals.specs.Tests.{is_done, unless, or_else, first_of}
use Rattle.refusals.specs.Refusal.{Answer}
use Rattle.std.specs.Prelude.{Ok, Err}
use Rattle.refusals.specs.declared.Refusal.TheVariants.{SizeAboveLimit, ModelListLength}
use Rattle.graph_lists.specs.Graph.{Graph, graph_of, marked}
use Rattle.graph_lists.specs.Model.{edges_good, graph_fits, dense_fits, prior_fault, build_outcome, count_edges, build_dense, counts_good, dense_fault}
use Rattle.graph_lists.proofs.SparseTests.{Few, few_told, built_done, built_refused}

-- within the limits a matrix has at most 2 ^ 32 bytes
pub product_small : (checks mechanisms : ℕ) → counts_good checks mechanisms ≡ true → checks * mechanisms ≤ 4294967296
product_small checks mechanisms h =
    let w = and_both (leb checks 65536) (leb mechanisms 65536) h in
    let m : checks * mechanisms ≤ 65536 * 65536 = mul-le-mul (leb-true checks 65536 w.0) (leb-true mechanisms 65536 w.1) in
    omega arith

module _ (checks mechanisms edges numbers : ℕ) (given : ℕ → Answer) (bytes : ℕ) (fit : Bool) where
  -- 1, for the counts
  pub dense_1 : counts_good checks mechanisms ≡ false → Err SizeAboveLimit ≡ dense_fault checks mechanisms edges numbers given bytes fit
  unfolding dense_fault or_else unless
  dense_1 h = rw h

  -- 2, for the matrix and the numbers
  pub dense_2 : counts_good checks mechanisms ≡ true → dense_fits checks mechanisms numbers bytes ≡ false
      → Err ModelListLength ≡ dense_fault checks mechanisms edges numbers given bytes fit
  unfolding dense_fault or_else unless
  dense_2 h k = rw (h, k)

  -- 1, for the edges
  pub dense_3 : counts_good checks mechanisms ≡ true → dense_fits checks mechanisms numbers bytes ≡ true → edges_good edges ≡ false
      → Err SizeAboveLimit ≡ dense_fault checks mechanisms edges numbers given bytes fit
  unfolding dense_fault or_else unless
  dense_3 h k l = rw (h, k, l)

  -- 2, for the graph lists
  pub dense_4 : counts_good checks mechanisms ≡ true → dense_fits checks mechanisms numbers bytes ≡ true → edges_good edges ≡ true → fit ≡ false
      → Err ModelListLength ≡ dense_fault checks mechanisms edges numbers given bytes fit
  unfolding dense_fault or_else unless
  dense_4 h k l m = rw (h, k, l, m)

  -- `given`, or none
  pub dense_5 : (a : Answer) → counts_good checks mechanisms ≡ true → dense_fits checks mechanisms numbers bytes ≡ true → edges_good edges ≡ true → fit ≡ true
      → a ≡ first_of numbers given → a ≡ dense_fault checks mechanisms edges numbers given bytes fit
  unfolding dense_fault or_else unless
  dense_5 a h k l m e = rw (h, k, l, m) (e ∙ ap (λ (n : ℕ). first_of n given)
      (eqb-true numbers mechanisms (and_both (eqb bytes (checks * mechanisms)) (eqb numbers mechanisms) k).1))

  -- what they tell where none refuses
  pub record DenseTold : Type 0 where
    pub few : Few checks mechanisms edges
    pub bytes_many : bytes ≡ checks * mechanisms
    pub numbers_many : numbers ≡ mechanisms
    pub fits : fit ≡ true
    pub given_none : first_of mechanisms given ≡ Ok tt

  -- and that they do
  pub dense_told : dense_fault checks mechanisms edges numbers given bytes fit ≡ Ok tt → DenseTold
  unfolding dense_fault
  dense_told h =
      let a = or_done _ _ h in
      let b = or_done _ _ a.1 in
      let c = or_done _ _ b.1 in
      let d = or_done _ _ c.1 in
      let l = and_both _ _ (unless_done _ ModelListLength b.0) in
      record {
        few = few_told _ _ _ (unless_done _ SizeAboveLimit a.0) (unless_done _ SizeAboveLimit c.0);
        bytes_many = eqb-true _ _ l.0;
        numbers_many = eqb-true _ _ l.1;
        fits = unless_done _ ModelListLength d.0;
        given_none = d.1;
      }

-- the two ways out of `build_dense`
module _ (priors : List Float) (matrix : List ℕ) (a : Answer) (edges : ℕ) (fit : Bool) (old : Graph) (c : edges ≡ count_edges matrix) (f : fit ≡ graph_fits edges old)
    (p : a ≡ dense_fault old.checks old.mechanisms edges (length priors) (prior_fault priors) (length matrix) fit) where
  -- the answer is that of the definition
  answer : a ≡ dense_fault old.checks old.mechanisms (count_edges matrix) (length priors) (prior_fault priors) (length matrix) (graph_fits (count_edges matrix) old)
  answer =
      p
      ∙ ap (λ (b : Bool). dense_fault old.checks old.mechanisms edges (length priors) (prior_fault priors) (length matrix) b) f
      ∙ ap (λ (n : ℕ). dense_fault old.checks old.mechanisms n (length priors) (prior_fault priors) (length matrix) (graph_fits n old)) c

  -- built
  pub dense_done : (new : Graph) → is_done a ≡ true → new ≡ graph_of old.checks old.mechanisms (marked old.mechanisms matrix) → build_outcome a new ≡ build_dense priors matrix old
  unfolding build_dense
  dense_done new d e = built_done a _ (marked old.mechanisms matrix) old new answer d e

  -- refused
  pub dense_refused : is_done a ≡ false → build_outcome a old ≡ build_dense priors matrix old
  unfolding build_dense
  dense_refused d = built_refused a _ (marked old.mechanisms matrix) old answer d
