-- The tests of `check_graph` one after the other: which refuses, and what they tell where none does. Assumes nothing.
use mathlib.Core.Bool.{true, false, ◌&&◌}
use mathlib.Core.List.{List}
use mathlib.Core.Path.{◌≡◌}
use Prim.Native.Nat.{ℕ, ◌<◌}
use lib.Dec.{eqb}
use lib.Ieee.{Float, nan}
use lib.ListN.{length, get_or}
use borrow.Author.Tests.{eqb-true}
use Rattle.numbers.proofs.Cases.{and_both}
use Rattle.refusals.proofs.Tests.{or_done, unless_done, first_all}
use Rattle.refusals.specs.Tests.{is_done, unless, or_else, first_of}
use Rattle.refusals.specs.Refusal.{Answer}
use Rattle.std.specs.Prelude.{Ok, Err}
use Rattle.refusals.specs.declared.Refusal.TheVariants.{SizeAboveLimit, ModelListLength, BadPrior, NoSuchGraph}
use Rattle.graph_lists.specs.Graph.{Graph}
use Rattle.graph_lists.specs.Model.{graph_fits, prior_good, prior_fault, is_graph, graph_fault, sizes_good}
use Rattle.graph_lists.specs.Sound.{Long}
use Rattle.graph_lists.proofs.SparseTests.{Few, few_told, long_told}

module _ (edges : ℕ) (priors : List Float) (g : Graph) where
  -- 1
  pub fault_1 : sizes_good g.checks g.mechanisms edges ≡ false → Err SizeAboveLimit ≡ graph_fault edges priors g
  unfolding graph_fault or_else unless
  fault_1 a = rw a

  -- 2
  pub fault_2 : sizes_good g.checks g.mechanisms edges ≡ true → (eqb (length priors) g.mechanisms && graph_fits edges g) ≡ false → Err ModelListLength ≡ graph_fault edges priors g
  unfolding graph_fault or_else unless
  fault_2 a b = rw (a, b)

  -- 4
  pub fault_4 : (r : Answer) → sizes_good g.checks g.mechanisms edges ≡ true → (eqb (length priors) g.mechanisms && graph_fits edges g) ≡ true
      → r ≡ first_of g.mechanisms (prior_fault priors) → is_done r ≡ false → r ≡ graph_fault edges priors g
  unfolding graph_fault or_else unless
  fault_4 r a b e d = rw (a, b, ← e, d)

  -- 7
  pub fault_7 : (r : Answer) → sizes_good g.checks g.mechanisms edges ≡ true → (eqb (length priors) g.mechanisms && graph_fits edges g) ≡ true
      → r ≡ first_of g.mechanisms (prior_fault priors) → is_done r ≡ true → is_graph g ≡ false → Err NoSuchGraph ≡ graph_fault edges priors g
  unfolding graph_fault or_else unless
  fault_7 r a b e d h = rw (a, b, ← e, d, h)

  -- none
  pub fault_none : (r : Answer) → sizes_good g.checks g.mechanisms edges ≡ true → (eqb (length priors) g.mechanisms && graph_fits edges g) ≡ true
      → r ≡ first_of g.mechanisms (prior_fault priors) → is_done r ≡ true → is_graph g ≡ true → (Ok tt) ≡ graph_fault edges priors g
  unfolding graph_fault or_else unless
  fault_none r a b e d h = rw (a, b, ← e, d, h)

  -- what it tells where it refuses nothing
  pub record GraphTold : Type 0 where
    pub few : Few g.checks g.mechanisms edges
    pub priors_many : length priors ≡ g.mechanisms
    pub fits : graph_fits edges g ≡ true
    pub long : Long edges g
    pub priors_good : (m : ℕ) → m < g.mechanisms → prior_good (get_or priors m nan) ≡ true
    pub is_graph_lem : is_graph g ≡ true

  -- and that it does
  pub graph_told : graph_fault edges priors g ≡ Ok tt → GraphTold
  unfolding graph_fault prior_fault
  graph_told h =
      let a = or_done _ _ h in
      let b = or_done _ _ a.1 in
      let c = or_done _ _ b.1 in
      let s = and_both _ _ (unless_done _ SizeAboveLimit a.0) in
      let l = and_both _ _ (unless_done _ ModelListLength b.0) in
      record {
        few = few_told _ _ _ s.0 s.1;
        priors_many = eqb-true _ _ l.0;
        fits = l.1;
        long = long_told edges g l.1;
        priors_good = λ m k. unless_done _ (BadPrior m) (first_all (prior_fault priors) g.mechanisms c.0 m k);
        is_graph_lem = unless_done _ NoSuchGraph c.1;
      }
