-- Tests 2 and 7 over six lists: over converted lists they say what those over five say, and where 7 is passed each number is its place. Assumes nothing.
use Prim.Native.Nat.{ℕ, ◌<◌}
use mathlib.Core.Path.{◌≡◌, refl, sym, ◌∙◌, ap}
use mathlib.Core.Bool.{Bool, true, false, ◌&&◌, and-false}
use mathlib.Core.List.{List}
use mathlib.Core.Logic.{◌↔◌, ⊎_elim}
use lib.Dec.{eqb}
use lib.Ieee.{Float}
use lib.ListN.{length, get_or}
use borrow.Author.Tests.{eq-eqb, ne_eqb}
use Rattle.numbers.specs.Loops.{upto}
use Rattle.numbers.proofs.Cases.{either, and_both}
use Rattle.numbers.proofs.Loops.{length_table, get_or_table, is_table}
use Rattle.std.specs.Prelude.{Ok, Err}
use Rattle.refusals.specs.declared.Refusal.TheVariants.{ModelListLength, NoSuchGraph}
use Rattle.refusals.specs.Tests.{unless, or_else, first_of}
use Rattle.graph_lists.specs.Lists.{same_list}
use Rattle.graph_lists.specs.Graph.{Graph, entries, graph_of, own_incidence}
use Rattle.graph_lists.specs.Model.{sizes_good, graph_fits, prior_fault, is_graph, graph_tests, graph_fault}
use Rattle.graph_lists.proofs.Sameness.{same_refl, same_true, is_graph_told}
use Rattle.graph_lists.proofs.SparseTests.{long_told}
use Rattle.graph_layouts.specs.Numbered.{Numbered, numbered, with_numbers, without_numbers, numbered_graph_of, numbered_incidence, numbered_fits, same_numbered, is_numbered, numbered_fault, OwnPlaces}

-- a test that another implies adds nothing to it
and_implied : (a b : Bool) → (a ≡ true → b ≡ true) → (a && b) ≡ a
and_implied true b h = h refl
and_implied false b h = refl

-- the check entries of lists that pass 7 are those of the graph of what they tell
entries_told : (g : Graph) → is_graph g ≡ true → g.check_var ≡ entries g.checks g.mechanisms (own_incidence g)
unfolding graph_of
entries_told g h = ap (λ (k : Graph). k.check_var) (is_graph_told g h)

-- ---- converted lists

module _ (g : Graph) where
  -- 7
  pub is_agrees : is_numbered (with_numbers g) ≡ is_graph g
  unfolding is_numbered same_numbered numbered_graph_of numbered_incidence is_graph own_incidence
  is_agrees =
      and_implied _ _ (λ (h : is_graph g ≡ true).
      ap (λ (xs : List ℕ). same_list (upto (length g.check_var)) (upto (length xs))) (sym (entries_told g h)) ∙ same_refl (upto (length g.check_var)))

  -- 2
  pub fits_agrees : (edges : ℕ) → numbered_fits edges (with_numbers g) ≡ graph_fits edges g
  unfolding numbered_fits
  fits_agrees edges =
      and_implied (graph_fits edges g) _ (λ h. eq-eqb _ _ (length_table (length g.check_var) (λ (i : ℕ). i) ∙ (long_told edges g h).check_var))

  -- so 1, 2, 4 and 7
  pub tests_agree : (edges : ℕ) (priors : List Float) → numbered_fault edges priors (with_numbers g) ≡ graph_fault edges priors g
  unfolding numbered_fault graph_fault
  tests_agree edges priors =
      ap (λ (b : Bool). graph_tests g.checks g.mechanisms edges priors b (is_numbered (with_numbers g))) (fits_agrees edges)
      ∙ ap (graph_tests g.checks g.mechanisms edges priors (graph_fits edges g)) is_agrees

-- ---- lists that pass

module _ (o : Numbered) where
  -- 7 over six lists tells 7 over five, and all the numbers
  pub seven_told : is_numbered o ≡ true → (is_graph (without_numbers o) ≡ true) × (o.check_message ≡ upto (length o.check_var))
  unfolding is_numbered same_numbered numbered_graph_of numbered_incidence is_graph own_incidence
  seven_told h =
      let w = and_both _ _ h in
      (w.0, same_true _ _ w.1 ∙ ap (λ (xs : List ℕ). upto (length xs)) (sym (entries_told (without_numbers o) w.0)))

  -- numbers that are their own places are those of the conversion
  own_places : OwnPlaces o → o.check_message ≡ upto (length o.check_var)
  own_places p = is_table (length o.check_var) (λ (i : ℕ). i) o.check_message p.many p.own

  -- and the other way
  places_own : o.check_message ≡ upto (length o.check_var) → OwnPlaces o
  places_own e =
      record {
        many = ap length e ∙ length_table (length o.check_var) (λ (i : ℕ). i);
        own = λ i l. ap (λ (xs : List ℕ). get_or xs i 0) e ∙ get_or_table (length o.check_var) (λ (j : ℕ). j) i 0 l;
      }

  -- so there and back is the same
  pub back_again : is_numbered o ≡ true → with_numbers (without_numbers o) ≡ o
  back_again h = ap (numbered (without_numbers o)) (sym (seven_told h).1)

  -- 7 over six lists is 7 over five, with each number its place
  pub seven_is : (is_numbered o ≡ true) ↔ ((is_graph (without_numbers o) ≡ true) × OwnPlaces o)
  seven_is = (λ h. ((seven_told h).0, places_own (seven_told h).1), λ p. same p)
    where
      same : (is_graph (without_numbers o) ≡ true) × OwnPlaces o → is_numbered o ≡ true
      same p =
          ap (λ (ns : List ℕ). is_numbered (numbered (without_numbers o) ns)) (own_places p.1)
          ∙ is_agrees (without_numbers o)
          ∙ p.0

-- ---- lists that do not

module _ (edges : ℕ) (priors : List Float) (o : Numbered) (sizes : sizes_good o.checks o.mechanisms edges ≡ true) where
  -- a list of numbers of another length does not fit
  length_unfit : (length o.check_message ≡ edges → ⊥) → (eqb (length priors) o.mechanisms && numbered_fits edges o) ≡ false
  unfolding numbered_fits
  length_unfit h = rw (ne_eqb _ _ h, and-false (graph_fits edges (without_numbers o))) (and-false (eqb (length priors) o.mechanisms))

  -- which is 2
  pub length_fault : (length o.check_message ≡ edges → ⊥) → numbered_fault edges priors o ≡ Err ModelListLength
  unfolding numbered_fault or_else unless
  length_fault h = rw (sizes, length_unfit h)

  -- lists that fit have a check entry for each edge
  entries_fit : (eqb (length priors) o.mechanisms && numbered_fits edges o) ≡ true → length o.check_var ≡ edges
  unfolding numbered_fits
  entries_fit fit =
      let w = (and_both (eqb (length priors) o.mechanisms) (numbered_fits edges o) fit).1 in
      (long_told edges (without_numbers o) (and_both (graph_fits edges (without_numbers o)) _ w).0).check_var

  -- past 2 and 4, another number is 7
  pub number_fault : (eqb (length priors) o.mechanisms && numbered_fits edges o) ≡ true → first_of o.mechanisms (prior_fault priors) ≡ Ok tt
      → (i : ℕ) → i < edges → (get_or o.check_message i 0 ≡ i → ⊥) → numbered_fault edges priors o ≡ Err NoSuchGraph
  unfolding numbered_fault or_else unless
  number_fault fit good i l h =
      let no : is_numbered o ≡ false = ⊎_elim (λ k. absurd (h (((seven_is o).0 k).1.own i (rw (entries_fit fit) l)))) (λ k. k) (either (is_numbered o)) in
      rw (sizes, fit, good, no)
