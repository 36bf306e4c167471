-- Every graph within the limits is built from some model: its own variable lists, read as detectors. So 7 refuses just the lists that no model within the
-- limits builds. Assumes nothing.
use mathlib.Core.Bool.{Bool, true, ◌&&◌}
use mathlib.Core.List.{List}
use mathlib.Core.Path.{◌≡◌, refl, sym, ap, ◌∙◌}
use Prim.Native.Nat.{ℕ, suc, ◌<◌, ◌≤◌}
use lib.Dec.{eqb}
use lib.Ieee.{Float, nan}
use lib.ListN.{length, get_or}
use borrow.Author.Tests.{eq-eqb, le-leb}
use Rattle.numbers.specs.Loops.{row}
use Rattle.refusals.proofs.Tests.{unless_done, first_all, first_none}
use Rattle.refusals.specs.Tests.{unless, or_else, first_of}
use Rattle.std.specs.Prelude.{Ok}
use Rattle.refusals.specs.declared.Refusal.TheVariants.{BadPrior}
use Rattle.graph_lists.specs.Graph.{Graph, mechanisms_of, flipped, checks_of, entries, graph_of, among}
use Rattle.graph_lists.specs.Lists.{joined, offsets}
use Rattle.graph_lists.specs.Model.{graph_fits, offsets_good, prior_good, prior_fault, detector_fault, mechanism_fault, build_outcome, build_sparse, graph_fault, sizes_good, sparse_fits, sparse_fault, mechanism_test}
use Rattle.graph_lists.specs.Sound.{Rising}
use Rattle.graph_lists.proofs.Built.{length_offsets, graph_among}
use Rattle.graph_lists.proofs.GraphTests.{fault_none}
use Rattle.graph_lists.proofs.ModelTests.{detector_fine}
use Rattle.graph_lists.proofs.Passes.{graph_length, graph_var_cut, var_parts_rise}
use Rattle.graph_lists.proofs.QuickTests.{offsets_test, all_long}
use Rattle.graph_lists.proofs.Rising.{above_new}
use Rattle.graph_lists.proofs.Sameness.{graph_agrees, is_graph_some}
use Rattle.graph_lists.proofs.SparseTests.{sparse_4, long_fits, sparse_done}

-- rising detectors and a good prior pass 4, 5 and 6
mechanism_none : (checks : ℕ) (priors : List Float) (off dets : List ℕ) (m : ℕ) → prior_good (get_or priors m nan) ≡ true → Rising checks (row off m dets)
    → mechanism_fault checks (prior_fault priors) off dets m ≡ Ok tt
unfolding mechanism_fault mechanism_test prior_fault or_else unless
mechanism_none checks priors off dets m p r =
    let ds = row off m dets in
    rw p (first_none (detector_fault checks m ds) (length ds) (λ i l. sym (detector_fine checks m ds i (get_or ds i 0) refl (r.below i l) (above_new ds i l (λ j k. r.rises j i k l)))))

-- sizes within the limits
sizes_few : (checks mechanisms edges : ℕ) → checks ≤ 65536 → mechanisms ≤ 65536 → edges ≤ 1048576 → sizes_good checks mechanisms edges ≡ true
sizes_few checks mechanisms edges a b c = rw (le-leb checks 65536 a, le-leb mechanisms 65536 b, le-leb edges 1048576 c)

-- a model's lengths that fit
lengths_fit : (mechanisms edges p o d : ℕ) (fit : Bool) → p ≡ mechanisms → o ≡ suc mechanisms → d ≡ edges → fit ≡ true → (sparse_fits mechanisms edges p o d && fit) ≡ true
lengths_fit mechanisms edges p o d fit a b c e = rw (eq-eqb p mechanisms a, eq-eqb o (suc mechanisms) b, eq-eqb d edges c, e)

-- priors that pass 4
pub record GoodPriors (mechanisms : ℕ) (priors : List Float) : Type 0 where
  pub many : length priors ≡ mechanisms
  pub good : (m : ℕ) → m < mechanisms → prior_good (get_or priors m nan) ≡ true

-- none of them is refused
pub good_none : (mechanisms : ℕ) (priors : List Float) → GoodPriors mechanisms priors → first_of mechanisms (prior_fault priors) ≡ Ok tt
unfolding prior_fault unless
good_none mechanisms priors p = first_none (prior_fault priors) mechanisms (λ m h. rw (p.good m h))

-- priors none of which is refused are good
pub none_good : (mechanisms : ℕ) (priors : List Float) → length priors ≡ mechanisms → first_of mechanisms (prior_fault priors) ≡ Ok tt → GoodPriors mechanisms priors
unfolding prior_fault
none_good mechanisms priors l h = record { many = l; good = λ m k. unless_done _ (BadPrior m) (first_all (prior_fault priors) mechanisms h m k) }

-- the incidences that a graph's variable lists tell are the graph's own
back : (checks mechanisms : ℕ) (inc : ℕ → ℕ → Bool) (c m : ℕ) → c < checks → m < mechanisms
    → among (offsets mechanisms (checks_of checks inc)) (joined mechanisms (checks_of checks inc)) c m ≡ inc c m
unfolding entries mechanisms_of checks_of flipped
back checks mechanisms inc c m h l = graph_among mechanisms checks (flipped inc) m c l h

-- so they build it
module _ (inc : ℕ → ℕ → Bool) (priors : List Float) (old : Graph) (hc : old.checks ≤ 65536) (hm : old.mechanisms ≤ 65536)
    (he : length (entries old.checks old.mechanisms inc) ≤ 1048576) (p : GoodPriors old.mechanisms priors)
    (fit : graph_fits (length (entries old.checks old.mechanisms inc)) old ≡ true) where
  -- the graph's variable offsets pass 3
  cut : offsets_good old.mechanisms (length (joined old.mechanisms (checks_of old.checks inc))) (offsets old.mechanisms (checks_of old.checks inc)) ≡ true
  cut = offsets_test old.mechanisms _ _ (rw (← (graph_length old.checks old.mechanisms inc)) (graph_var_cut old.checks old.mechanisms inc))

  -- each of its mechanisms passes 4, 5 and 6
  none : (m : ℕ) → m < old.mechanisms
      → mechanism_fault old.checks (prior_fault priors) (offsets old.mechanisms (checks_of old.checks inc)) (joined old.mechanisms (checks_of old.checks inc)) m ≡ Ok tt
  none m h = mechanism_none old.checks priors _ _ m (p.good m h) (var_parts_rise old.checks old.mechanisms inc m h)

  -- so the tests pass
  passed_all : (Ok tt)
      ≡ sparse_fault old.checks old.mechanisms (length (entries old.checks old.mechanisms inc)) (length priors) (prior_fault priors)
      (offsets old.mechanisms (checks_of old.checks inc)) (joined old.mechanisms (checks_of old.checks inc)) true
  passed_all =
      sparse_4 old.checks old.mechanisms _ _ (prior_fault priors) _ _ true (Ok tt)
      (sizes_few old.checks old.mechanisms (length (entries old.checks old.mechanisms inc)) hc hm he)
      (lengths_fit old.mechanisms (length (entries old.checks old.mechanisms inc)) _ _ _ true p.many (length_offsets old.mechanisms _) (sym
      (graph_length old.checks old.mechanisms inc)) refl)
      cut
      (sym (first_none _ old.mechanisms none))

  -- and the model builds the graph
  pub some_model : build_sparse (length (entries old.checks old.mechanisms inc)) priors (offsets old.mechanisms (checks_of old.checks inc)) (joined
      old.mechanisms (checks_of old.checks inc)) old
      ≡ build_outcome (Ok tt) (graph_of old.checks old.mechanisms inc)
  some_model =
      sym (sparse_done _ priors _ _ (Ok tt) true old (sym fit) passed_all _ refl refl)
      ∙ ap (build_outcome (Ok tt)) (graph_agrees old.checks old.mechanisms _ inc (λ c m h l. back old.checks old.mechanisms inc c m h l))

-- a graph's own lists as the model
pub built_from_lem : (g old : Graph) (inc : ℕ → ℕ → Bool) (priors : List Float) → g ≡ graph_of old.checks old.mechanisms inc → old.checks ≤ 65536 → old.mechanisms ≤ 65536
    → length g.check_var ≤ 1048576 → GoodPriors old.mechanisms priors → graph_fits (length g.check_var) old ≡ true
    → build_sparse (length g.check_var) priors g.var_offset g.var_check old ≡ build_outcome (Ok tt) g
unfolding graph_of
built_from_lem g old inc priors e hc hm he p fit =
    let n : length g.check_var ≡ length (entries old.checks old.mechanisms inc) = ap (λ (x : Graph). length x.check_var) e in
    ap (λ (x : Graph). build_sparse (length x.check_var) priors x.var_offset x.var_check old) e
    ∙ some_model inc priors old hc hm (rw n at he) p (rw n at fit)
    ∙ ap (build_outcome (Ok tt)) (sym e)

-- the graph of any incidence within the limits passes the tests of `check_graph`
pub graph_checked : (checks mechanisms edges : ℕ) (inc : ℕ → ℕ → Bool) (priors : List Float) → checks ≤ 65536 → mechanisms ≤ 65536 → edges ≤ 1048576
    → length (entries checks mechanisms inc) ≡ edges → GoodPriors mechanisms priors → graph_fault edges priors (graph_of checks mechanisms inc) ≡ Ok tt
unfolding graph_of
graph_checked checks mechanisms edges inc priors hc hm he n p =
    let g : Graph = graph_of checks mechanisms inc in
    let fits : (eqb (length priors) mechanisms && graph_fits edges (graph_of checks mechanisms inc)) ≡ true =
    rw (eq-eqb (length priors) mechanisms p.many, long_fits edges (graph_of checks mechanisms inc) (all_long checks mechanisms edges (graph_of checks mechanisms inc) inc n refl)) in
    sym (fault_none edges priors (graph_of checks mechanisms inc) (Ok tt)
    (sizes_few checks mechanisms edges hc hm he) fits (sym (good_none mechanisms priors p)) refl
    (is_graph_some checks mechanisms (graph_of checks mechanisms inc) inc refl))
