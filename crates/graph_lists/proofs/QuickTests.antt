-- The quick test says the same as the plain one. Assumes nothing.
use mathlib.Core.Bool.{Bool, true, true≢false}
use mathlib.Core.List.{List}
use mathlib.Core.Logic.{⊎_elim}
use mathlib.Core.Path.{◌≡◌, refl, sym, ap, ◌∙◌}
use Prim.Native.Nat.{ℕ, zero, suc, ◌<◌, ◌≤◌}
use native.Mathlib.Omega.{arith}
use lib.ListN.{length, get_or}
use borrow.Author.Tests.{eq-eqb, le-leb, ltb-true, leb-true, eqb-true, lt-ltb}
use Rattle.numbers.proofs.Cases.{either, and_both}
use Rattle.numbers.proofs.Loops.{every_at, every_true}
use Rattle.numbers.specs.Loops.{row}
use Rattle.graph_lists.specs.Graph.{Graph, entries, graph_of, own_incidence}
use Rattle.graph_lists.specs.Model.{rising, offsets_good, is_graph}
use Rattle.graph_lists.specs.QuickTest.{low, step_good, rises_below, met_good, entry_good, entries_good, check_good, var_good, graph_test}
use Rattle.graph_lists.specs.Sound.{Offsets, Long, Rising}
use Rattle.graph_lists.proofs.Cuts.{Met}
use Rattle.graph_lists.proofs.ModelTests.{offsets_told}
use Rattle.graph_lists.proofs.Passes.{Passes, passes_graph, graph_long, graph_passes}
use Rattle.graph_lists.proofs.Rising.{steps_rise}
use Rattle.graph_lists.proofs.Sameness.{is_graph_told, is_graph_some}

-- ---- the quick test

-- a step that passes rises and stays below n
step_told : (n : ℕ) (xs : List ℕ) (i : ℕ) → step_good n xs i ≡ true → (low xs i ≤ get_or xs i 0) × (get_or xs i 0 < n)
unfolding step_good
step_told n xs i h = let w = and_both _ _ h in (leb-true _ _ w.0, ltb-true _ _ w.1)

-- a list that passes rises
pub rises_told : (n : ℕ) (xs : List ℕ) → rises_below n xs ≡ true → Rising n xs
unfolding rises_below low
rises_told n xs h =
    record {
      below = λ i l. (step_told n xs i (every_at (length xs) (step_good n xs) h i l)).1;
      rises = steps_rise xs (length xs) (λ i l. (step_told n xs (suc i) (every_at (length xs) (step_good n xs) h (suc i) l)).0);
    }

-- a list that rises passes
pub rises_test : (n : ℕ) (xs : List ℕ) → Rising n xs → rises_below n xs ≡ true
unfolding rises_below step_good low
rises_test n xs r = every_true (length xs) (step_good n xs) go
  where
    go : (i : ℕ) → i < length xs → step_good n xs i ≡ true
    go zero l = rw (le-leb 0 (get_or xs 0 0) (omega arith), lt-ltb (get_or xs 0 0) n (r.below 0 l))
    go (suc i) l = rw (le-leb (suc (get_or xs i 0)) (get_or xs (suc i) 0) (r.rises i (suc i) (omega arith) l), lt-ltb (get_or xs (suc i) 0) n (r.below (suc i) l))

-- offsets that cut a list pass 3
pub offsets_test : (rows n : ℕ) (off : List ℕ) → Offsets rows n off → offsets_good rows n off ≡ true
unfolding offsets_good rising
offsets_test rows n off o = rw (eq-eqb _ _ o.starts, every_true rows (rising off) (λ r l. le-leb _ _ (o.rises r l)), eq-eqb _ _ o.ends)

-- a message that passes lies in its check and names its mechanism
met_told : (co cv : List ℕ) (v c m : ℕ) → met_good co cv v c m ≡ true → Met co cv v c m
unfolding met_good
met_told co cv v c m h =
    let a = and_both _ _ h in
    let b = and_both _ _ a.1 in
    record { from = leb-true _ _ a.0; to = ltb-true _ _ b.0; is = eqb-true _ _ b.1 }

-- and the other way
met_test : (co cv : List ℕ) (v c m : ℕ) → Met co cv v c m → met_good co cv v c m ≡ true
unfolding met_good
met_test co cv v c m w = rw (le-leb _ _ w.from, lt-ltb _ _ w.to, eq-eqb _ _ w.is)

-- what a variable's entries are like, where they pass
var_told : (g : Graph) (v : ℕ) → var_good g v ≡ true
    → Rising g.checks (row g.var_offset v g.var_check)
    × ((i : ℕ) → i < length (row g.var_offset v g.var_check)
    → Met g.check_offset g.check_var v (get_or (row g.var_offset v g.var_check) i 0) (get_or (row g.var_offset v g.var_message) i 0))
unfolding var_good entries_good entry_good
var_told g v h =
    let cs = row g.var_offset v g.var_check in
    let w = and_both _ _ h in (
      rises_told g.checks cs w.0,
      λ i l. met_told g.check_offset g.check_var v _ _ (every_at (length cs) (entry_good g.check_offset g.check_var v cs
          (row g.var_offset v g.var_message)) w.1 i l),
    )

-- lists that pass the quick test have what it asks
test_told : (edges : ℕ) (g : Graph) → Long edges g → graph_test edges g ≡ true → Passes edges g
unfolding graph_test check_good
test_told edges g f h =
    let a = and_both _ _ h in
    let b = and_both _ _ a.1 in
    let c = and_both _ _ b.1 in
    record {
      check_cut = offsets_told g.checks edges g.check_offset f.check_offset a.0;
      check_rises = λ k l. rises_told g.mechanisms _ (every_at g.checks (check_good g.mechanisms g.check_offset g.check_var) b.0 k l);
      var_cut = offsets_told g.mechanisms edges g.var_offset f.var_offset c.0;
      var_rises = λ v l. (var_told g v (every_at g.mechanisms (var_good g) c.1 v l)).0;
      var_meets = λ v i l m. (var_told g v (every_at g.mechanisms (var_good g) c.1 v l)).1 i m;
    }

-- a check's entries that rise pass
check_good_lem : (g : Graph) (c : ℕ) → Rising g.mechanisms (row g.check_offset c g.check_var) → check_good g.mechanisms g.check_offset g.check_var c ≡ true
unfolding check_good
check_good_lem g c r = rises_test g.mechanisms _ r

-- an entry in its check passes
entry_good_lem : (co cv : List ℕ) (v : ℕ) (cs ms : List ℕ) (i : ℕ) → Met co cv v (get_or cs i 0) (get_or ms i 0) → entry_good co cv v cs ms i ≡ true
unfolding entry_good
entry_good_lem co cv v cs ms i w = met_test co cv v _ _ w

-- a variable's entries pass
var_good_lem : (g : Graph) (v : ℕ) → Rising g.checks (row g.var_offset v g.var_check)
    → ((i : ℕ) → i < length (row g.var_offset v g.var_check)
    → Met g.check_offset g.check_var v (get_or (row g.var_offset v g.var_check) i 0) (get_or (row g.var_offset v g.var_message) i 0))
    → var_good g v ≡ true
unfolding var_good entries_good
var_good_lem g v r w =
    rw (rises_test g.checks (row g.var_offset v g.var_check) r) (every_true _ _ (λ i l. entry_good_lem g.check_offset g.check_var v (row g.var_offset v
    g.var_check) (row g.var_offset v g.var_message) i (w i l)))

-- how many edges a graph has
own_length : (checks mechanisms : ℕ) (inc : ℕ → ℕ → Bool) → length (graph_of checks mechanisms inc).check_var ≡ length (entries checks mechanisms inc)
unfolding graph_of
own_length checks mechanisms inc = refl

-- every graph has the lengths that fit
pub all_long : (checks mechanisms edges : ℕ) (g : Graph) (inc : ℕ → ℕ → Bool) → length g.check_var ≡ edges → g ≡ graph_of checks mechanisms inc → Long edges g
all_long checks mechanisms edges g inc l e = rw (sym l ∙ ap (λ (h : Graph). length h.check_var) e ∙ own_length checks mechanisms inc, e) (graph_long checks mechanisms inc)

-- and passes
pub all_pass : (checks mechanisms edges : ℕ) (g : Graph) (inc : ℕ → ℕ → Bool) → length g.check_var ≡ edges → g ≡ graph_of checks mechanisms inc → Passes edges g
all_pass checks mechanisms edges g inc l e = rw (sym l ∙ ap (λ (h : Graph). length h.check_var) e ∙ own_length checks mechanisms inc, e) (graph_passes checks mechanisms inc)

-- lists that have what the quick test asks pass it
test_true : (edges : ℕ) (g : Graph) → Passes edges g → graph_test edges g ≡ true
unfolding graph_test
test_true edges g t =
    rw (
      offsets_test g.checks edges g.check_offset t.check_cut,
      every_true g.checks (check_good g.mechanisms g.check_offset g.check_var) (λ c l. check_true c l),
      offsets_test g.mechanisms edges g.var_offset t.var_cut,
      every_true g.mechanisms (var_good g) (λ v l. var_true v l),
    )
  where
    check_true : (c : ℕ) → c < g.checks → check_good g.mechanisms g.check_offset g.check_var c ≡ true
    check_true c l = check_good_lem g c (t.check_rises c l)

    var_true : (v : ℕ) → v < g.mechanisms → var_good g v ≡ true
    var_true v l = var_good_lem g v (t.var_rises v l) (λ i m. t.var_meets v i l m)

-- ---- one and the same

-- the quick test says what 7 says
pub test_is : (edges : ℕ) (g : Graph) → Long edges g → graph_test edges g ≡ is_graph g
test_is edges g f =
    ⊎_elim
    (λ e. e ∙ sym (is_graph_some g.checks g.mechanisms g _ (passes_graph edges g f (test_told edges g f e))))
    (λ e.
    ⊎_elim
    (λ k. absurd (true≢false (sym (test_true edges g (passes (is_graph_told g k))) ∙ e)))
    (λ k. e ∙ sym k)
    (either (is_graph g)))
    (either (graph_test edges g))
  where
    passes : g ≡ graph_of g.checks g.mechanisms (own_incidence g) → Passes edges g
    passes e = all_pass g.checks g.mechanisms edges g (own_incidence g) f.check_var e
