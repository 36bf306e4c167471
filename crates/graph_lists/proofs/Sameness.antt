-- Equal lists and equal graphs as tests, and that a graph depends on its incidences within range alone: so 7 says that some incidences give these lists.
-- Assumes nothing.
use mathlib.Core.Bool.{Bool, true, false≢true}
use mathlib.Core.List.{List, [], ◌∷◌}
use mathlib.Core.Path.{◌≡◌, refl, ap, ◌∙◌}
use Prim.Native.Nat.{ℕ, ◌<◌}
use lib.ListN.{length}
use borrow.Author.Tests.{eq-eqb, eqb-true}
use Rattle.numbers.proofs.Cases.{and_both}
use Rattle.graph_lists.specs.Graph.{Graph, graph, mechanisms_of, flipped, checks_of, entries, graph_of, among, own_incidence}
use Rattle.graph_lists.specs.Lists.{joined, offsets, places, same_list}
use Rattle.graph_lists.specs.Model.{same_graph, is_graph}
use Rattle.graph_lists.proofs.Built.{offsets_same, graph_among}
use Rattle.graph_lists.proofs.Passing.{passing_same}
use Rattle.graph_lists.proofs.Rows.{joined_same}

-- graphs of the same counts with the same lists
pub graph_same : (k n : ℕ) (a b c d e a' b' c' d' e' : List ℕ) → a ≡ a' → b ≡ b' → c ≡ c' → d ≡ d' → e ≡ e' → graph k n a b c d e ≡ graph k n a' b' c' d' e'
graph_same k n a b c d e a' b' c' d' e' p q r s t = rw (p, q, r, s, t)

-- incidences that agree give a check the same mechanisms
mechanisms_same : (checks mechanisms : ℕ) (i j : ℕ → ℕ → Bool) → ((c m : ℕ) → c < checks → m < mechanisms → i c m ≡ j c m) →
    (c : ℕ) → c < checks → mechanisms_of mechanisms i c ≡ mechanisms_of mechanisms j c
unfolding mechanisms_of
mechanisms_same checks mechanisms i j e c h = passing_same mechanisms (i c) (j c) (λ m l. e c m h l)

-- and a mechanism the same checks
checks_same : (checks mechanisms : ℕ) (i j : ℕ → ℕ → Bool) → ((c m : ℕ) → c < checks → m < mechanisms → i c m ≡ j c m) → (m : ℕ) → m < mechanisms → checks_of checks i m ≡ checks_of checks j m
unfolding checks_of flipped
checks_same checks mechanisms i j e m h = passing_same checks _ _ (λ c l. e c m l h)

-- so the same check entries
entries_same : (checks mechanisms : ℕ) (i j : ℕ → ℕ → Bool) → ((c : ℕ) → c < checks → mechanisms_of mechanisms i c ≡ mechanisms_of mechanisms j c) → entries
    checks mechanisms i ≡ entries checks mechanisms j
unfolding entries
entries_same checks mechanisms i j e = joined_same checks _ _ e

-- ---- the graph depends on the incidences within range alone

-- the same graph
pub graph_agrees : (checks mechanisms : ℕ) (i j : ℕ → ℕ → Bool) → ((c m : ℕ) → c < checks → m < mechanisms → i c m ≡ j c m) → graph_of checks mechanisms i ≡ graph_of checks mechanisms j
unfolding graph_of
graph_agrees checks mechanisms i j e = graph_same _ _ _ _ _ _ _ _ _ _ _ _ cv co vc (ap (λ (x : List ℕ). joined mechanisms (places x)) cv) vo
  where
    cs : (c : ℕ) → c < checks → mechanisms_of mechanisms i c ≡ mechanisms_of mechanisms j c
    cs c h = mechanisms_same checks mechanisms i j e c h

    vs : (m : ℕ) → m < mechanisms → checks_of checks i m ≡ checks_of checks j m
    vs m h = checks_same checks mechanisms i j e m h

    cv : entries checks mechanisms i ≡ entries checks mechanisms j
    cv = entries_same checks mechanisms i j cs

    co : offsets checks (mechanisms_of mechanisms i) ≡ offsets checks (mechanisms_of mechanisms j)
    co = offsets_same checks _ _ (λ c h. ap length (cs c h))

    vc : joined mechanisms (checks_of checks i) ≡ joined mechanisms (checks_of checks j)
    vc = joined_same mechanisms _ _ vs

    vo : offsets mechanisms (checks_of checks i) ≡ offsets mechanisms (checks_of checks j)
    vo = offsets_same mechanisms _ _ (λ m h. ap length (vs m h))

-- ---- equality of lists, as a test

-- a list is the same as itself
pub same_refl : (xs : List ℕ) → same_list xs xs ≡ true
unfolding same_list
same_refl [] = refl
same_refl (x ∷ xs) = rw (eq-eqb x x refl, same_refl xs)

-- lists that pass as the same are equal
pub same_true : (xs ys : List ℕ) → same_list xs ys ≡ true → xs ≡ ys
unfolding same_list
same_true [] [] h = refl
same_true [] (y ∷ ys) h = absurd (false≢true h)
same_true (x ∷ xs) [] h = absurd (false≢true h)
same_true (x ∷ xs) (y ∷ ys) h = let w = and_both _ _ h in rw (eqb-true x y w.0, same_true xs ys w.1)

-- a graph is the same as itself
graph_refl : (g : Graph) → same_graph g g ≡ true
unfolding same_graph
graph_refl g = rw (same_refl g.check_var, same_refl g.check_offset, same_refl g.var_check, same_refl g.var_message, same_refl g.var_offset)

-- lists that pass as those of a graph are equal to them
graph_true : (g : Graph) (inc : ℕ → ℕ → Bool) → same_graph g (graph_of g.checks g.mechanisms inc) ≡ true → g ≡ graph_of g.checks g.mechanisms inc
unfolding same_graph graph_of
graph_true g inc e =
    let a = and_both _ _ e in
    let b = and_both _ _ a.1 in
    let c = and_both _ _ b.1 in
    let d = and_both _ _ c.1 in
    graph_same _ _ _ _ _ _ _ _ _ _ _ _ (same_true _ _ a.0) (same_true _ _ b.0) (same_true _ _ c.0) (same_true _ _ d.0) (same_true _ _ d.1)

-- ---- 7 says that some incidences give these lists

-- lists that pass 7 are the graph of what they tell
pub is_graph_told : (g : Graph) → is_graph g ≡ true → g ≡ graph_of g.checks g.mechanisms (own_incidence g)
unfolding is_graph
is_graph_told g h = graph_true g _ h

-- a graph tells its incidences
pub tells : (checks mechanisms : ℕ) (inc : ℕ → ℕ → Bool) (c m : ℕ) → c < checks → m < mechanisms → own_incidence (graph_of checks mechanisms inc) c m ≡ inc c m
unfolding own_incidence among graph_of
tells checks mechanisms inc c m h l = graph_among checks mechanisms inc c m h l

-- so it passes 7
is_graph_own : (checks mechanisms : ℕ) (inc : ℕ → ℕ → Bool) → is_graph (graph_of checks mechanisms inc) ≡ true
unfolding is_graph graph_of
is_graph_own checks mechanisms inc =
    ap (same_graph (graph_of checks mechanisms inc)) (graph_agrees checks mechanisms _ inc (tells checks mechanisms inc)) ∙ graph_refl (graph_of checks mechanisms inc)

-- and so do lists that are some graph
pub is_graph_some : (checks mechanisms : ℕ) (g : Graph) (inc : ℕ → ℕ → Bool) → g ≡ graph_of checks mechanisms inc → is_graph g ≡ true
is_graph_some checks mechanisms g inc e = rw e (is_graph_own checks mechanisms inc)
