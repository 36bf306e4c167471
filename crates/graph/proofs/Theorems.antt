-- What holds of the calls of this crate as a whole. Assumes nothing.
use mathlib.Core.Bool.{Bool, true}
use mathlib.Core.List.{List}
use mathlib.Core.Path.{◌≡◌, refl, sym, ap, ◌∙◌}
use Prim.Native.Nat.{ℕ, ◌*◌, ◌<◌, ◌≤◌}
use native.Mathlib.Omega.{arith}
use lib.Ieee.{Float, nan, le, neg}
use lib.ListN.{length, replicate, length-replicate, get_or-replicate}
use borrow.Author.Tests.{eq-eqb, le-leb}
use Rattle.numbers.specs.Floats.{zero⁺}
use Rattle.numbers.specs.Loops.{row}
use Rattle.refusals.specs.Tests.{first_of, unless_refused}
use Rattle.refusals.specs.Refusal.{Answer}
use Rattle.std.specs.Prelude.{Ok}
use Rattle.graph_lists.specs.Graph.{Graph, graph_of, among, marked, own_incidence}
use Rattle.graph_lists.specs.Lists.{has}
use Rattle.graph_lists.specs.Model.{edges_good, graph_fits, dense_fits, prior_good, prior_fault, is_graph, BuildOutcome, build_outcome, built, build_sparse, count_edges, build_dense, graph_fault, counts_good}
use Rattle.graph_lists.specs.Steps.{Valid}
use Rattle.graph_lists.proofs.Built.{sparse_length}
use Rattle.graph_lists.proofs.DenseTests.{dense_5, DenseTold, dense_told, dense_done}
use Rattle.graph_lists.proofs.GraphTests.{graph_told}
use Rattle.graph_lists.proofs.Matrix.{matrix_edges}
use Rattle.graph_lists.proofs.Models.{GoodPriors, good_none, none_good, built_from_lem, graph_checked}
use Rattle.graph_lists.proofs.Sameness.{graph_agrees, is_graph_told, is_graph_some}
use Rattle.graph_lists.proofs.SparseTests.{Told, sparse_told}

-- ---- the lists that a builder wrote

-- where a call that answers a refuses nothing, its lists are the graph
built_lists : (a : Answer) (inc : ℕ → ℕ → Bool) (g : Graph) → (built a inc g).answer ≡ Ok tt → (built a inc g).lists ≡ graph_of g.checks g.mechanisms inc
unfolding built unless_refused
built_lists a inc g h = rw h

-- an accepted sparse model's lists are the graph of its incidences
pub sparse_lists : (edges : ℕ) (priors : List Float) (off dets : List ℕ) (g : Graph) → (build_sparse edges priors off dets g).answer ≡ Ok tt
    → (build_sparse edges priors off dets g).lists ≡ graph_of g.checks g.mechanisms (among off dets)
unfolding build_sparse
sparse_lists edges priors off dets g h = built_lists _ (among off dets) g h

-- answer and all
sparse_whole : (edges : ℕ) (priors : List Float) (off dets : List ℕ) (g : Graph) → (build_sparse edges priors off dets g).answer ≡ Ok tt
    → build_sparse edges priors off dets g ≡ build_outcome (Ok tt) (graph_of g.checks g.mechanisms (among off dets))
unfolding build_sparse built unless_refused
sparse_whole edges priors off dets g h = rw h

-- and an accepted dense model's
dense_lists : (priors : List Float) (matrix : List ℕ) (g : Graph) → (build_dense priors matrix g).answer ≡ Ok tt
    → (build_dense priors matrix g).lists ≡ graph_of g.checks g.mechanisms (marked g.mechanisms matrix)
unfolding build_dense
dense_lists priors matrix g h = built_lists _ (marked g.mechanisms matrix) g h

-- what the tests tell of an accepted sparse model
sparse_accepted : (edges : ℕ) (priors : List Float) (off dets : List ℕ) (g : Graph) → (build_sparse edges priors off dets g).answer ≡ Ok tt
    → Told g.checks g.mechanisms edges (length priors) (prior_fault priors) off dets (graph_fits edges g)
unfolding build_sparse built
sparse_accepted edges priors off dets g h = sparse_told g.checks g.mechanisms edges (length priors) (prior_fault priors) off dets (graph_fits edges g) h

-- and that its priors are good
sparse_good : (edges : ℕ) (priors : List Float) (off dets : List ℕ) (g : Graph) → (build_sparse edges priors off dets g).answer ≡ Ok tt → GoodPriors g.mechanisms priors
sparse_good edges priors off dets g h =
    let t = sparse_accepted edges priors off dets g h in
    none_good g.mechanisms priors t.lengths.numbers_many t.given_none

-- what they tell of an accepted dense model
dense_accepted : (priors : List Float) (matrix : List ℕ) (g : Graph) → (build_dense priors matrix g).answer ≡ Ok tt
    → DenseTold g.checks g.mechanisms (count_edges matrix) (length priors) (prior_fault priors) (length matrix) (graph_fits (count_edges matrix) g)
unfolding build_dense built
dense_accepted priors matrix g h = dense_told g.checks g.mechanisms (count_edges matrix) _ _ (length matrix) (graph_fits (count_edges matrix) g) h

-- and that its priors are good
dense_good : (priors : List Float) (matrix : List ℕ) (g : Graph) → (build_dense priors matrix g).answer ≡ Ok tt → GoodPriors g.mechanisms priors
dense_good priors matrix g h =
    let t = dense_accepted priors matrix g h in
    none_good g.mechanisms priors t.numbers_many t.given_none

-- ---- sparse and dense

-- Sparse and dense building give the same lists on the same incidences: where a sparse and a dense model are both accepted, and for each check and
-- mechanism within the counts the one names the pair exactly where the other marks it, the five lists are the same, whatever the priors.
pub sparse_is_dense : (edges : ℕ) (priors priors' : List Float) (off dets matrix : List ℕ) (g : Graph) → (build_sparse edges priors off dets g).answer ≡ Ok tt → (build_dense priors' matrix g).answer ≡ Ok tt
    → ((c m : ℕ) → c < g.checks → m < g.mechanisms → among off dets c m ≡ marked g.mechanisms matrix c m)
    → (build_sparse edges priors off dets g).lists ≡ (build_dense priors' matrix g).lists
sparse_is_dense edges priors priors' off dets matrix g h k e =
    sparse_lists edges priors off dets g h ∙ graph_agrees g.checks g.mechanisms _ _ e ∙ sym (dense_lists priors' matrix g k)

-- the graph has as many edges as detectors, and as the matrix has nonzero bytes
same_edges : (checks mechanisms : ℕ) (off dets matrix : List ℕ) → Valid checks mechanisms off dets → length matrix ≡ checks * mechanisms
    → ((c m : ℕ) → c < checks → m < mechanisms → among off dets c m ≡ marked mechanisms matrix c m) → count_edges matrix ≡ length dets
unfolding graph_of
same_edges checks mechanisms off dets matrix v l e =
    sym (matrix_edges checks mechanisms matrix l)
    ∙ sym (ap (λ (g : Graph). length g.check_var) (graph_agrees checks mechanisms (among off dets) (marked mechanisms matrix) e))
    ∙ sparse_length checks mechanisms off dets v

-- More than the lists: a dense model of the same counts, priors and incidences as an accepted sparse one, whose matrix has its length, is accepted too and
-- has the same outcome.
pub dense_is_sparse : (edges : ℕ) (priors : List Float) (off dets matrix : List ℕ) (g : Graph) → (build_sparse edges priors off dets g).answer ≡ Ok tt → length matrix ≡ g.checks * g.mechanisms
    → ((c m : ℕ) → c < g.checks → m < g.mechanisms → among off dets c m ≡ marked g.mechanisms matrix c m)
    → build_dense priors matrix g ≡ build_sparse edges priors off dets g
dense_is_sparse edges priors off dets matrix g h l e =
    let t = sparse_accepted edges priors off dets g h in
    let p = sparse_good edges priors off dets g h in
    let n : count_edges matrix ≡ edges = same_edges g.checks g.mechanisms off dets matrix t.valid l e ∙ t.lengths.dets_many in
    let fits : graph_fits (count_edges matrix) g ≡ true = rw n t.lengths.fits in
    let lengths : dense_fits g.checks g.mechanisms (length priors) (length matrix) ≡ true =
    rw (eq-eqb (length matrix) (g.checks * g.mechanisms) l, eq-eqb (length priors) g.mechanisms p.many) in
    let counts : counts_good g.checks g.mechanisms ≡ true = rw (le-leb g.checks 65536 t.few.checks_few, le-leb g.mechanisms 65536 t.few.mechanisms_few) in
    let small : edges_good (count_edges matrix) ≡ true = le-leb (count_edges matrix) 1048576 (omega (arith, n, t.few.edges_few)) in
    let none : (Ok tt) ≡ first_of (length priors) (prior_fault priors) = sym (ap (λ (k : ℕ). first_of k (prior_fault priors)) p.many ∙ good_none g.mechanisms priors p) in
    let tests = dense_5 g.checks g.mechanisms (count_edges matrix) _ (prior_fault priors) (length matrix) (graph_fits (count_edges matrix) g) (Ok tt) counts lengths small fits none in
    sym (dense_done priors matrix (Ok tt) (count_edges matrix) (graph_fits (count_edges matrix) g) g refl refl tests _ refl refl)
    ∙ ap (build_outcome (Ok tt)) (sym (graph_agrees g.checks g.mechanisms (among off dets) (marked g.mechanisms matrix) e))
    ∙ sym (sparse_whole edges priors off dets g h)

-- ---- the detectors' order

-- The detectors' order within a mechanism changes nothing: two accepted models of the same counts, each of whose mechanisms has the same set of detectors
-- in both, build the same lists.
pub order_free : (edges edges' : ℕ) (priors priors' : List Float) (off off' dets dets' : List ℕ) (g : Graph) → (build_sparse edges priors off dets g).answer ≡ Ok tt
    → (build_sparse edges' priors' off' dets' g).answer ≡ Ok tt → ((m d : ℕ) → m < g.mechanisms → has (row off m dets) d ≡ has (row off' m dets') d)
    → (build_sparse edges priors off dets g).lists ≡ (build_sparse edges' priors' off' dets' g).lists
unfolding among
order_free edges edges' priors priors' off off' dets dets' g h k e =
    sparse_lists edges priors off dets g h ∙ graph_agrees g.checks g.mechanisms (among off dets) (among off' dets') (λ c m x y. e m c y) ∙ sym (sparse_lists edges' priors' off' dets' g k)

-- ---- what is built passes

-- Lists that `build_sparse` wrote pass 7.
pub sparse_passes : (edges : ℕ) (priors : List Float) (off dets : List ℕ) (g : Graph) → (build_sparse edges priors off dets g).answer ≡ Ok tt → is_graph (build_sparse edges priors off dets g).lists ≡ true
sparse_passes edges priors off dets g h = is_graph_some g.checks g.mechanisms _ (among off dets) (sparse_lists edges priors off dets g h)

-- Lists that `build_dense` wrote pass 7.
pub dense_passes : (priors : List Float) (matrix : List ℕ) (g : Graph) → (build_dense priors matrix g).answer ≡ Ok tt → is_graph (build_dense priors matrix g).lists ≡ true
dense_passes priors matrix g h = is_graph_some g.checks g.mechanisms _ (marked g.mechanisms matrix) (dense_lists priors matrix g h)

-- And with the model's edges and priors they pass all of `check_graph`.
pub sparse_checked : (edges : ℕ) (priors : List Float) (off dets : List ℕ) (g : Graph) → (build_sparse edges priors off dets g).answer ≡ Ok tt
    → graph_fault edges priors (build_sparse edges priors off dets g).lists ≡ Ok tt
sparse_checked edges priors off dets g h =
    let t = sparse_accepted edges priors off dets g h in
    rw (sparse_lists edges priors off dets g h)
    (graph_checked g.checks g.mechanisms edges (among off dets) priors t.few.checks_few t.few.mechanisms_few t.few.edges_few
    (sparse_length g.checks g.mechanisms off dets t.valid ∙ t.lengths.dets_many) (sparse_good edges priors off dets g h))

-- So do those of `build_dense`, with as many edges as the matrix has nonzero bytes.
pub dense_checked : (priors : List Float) (matrix : List ℕ) (g : Graph) → (build_dense priors matrix g).answer ≡ Ok tt → graph_fault (count_edges matrix) priors (build_dense priors matrix g).lists ≡ Ok tt
dense_checked priors matrix g h =
    let t = dense_accepted priors matrix g h in
    rw (dense_lists priors matrix g h)
    (graph_checked g.checks g.mechanisms (count_edges matrix) (marked g.mechanisms matrix) priors t.few.checks_few t.few.mechanisms_few t.few.edges_few
    (matrix_edges g.checks g.mechanisms matrix t.bytes_many) (dense_good priors matrix g h))

-- ---- what passes is built

-- as many priors of positive zero
abbrev pub zeroes : ℕ → List Float
zeroes n = replicate n zero⁺

-- they pass 4
zeroes_good : (n : ℕ) → GoodPriors n (zeroes n)
unfolding prior_good le neg
zeroes_good n = record { many = length-replicate n zero⁺; good = λ m h. rw (get_or-replicate n m zero⁺ nan h) }

-- Lists that pass 7 are what a model within the limits builds: the model whose priors are zero and whose detectors are the graph's own variable lists,
-- into any lent lists g' that fit.
pub passes_built : (g g' : Graph) → is_graph g ≡ true → g'.checks ≡ g.checks → g'.mechanisms ≡ g.mechanisms → g.checks ≤ 65536 → g.mechanisms ≤ 65536 → length g.check_var ≤ 1048576
    → graph_fits (length g.check_var) g' ≡ true
    → build_sparse (length g.check_var) (zeroes g.mechanisms) g.var_offset g.var_check g' ≡ build_outcome (Ok tt) g
passes_built g g' h ec em hc hm he fit =
    let e : g ≡ graph_of g'.checks g'.mechanisms (own_incidence g) = is_graph_told g h ∙ (λ i. graph_of (sym ec i) (sym em i) (own_incidence g)) in
    built_from_lem g g' (own_incidence g) (zeroes g.mechanisms) e (omega arith) (omega arith) he (rw em (zeroes_good g.mechanisms)) fit

-- Lists and priors that `check_graph` accepts are what `build_sparse` builds from these priors and the graph's own variable lists.
pub checked_built : (edges : ℕ) (priors : List Float) (g : Graph) → graph_fault edges priors g ≡ Ok tt → build_sparse edges priors g.var_offset g.var_check g ≡ build_outcome (Ok tt) g
checked_built edges priors g h =
    let t = graph_told edges priors g h in
    let n : length g.check_var ≡ edges = t.long.check_var in
    ap (λ (k : ℕ). build_sparse k priors g.var_offset g.var_check g) (sym n)
    ∙ built_from_lem g g (own_incidence g) priors (is_graph_told g t.is_graph_lem) t.few.checks_few t.few.mechanisms_few (omega (arith, n, t.few.edges_few))
    (record { many = t.priors_many; good = t.priors_good })
    (rw n t.fits)

-- ---- one result

-- Two results that one equation allows coincide.
pub coincide {ℓ} : {A : Type ℓ} (x y z : A) → x ≡ z → y ≡ z → x ≡ y
coincide x y z p q = p ∙ sym q

-- so do two outcomes, in the answer and in the lists
outcomes : (a b : Answer) (g h : Graph) → build_outcome a g ≡ build_outcome b h → (a ≡ b) × (g ≡ h)
outcomes a b g h e = (ap (λ (o : BuildOutcome). o.answer) e, ap (λ (o : BuildOutcome). o.lists) e)

-- Two results that the contract of `build_sparse` allows coincide, the answer and the five lists.
pub sparse_once : (edges : ℕ) (priors : List Float) (off dets : List ℕ) (old : Graph) (a b : Answer) (g h : Graph) → build_outcome a g ≡ build_sparse edges priors off dets old
    → build_outcome b h ≡ build_sparse edges priors off dets old → (a ≡ b) × (g ≡ h)
sparse_once edges priors off dets old a b g h p q = outcomes a b g h (coincide _ _ _ p q)

-- Two that the contract of `build_dense` allows.
pub dense_once : (priors : List Float) (matrix : List ℕ) (old : Graph)
    (a b : Answer) (g h : Graph) → build_outcome a g ≡ build_dense priors matrix old → build_outcome b h ≡ build_dense priors matrix old → (a ≡ b) × (g ≡ h)
dense_once priors matrix old a b g h p q = outcomes a b g h (coincide _ _ _ p q)

-- Two that the contract of `count_edges` allows.
pub count_once : (matrix : List ℕ) (m n : ℕ) → m ≡ count_edges matrix → n ≡ count_edges matrix → m ≡ n
count_once matrix m n p q = coincide _ _ _ p q

-- Two that the contract of `check_graph` allows.
pub check_once : (edges : ℕ) (priors : List Float) (g : Graph) (a b : Answer) → a ≡ graph_fault edges priors g → b ≡ graph_fault edges priors g → a ≡ b
check_once edges priors g a b p q = coincide _ _ _ p q
