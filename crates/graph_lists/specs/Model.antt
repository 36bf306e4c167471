-- Models and lent graph lists: refusals 1 to 7 of docs/REFERENCE.md in their order, and what each public call of `graph` answers and leaves in its lists.
-- Definitions only. Assumes nothing.
use Rattle.std.specs.Prelude.{ℕ, suc, ◌*◌, Bool, not, ◌&&◌, cond, List, [], ◌∷◌, eqb, leb, ltb, Float, length, get_or, take}
use Rattle.std.specs.Float.{nan}
use Rattle.std.specs.Float.Ieee.{neg, le}
use Rattle.numbers.specs.Limits.{max_checks, max_mechanisms, max_edges}
use Rattle.numbers.specs.Floats.{saturation}
use Rattle.numbers.specs.Loops.{every, row}
use Rattle.refusals.specs.declared.Refusal.TheVariants.{SizeAboveLimit, ModelListLength, BadDetectorOffsets, BadPrior, DetectorOutOfRange, DetectorRepeated, NoSuchGraph}
use Rattle.refusals.specs.Refusal.{Answer}
use Rattle.refusals.specs.Tests.{unless, or_else, first_of, unless_refused}
use Rattle.graph_lists.specs.Lists.{has, same_list}
use Rattle.graph_lists.specs.Graph.{Graph, graph_of, among, marked, own_incidence}

-- ---- 1: sizes

-- checks and mechanisms at most 65,536 each
abbrev pub counts_good : ℕ → ℕ → Bool
counts_good checks mechanisms = leb checks max_checks && leb mechanisms max_mechanisms

-- edges at most 1,048,576
abbrev pub edges_good : ℕ → Bool
edges_good edges = leb edges max_edges

-- all three
abbrev pub sizes_good : ℕ → ℕ → ℕ → Bool
sizes_good checks mechanisms edges = counts_good checks mechanisms && edges_good edges

-- ---- 2: lengths

-- the five graph lists have these lengths
abbrev pub graph_lengths : ℕ → ℕ → ℕ → ℕ → ℕ → ℕ → ℕ → ℕ → Bool
graph_lengths checks mechanisms edges cv co vc vm vo =
    eqb cv edges && (eqb co (suc checks) && (eqb vc edges && (eqb vm edges && eqb vo (suc mechanisms))))

-- those of g have the lengths of a graph with this many edges
unfoldable pub graph_fits : ℕ → Graph → Bool
graph_fits edges g =
    graph_lengths g.checks g.mechanisms edges (length g.check_var) (length g.check_offset) (length g.var_check) (length g.var_message) (length g.var_offset)

-- a sparse model's three lists have these lengths; `numbers` is that of the priors or probabilities
abbrev pub sparse_fits : ℕ → ℕ → ℕ → ℕ → ℕ → Bool
sparse_fits mechanisms edges numbers off dets = eqb numbers mechanisms && (eqb off (suc mechanisms) && eqb dets edges)

-- a dense model's two
abbrev pub dense_fits : ℕ → ℕ → ℕ → ℕ → Bool
dense_fits checks mechanisms numbers bytes = eqb bytes (checks * mechanisms) && eqb numbers mechanisms

-- ---- 3: detector offsets

-- offset i is at most offset i + 1
unfoldable pub rising : List ℕ → ℕ → Bool
rising off i = leb (get_or off i 0) (get_or off (suc i) 0)

-- n offsets and one start at 0, don't fall, and end at `end`
unfoldable pub offsets_good : ℕ → ℕ → List ℕ → Bool
offsets_good n end off = eqb (get_or off 0 0) 0 && (every n (rising off) && eqb (get_or off n 0) end)

-- ---- 4, 5 and 6: mechanism by mechanism

-- from -30 to 30, and no NaN
unfoldable pub prior_good : Float → Bool
prior_good x = le (neg saturation) x && le x saturation

-- 4 for the mechanism m
unfoldable pub prior_fault : List Float → ℕ → Answer
prior_fault priors m = unless (prior_good (get_or priors m nan)) (BadPrior m)

-- 5, then 6, for the i-th of m's detectors
unfoldable pub detector_fault : ℕ → ℕ → List ℕ → ℕ → Answer
detector_fault checks m ds i =
    or_else (unless (ltb (get_or ds i 0) checks) (DetectorOutOfRange m)) (unless (not (has (take i ds) (get_or ds i 0))) (DetectorRepeated m))

-- the mechanism m with its detectors: what the test of its number answers, `given`, then each detector in list order
unfoldable pub mechanism_test : ℕ → ℕ → Answer → List ℕ → Answer
mechanism_test checks m given ds = or_else given (first_of (length ds) (detector_fault checks m ds))

-- that, of a model's mechanism m. `given` tests the number that the model gives for each mechanism: 4 of priors, 8 of probabilities
unfoldable pub mechanism_fault : ℕ → (ℕ → Answer) → List ℕ → List ℕ → ℕ → Answer
mechanism_fault checks given off dets m = mechanism_test checks m (given m) (row off m dets)

-- ---- 7: graph lists that no model builds

-- the five lists are the same
unfoldable pub same_graph : Graph → Graph → Bool
same_graph g h =
    same_list g.check_var h.check_var
    && (same_list g.check_offset h.check_offset
    && (same_list g.var_check h.var_check && (same_list g.var_message h.var_message && same_list g.var_offset h.var_offset)))

-- the lists are those of the graph of the incidences that they themselves tell
unfoldable pub is_graph : Graph → Bool
is_graph g = same_graph g (graph_of g.checks g.mechanisms (own_incidence g))

-- ---- the calls. The lent lists come in as a graph: its two counts are those that the caller says, and `edges` is the number of edges that it says.

-- an answer, and the graph lists as the call leaves them
pub record BuildOutcome : Type 0 where
  pub answer : Answer
  pub lists : Graph

-- an outcome of its parts
abbrev pub build_outcome : Answer → Graph → BuildOutcome
build_outcome a g = record { answer = a; lists = g }

-- the graph of an incidence into the lent lists g, unless the call refuses
unfoldable pub built : Answer → (ℕ → ℕ → Bool) → Graph → BuildOutcome
built a inc g = build_outcome a (unless_refused a (graph_of g.checks g.mechanisms inc) g)

-- the tests of a sparse model: 1, 2, 3, then mechanism by mechanism `given`, 5 and 6. `numbers` says how many priors or probabilities there are, `given`
-- tests each, and `fit` says whether the lists to be written have their lengths
unfoldable pub sparse_fault : ℕ → ℕ → ℕ → ℕ → (ℕ → Answer) → List ℕ → List ℕ → Bool → Answer
sparse_fault checks mechanisms edges numbers given off dets fit =
    or_else (unless (sizes_good checks mechanisms edges) SizeAboveLimit)
    (or_else (unless (sparse_fits mechanisms edges numbers (length off) (length dets) && fit) ModelListLength)
    (or_else (unless (offsets_good mechanisms (length dets) off) BadDetectorOffsets) (first_of mechanisms (mechanism_fault checks given off dets))))

-- `build_sparse`, with 4 for `given`: mechanism m's detectors stand in `dets` from offset m to offset m + 1
unfoldable pub build_sparse : ℕ → List Float → List ℕ → List ℕ → Graph → BuildOutcome
build_sparse edges priors off dets g =
    built (sparse_fault g.checks g.mechanisms edges (length priors) (prior_fault priors) off dets (graph_fits edges g)) (among off dets) g

-- how many bytes of a matrix are not zero: `count_edges`
unfoldable pub count_edges : List ℕ → ℕ
count_edges [] = 0
count_edges (x ∷ xs) = cond (eqb x 0) (count_edges xs) (suc (count_edges xs))

-- the tests of a dense model: counts, the lengths of what is given, edges, lists to be written, and `given` of each mechanism. `bytes` is the matrix's
-- length, `edges` how many of its bytes are not zero; `numbers`, `given` and `fit` are as above
unfoldable pub dense_fault : ℕ → ℕ → ℕ → ℕ → (ℕ → Answer) → ℕ → Bool → Answer
dense_fault checks mechanisms edges numbers given bytes fit =
    or_else (unless (counts_good checks mechanisms) SizeAboveLimit)
    (or_else (unless (dense_fits checks mechanisms numbers bytes) ModelListLength)
    (or_else (unless (edges_good edges) SizeAboveLimit) (or_else (unless fit ModelListLength) (first_of mechanisms given))))

-- `build_dense`, with 4 for `given`: the matrix lies check by check, and a byte that is not zero is an incidence
unfoldable pub build_dense : List Float → List ℕ → Graph → BuildOutcome
build_dense priors matrix g =
    let edges = count_edges matrix in
    built (dense_fault g.checks g.mechanisms edges (length priors) (prior_fault priors) (length matrix) (graph_fits edges g)) (marked g.mechanisms matrix) g

-- the tests of lent graph lists and their priors, in whatever layout: 1, 2, 4 and 7. `fit` says whether the lists have their lengths, and `is` whether they
-- are the graph of what they tell
abbrev pub graph_tests : ℕ → ℕ → ℕ → List Float → Bool → Bool → Answer
graph_tests checks mechanisms edges priors fit is =
    or_else (unless (sizes_good checks mechanisms edges) SizeAboveLimit)
    (or_else (unless (eqb (length priors) mechanisms && fit) ModelListLength)
    (or_else (first_of mechanisms (prior_fault priors)) (unless is NoSuchGraph)))

-- `check_graph`: these tests of the five lists. Every call over a graph begins with them.
unfoldable pub graph_fault : ℕ → List Float → Graph → Answer
graph_fault edges priors g = graph_tests g.checks g.mechanisms edges priors (graph_fits edges g) (is_graph g)
