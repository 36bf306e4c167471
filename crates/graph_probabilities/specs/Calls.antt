-- Models that are given by probabilities: what each call answers and leaves in its lists. 8 stands where building from priors has 4, and the list of priors
-- that is written counts as a model list. Definitions only. Assumes nothing.
use Rattle.std.specs.Prelude.{ℕ, Bool, ◌&&◌, List, map, eqb, Float, length}
use Rattle.refusals.specs.Refusal.{Answer}
use Rattle.refusals.specs.Tests.{unless_refused}
use Rattle.probabilities.specs.Calls.{probability_fault}
use Rattle.probabilities.specs.Scaled.{prior_of}
use Rattle.graph_lists.specs.Graph.{Graph, graph_of, among, marked}
use Rattle.graph_lists.specs.Model.{graph_fits, sparse_fault, count_edges, dense_fault}

-- an answer, and the list of priors and the graph lists as the call leaves them
pub record ProbabilityOutcome : Type 0 where
  pub answer : Answer
  pub priors : List Float
  pub lists : Graph

-- an outcome of its parts
abbrev pub probability_outcome : Answer → List Float → Graph → ProbabilityOutcome
probability_outcome a priors g = record { answer = a; priors = priors; lists = g }

-- the priors of the probabilities ps and the graph of an incidence, into the lent lists, unless the call refuses
unfoldable pub made : Answer → List Float → (ℕ → ℕ → Bool) → List Float → Graph → ProbabilityOutcome
made a ps inc priors g = probability_outcome a (unless_refused a (map prior_of ps) priors) (unless_refused a (graph_of g.checks g.mechanisms inc) g)

-- the lists to be written have their lengths: as many priors as mechanisms, and the graph lists those of a graph with this many edges
unfoldable pub made_fits : ℕ → List Float → Graph → Bool
made_fits edges priors g = eqb (length priors) g.mechanisms && graph_fits edges g

-- `build_sparse_probabilities`: as `build_sparse`, with 8 for `given`
unfoldable pub build_sparse_probabilities : ℕ → List Float → List ℕ → List ℕ → List Float → Graph → ProbabilityOutcome
build_sparse_probabilities edges ps off dets priors g =
    made (sparse_fault g.checks g.mechanisms edges (length ps) (probability_fault ps) off dets (made_fits edges priors g)) ps (among off dets) priors g

-- `build_dense_probabilities`: as `build_dense`, with 8 for `given`
unfoldable pub build_dense_probabilities : List Float → List ℕ → List Float → Graph → ProbabilityOutcome
build_dense_probabilities ps matrix priors g =
    let edges = count_edges matrix in
    made (dense_fault g.checks g.mechanisms edges (length ps) (probability_fault ps) (length matrix) (made_fits edges priors g)) ps (marked g.mechanisms matrix) priors g
