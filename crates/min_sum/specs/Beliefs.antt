-- The public call `beliefs`: its tests in the reference's order, refusal 30, and what it leaves in every lent list. Definitions only. Assumes nothing.
use Rattle.std.specs.Prelude.{ℕ, Bool, ◌&&◌, List, eqb, leb, Float, length, replicate}
use Rattle.numbers.specs.Limits.{max_count}
use Rattle.numbers.specs.Floats.{zero⁺}
use Rattle.refusals.specs.declared.Refusal.TheVariants.{BadIterations, SyndromeLength, LentListLength}
use Rattle.refusals.specs.Refusal.{Answer}
use Rattle.std.specs.Prelude.{Ok, Err}
use Rattle.refusals.specs.Tests.{unless, or_else, unless_refused}
use Rattle.graph_lists.specs.Graph.{Graph}
use Rattle.graph_lists.specs.Messages.{Access, by_place, posterior_fault}
use Rattle.graph_lists.specs.Model.{graph_fault}
use Rattle.min_sum_pass.specs.MinSum.{min_sum_bp}

-- the lent lists: the posterior is the result, and the others are for work
pub record BeliefsLists : Type 0 where
  pub posterior : List Float
  pub ewa_posterior : List Float
  pub c_to_v : List Float
  pub v_to_c : List Float

-- the lists of their parts
abbrev pub beliefs_lists : List Float → List Float → List Float → List Float → BeliefsLists
beliefs_lists p w c v = record { posterior = p; ewa_posterior = w; c_to_v = c; v_to_c = v }

-- an answer, and the lent lists as the call leaves them
pub record BeliefsOutcome : Type 0 where
  pub answer : Answer
  pub left : BeliefsLists

-- an outcome of its parts
abbrev pub beliefs_outcome : Answer → BeliefsLists → BeliefsOutcome
beliefs_outcome a l = record { answer = a; left = l }

-- 22: the lent lists fit a graph with this many edges exactly
unfoldable pub beliefs_lists_fit : ℕ → Graph → BeliefsLists → Bool
beliefs_lists_fit edges g l =
    eqb (length l.posterior) g.mechanisms
    && (eqb (length l.ewa_posterior) g.mechanisms && (eqb (length l.c_to_v) edges && eqb (length l.v_to_c) edges))

-- the tests behind those of the graph: 12, 20, 22. The scale is untested
abbrev pub beliefs_rest : ℕ → Graph → List ℕ → ℕ → BeliefsLists → Answer
beliefs_rest edges g syndrome iterations l =
    or_else (unless (leb iterations max_count) BadIterations)
    (or_else (unless (eqb (length syndrome) g.checks) SyndromeLength) (unless (beliefs_lists_fit edges g l) LentListLength))

-- the tests before the run: 1, 2, 4, 7, 12, 20, 22
unfoldable pub beliefs_fault : ℕ → List Float → Graph → List ℕ → ℕ → BeliefsLists → Answer
beliefs_fault edges priors g syndrome iterations l = or_else (graph_fault edges priors g) (beliefs_rest edges g syndrome iterations l)

-- past the tests: 30 with the first mechanism whose belief is not finite, the posterior, zeroed on 30, and zeroed work lists
unfoldable pub ran : ℕ → Graph → List Float → BeliefsOutcome
ran edges g posterior =
    let a = posterior_fault g posterior in
    let zeros = replicate g.mechanisms zero⁺ in
    beliefs_outcome a (beliefs_lists (unless_refused a posterior zeros) zeros (replicate edges zero⁺) (replicate edges zero⁺))

-- a call that its tests refuse writes nothing
abbrev pub after_beliefs_tests : Answer → BeliefsOutcome → BeliefsLists → BeliefsOutcome
after_beliefs_tests (Ok _) o l = o
after_beliefs_tests (Err r) o l = beliefs_outcome (Err r) l

-- a call whose tests answer `tested`, with a check's messages had so
abbrev pub beliefs_by : Access → Answer → ℕ → List Float → Graph → List ℕ → ℕ → Float → Bool → BeliefsLists → BeliefsOutcome
beliefs_by had tested edges priors g syndrome iterations scale serial l =
    let o = ran edges g (min_sum_bp had g serial scale syndrome priors iterations) in
    after_beliefs_tests tested o l

-- `beliefs`: serial or not
unfoldable pub beliefs : ℕ → List Float → Graph → List ℕ → ℕ → Float → Bool → BeliefsLists → BeliefsOutcome
beliefs edges priors g syndrome iterations scale serial l =
    beliefs_by by_place (beliefs_fault edges priors g syndrome iterations l) edges priors g syndrome iterations scale serial l
