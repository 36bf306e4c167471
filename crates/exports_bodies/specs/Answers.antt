-- What an exported call leaves: the code of its answer, and the lent lists as the call below left them. How an answer is a code: `exports_values` `Codes`. Definitions only. Assumes nothing.
use Rattle.std.specs.Prelude.{ℕ, List, [], ◌∷◌, ℤ, Float, Result, Ok, Err}
use Rattle.refusals.specs.declared.Refusal.{Refusal}
use Rattle.probabilities.specs.declared.Prior.{Prior}
use Rattle.probabilities.specs.Calls.{PriorsOutcome}
use Rattle.graph_lists.specs.Graph.{Graph}
use Rattle.graph_lists.specs.Model.{BuildOutcome}
use Rattle.graph_probabilities.specs.Calls.{ProbabilityOutcome}
use Rattle.relay_calls.specs.Calls.{StepLists, StepOutcome, DecodeLists, DecodeOutcome}
use Rattle.min_sum.specs.Beliefs.{BeliefsLists, BeliefsOutcome}
use Rattle.exports_values.specs.Codes.{code_of, decoded_code, decoded_counts, decoded_weight}

-- ---- a call that fills graph lists

-- the code, and the graph lists as the call leaves them
pub record GraphLeft : Type 0 where
  pub code : ℕ
  pub lists : Graph

abbrev pub graph_left : ℕ → Graph → GraphLeft
graph_left code g = record { code = code; lists = g }

-- an outcome, its answer as a code
abbrev pub graph_left_by : BuildOutcome → GraphLeft
graph_left_by o = graph_left (code_of o.answer) o.lists

-- ---- a call that fills graph lists and a list of priors

-- the code, and the list of priors and the graph lists as the call leaves them
pub record MadeLeft : Type 0 where
  pub code : ℕ
  pub priors : List Float
  pub lists : Graph

abbrev pub made_left : ℕ → List Float → Graph → MadeLeft
made_left code priors g = record { code = code; priors = priors; lists = g }

-- an outcome of building from probabilities, its answer as a code
abbrev pub made_left_by : ProbabilityOutcome → MadeLeft
made_left_by o = made_left (code_of o.answer) o.priors o.lists

-- ---- priors of probabilities

-- the code, and the lists of priors and of whole numbers as the call leaves them
pub record PriorsLeft : Type 0 where
  pub code : ℕ
  pub priors : List Float
  pub scaled : List ℤ

abbrev pub priors_left : ℕ → List Float → List ℤ → PriorsLeft
priors_left code priors scaled = record { code = code; priors = priors; scaled = scaled }

-- an outcome of `priors_of`, its answer as a code
abbrev pub priors_left_by : PriorsOutcome → PriorsLeft
priors_left_by o = priors_left (code_of o.answer) o.priors o.scaled

-- an answer of `prior_of`, over two lists of one as they were
abbrev pub prior_left_by : Result Prior Refusal → List Float → List ℤ → PriorsLeft
prior_left_by (Ok p) priors whole = priors_left 0 (p.value ∷ []) (p.scaled ∷ [])
prior_left_by (Err r) priors whole = priors_left (code_of (Err r)) priors whole

-- ---- beliefs

-- the code, and the lent lists as the call leaves them
pub record BeliefsLeft : Type 0 where
  pub code : ℕ
  pub lists : BeliefsLists

abbrev pub beliefs_left : ℕ → BeliefsLists → BeliefsLeft
beliefs_left code l = record { code = code; lists = l }

-- an outcome of `beliefs`, its answer as a code
abbrev pub beliefs_left_by : BeliefsOutcome → BeliefsLeft
beliefs_left_by o = beliefs_left (code_of o.answer) o.left

-- ---- Relay

-- the code of a single iteration, and its lent lists as the call leaves them
pub record StepLeft : Type 0 where
  pub code : ℕ
  pub lists : StepLists

abbrev pub step_left : ℕ → StepLists → StepLeft
step_left code l = record { code = code; lists = l }

-- an outcome of `iteration`, its answer as a code
abbrev pub step_left_by : StepOutcome → StepLeft
step_left_by o = step_left (code_of o.answer) o.left

-- the code of a decode, its counts, its weight, and its lent lists as the call leaves them
pub record DecodeLeft : Type 0 where
  pub code : ℕ
  pub counts : List ℕ
  pub weight : List Float
  pub lists : DecodeLists

abbrev pub decode_left : ℕ → List ℕ → List Float → DecodeLists → DecodeLeft
decode_left code counts weight l = record { code = code; counts = counts; weight = weight; lists = l }

-- an outcome of `decode`, over the counts and the weight as they were
abbrev pub decode_left_by : DecodeOutcome → List ℕ → List Float → DecodeLeft
decode_left_by o counts weight = decode_left (decoded_code o.answer) (decoded_counts o.answer counts) (decoded_weight o.answer weight) o.left
