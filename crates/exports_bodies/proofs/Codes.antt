-- An outcome's code is that of its answer. Assumes nothing.
use Prim.Native.Nat.{ℕ}
use mathlib.Core.Path.{◌≡◌, ◌∙◌, ap}
use mathlib.Core.List.{List}
use lib.IntN.{ℤ}
use lib.Ieee.{Float}
use Rattle.refusals.specs.Refusal.{Answer}
use Rattle.probabilities.specs.Calls.{PriorsOutcome, priors_outcome}
use Rattle.graph_lists.specs.Graph.{Graph}
use Rattle.graph_lists.specs.Model.{BuildOutcome, build_outcome}
use Rattle.graph_probabilities.specs.Calls.{ProbabilityOutcome, probability_outcome}
use Rattle.min_sum.specs.Beliefs.{BeliefsLists, BeliefsOutcome, beliefs_outcome}
use Rattle.relay_calls.specs.Answers.{DecodeAnswer}
use Rattle.relay_calls.specs.Calls.{StepLists, StepOutcome, step_outcome, DecodeLists, DecodeOutcome, decode_outcome}
use Rattle.exports_values.specs.Codes.{code_of, decoded_code, decoded_counts, decoded_weight}
use Rattle.exports_bodies.specs.Answers.{graph_left, graph_left_by, made_left, made_left_by, priors_left, priors_left_by, beliefs_left, beliefs_left_by, step_left, step_left_by, decode_left, decode_left_by}

-- a code sent with the lists of an outcome is the outcome sent
pub sent_as : (code : ℕ) (a : Answer) (g : Graph) (o : BuildOutcome) → code ≡ code_of a → build_outcome a g ≡ o → graph_left code g ≡ graph_left_by o
sent_as code a g o is_code is-outcome = ap (λ k. graph_left k g) is_code ∙ ap graph_left_by is-outcome

-- the same of building from probabilities
pub made_as : (code : ℕ) (a : Answer) (priors : List Float) (g : Graph) (o : ProbabilityOutcome) → code ≡ code_of a → probability_outcome a priors g ≡ o
    → made_left code priors g ≡ made_left_by o
made_as code a priors g o is_code is-outcome = ap (λ k. made_left k priors g) is_code ∙ ap made_left_by is-outcome

-- of `priors_of`
pub priors_left_as : (code : ℕ) (a : Answer) (priors : List Float) (scaled : List ℤ) (o : PriorsOutcome) → code ≡ code_of a → priors_outcome a priors scaled ≡ o
    → priors_left code priors scaled ≡ priors_left_by o
priors_left_as code a priors scaled o is_code is-outcome = ap (λ k. priors_left k priors scaled) is_code ∙ ap priors_left_by is-outcome

-- of `beliefs`
pub left_as : (code : ℕ) (a : Answer) (l : BeliefsLists) (o : BeliefsOutcome) → code ≡ code_of a → beliefs_outcome a l ≡ o → beliefs_left code l ≡ beliefs_left_by o
left_as code a l o is_code is-outcome = ap (λ k. beliefs_left k l) is_code ∙ ap beliefs_left_by is-outcome

-- and of `iteration`
pub step_left_as : (code : ℕ) (a : Answer) (l : StepLists) (o : StepOutcome) → code ≡ code_of a → step_outcome a l ≡ o → step_left code l ≡ step_left_by o
step_left_as code a l o is_code is-outcome = ap (λ k. step_left k l) is_code ∙ ap step_left_by is-outcome

-- and of a decode
pub decode_left_as : (code : ℕ) (counts old : List ℕ) (weight was : List Float) (d : DecodeAnswer) (l : DecodeLists) (o : DecodeOutcome) → code ≡ decoded_code d
    → counts ≡ decoded_counts d old → weight ≡ decoded_weight d was → decode_outcome d l ≡ o → decode_left code counts weight l ≡ decode_left_by o old was
decode_left_as code counts old weight was d l o p q r e = rw (p, q, r) (ap (λ (x : DecodeOutcome). decode_left_by x old was) e)
