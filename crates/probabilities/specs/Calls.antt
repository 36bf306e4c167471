-- What `prior_of` and `priors_of` answer and leave in their lists: 8, and 2 before it. Definitions only. Assumes nothing.
use Rattle.std.specs.Prelude.{ℕ, Bool, ◌&&◌, cond, List, map, eqb, ℤ, Float, length, get_or, Result, Ok, Err}
use Rattle.std.specs.Float.{nan}
use Rattle.std.specs.Float.Ieee.{le}
use Rattle.numbers.specs.Floats.{zero⁺, one⁺}
use Rattle.refusals.specs.declared.Refusal.{Refusal}
use Rattle.refusals.specs.declared.Refusal.TheVariants.{ModelListLength, BadProbability}
use Rattle.refusals.specs.Refusal.{Answer}
use Rattle.refusals.specs.Tests.{unless, or_else, first_of, unless_refused}
use Rattle.probabilities.specs.declared.Prior.{Prior}
use Rattle.probabilities.specs.Scaled.{scaled_of, prior_of}

-- p is a number from 0 to 1. Negative zero is 0.
unfoldable pub is_probability : Float → Bool
is_probability p = le zero⁺ p && le p one⁺

-- 8 for the mechanism m
unfoldable pub probability_fault : List Float → ℕ → Answer
probability_fault ps m = unless (is_probability (get_or ps m nan)) (BadProbability m)

-- `prior_of`: the prior times 2 ^ 32 with the float made of it, or 8
unfoldable pub prior_answer : Float → ℕ → Result Prior Refusal
prior_answer p mechanism = cond (is_probability p) (Ok (record { scaled = scaled_of p; value = prior_of p })) (Err (BadProbability mechanism))

-- an answer, and the two result lists as the call leaves them
pub record PriorsOutcome : Type 0 where
  pub answer : Answer
  pub priors : List Float
  pub scaled : List ℤ

-- an outcome of its parts
abbrev pub priors_outcome : Answer → List Float → List ℤ → PriorsOutcome
priors_outcome a priors scaled = record { answer = a; priors = priors; scaled = scaled }

-- the tests of `priors_of`: 2 for result lists of other lengths than the probabilities', then 8
unfoldable pub priors_fault : List Float → ℕ → ℕ → Answer
priors_fault ps priors scaled =
    or_else (unless (eqb priors (length ps) && eqb scaled (length ps)) ModelListLength) (first_of (length ps) (probability_fault ps))

-- `priors_of`, into the two lent lists
unfoldable pub priors_of : List Float → List Float → List ℤ → PriorsOutcome
priors_of ps priors scaled =
    let a = priors_fault ps (length priors) (length scaled) in
    priors_outcome a (unless_refused a (map prior_of ps) priors) (unless_refused a (map scaled_of ps) scaled)
