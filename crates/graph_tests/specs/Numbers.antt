-- The test of the number that a model gives for a mechanism, whichever it is. Only private contracts cite this: it is no part of what a reader must believe.
-- Definitions only. Assumes nothing.
use Rattle.std.specs.Prelude.{ℕ, List, Float}
use Rattle.std.specs.Float.Ieee.{neg}
use Rattle.numbers.specs.Floats.{zero⁺, one⁺, saturation}
use Rattle.refusals.specs.declared.Refusal.{Refusal}
use Rattle.refusals.specs.declared.Refusal.TheVariants.{BadPrior, BadProbability}
use Rattle.refusals.specs.Refusal.{Answer}
use Rattle.probabilities.specs.Calls.{probability_fault}
use Rattle.graph_lists.specs.Model.{prior_fault}
use Rattle.graph_tests.specs.declared.Given.{Given}
use Rattle.graph_tests.specs.declared.Given.TheVariants.{Priors, Probabilities}

-- the bounds of a good number
abbrev pub lowest_of : Given → Float
lowest_of Priors = neg saturation
lowest_of Probabilities = zero⁺

abbrev pub highest_of : Given → Float
highest_of Priors = saturation
highest_of Probabilities = one⁺

-- the refusal of m's number
abbrev pub bad_number : Given → ℕ → Refusal
bad_number Priors m = BadPrior m
bad_number Probabilities m = BadProbability m

-- 4 of priors, 8 of probabilities
unfoldable pub given_fault : Given → List Float → ℕ → Answer
given_fault Priors = prior_fault
given_fault Probabilities = probability_fault
