-- `graph_probabilities::made_prior` meets its contract. A probability has a prior, and it is the definition's. Assumes nothing.
use mathlib.Core.Path.{◌≡◌, sym, ap, ◌∙◌}
use lib.Ieee.{Float, nan}
use Rattle.std.specs.Prelude.{Result, Ok, Err}
use Rattle.std.specs.Result.{is_ok}
use Rattle.refusals.specs.declared.Refusal.{Refusal}
use Rattle.probabilities.specs.declared.Prior.{Prior}
use Rattle.probabilities.specs.Calls.{prior_answer}
use Rattle.probabilities.specs.Scaled.{scaled_of, prior_of}
use Rattle.graph_probabilities.proofs.made_prior.Goals as goal
use Rattle.graph_probabilities.proofs.made_prior.Goals.{After-prior_of}

-- the answer
told : (c : After-prior_of) → c.prior_of.result ≡ Ok (record { scaled = scaled_of c.args.p; value = prior_of c.args.p })
unfolding prior_answer
told c =
    let answer : c.prior_of.result ≡ prior_answer c.args.p 0 = c.prior_of.ensures in
    answer ∙ rw c.requires

-- the float of an answer
abbrev value : Result Prior Refusal → Float
value (Ok x) = x.value
value (Err r) = nan

pub unwrap-requires : goal.unwrap-requires
unwrap-requires c = ap is_ok (told c)

pub returns : goal.returns
returns c = ap value (sym c.unwrap.ensures ∙ told (goal.at.returns c).After-prior_of)
