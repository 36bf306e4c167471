-- `probabilities::priors_of` meets its contract. The tests are the definition's, and both lists are written where they are passed. Assumes nothing.
use Rattle.std.proofs.Common.{◌≡◌, true, false, ◌&&◌, length, map, rules}
use Rattle.std.specs.Prelude.{Bool, List, eqb, ℤ, Float, Ok, Err}
use Rattle.std.proofs.lemmas.Result.{err_from_is_err_and}
use Rattle.refusals.specs.declared.Refusal.{Refusal}
use Rattle.refusals.specs.declared.Refusal.TheVariants.{ModelListLength}
use Rattle.refusals.specs.Tests.{unless, or_else, first_of, unless_refused}
use Rattle.probabilities.specs.Scaled.{scaled_of, prior_of}
use Rattle.probabilities.specs.Calls.{probability_fault, priors_outcome, priors_fault, priors_of}
use Rattle.probabilities.proofs.priors_of.Goals as goal
use Rattle.probabilities.proofs.priors_of.Goals.{then-priors-n-via-then-priors-n, then-priors-n-via-else-priors-n+then-scaled-n}

module _ (ps priors : List Float) (scaled : List ℤ) where
  -- both result lists are as long as the probabilities'
  abbrev fit : Bool
  fit = eqb (length priors) (length ps) && eqb (length scaled) (length ps)

  -- they are not
  long : fit ≡ false → priors_outcome (Err ModelListLength) priors scaled ≡ priors_of ps priors scaled
  unfolding priors_of priors_fault unless or_else unless_refused
  long h = rw h

  -- one is no probability
  refused : (r : Refusal) → fit ≡ true → Err r ≡ first_of (length ps) (probability_fault ps) → priors_outcome (Err r) priors scaled ≡ priors_of ps priors scaled
  unfolding priors_of priors_fault unless or_else unless_refused
  refused r h e = rw (h, ← e)

  -- all are
  done : (xs : List Float) (zs : List ℤ) → fit ≡ true → Ok tt ≡ first_of (length ps) (probability_fault ps) → xs ≡ map prior_of ps → zs ≡ map scaled_of ps
      → priors_outcome (Ok tt) xs zs ≡ priors_of ps priors scaled
  unfolding priors_of priors_fault unless or_else unless_refused
  done xs zs h e f g = rw (h, ← e, f, g)

pub returns-then-priors-n : goal.returns-then-priors-n
returns-then-priors-n c = elim c.then-priors-n.branch [
  | then-priors-n-via-then-priors-n w ↦ long c.args.probabilities.now c.args.priors.now c.args.scaled.now (search rules)
  | then-priors-n-via-else-priors-n+then-scaled-n w ↦ long c.args.probabilities.now c.args.priors.now c.args.scaled.now (search rules)
]

pub returns-in_err-probabilities_fault : goal.returns-in_err-probabilities_fault
returns-in_err-probabilities_fault c =
    let p = err_from_is_err_and c.from_residual.result c.from_residual.ensures.1 in
    rw (p.1, p.2) (refused c.args.probabilities.now c.args.priors.now c.args.scaled.now _ (search rules) c.in_err-probabilities_fault.ensures)

pub returns : goal.returns
returns c = done c.args.probabilities.now c.args.priors.now c.args.scaled.now _ _ (search rules) c.in_ok-probabilities_fault.ensures
    c.write_priors.ensures.0 c.write_priors.ensures.1
