-- `probabilities::prior_of` meets its contract. What the test, the whole number and the float ensure is the definition. Assumes nothing.
use Rattle.std.proofs.Common.{◌≡◌, sym, ◌∙◌, true, false}
use Rattle.std.specs.Prelude.{ℕ, ℤ, Float, Ok, Err}
use mir.Syntax.{w64}
use mir.Val.{to_z, of_z}
use Rattle.refusals.specs.declared.Refusal.TheVariants.{BadProbability}
use Rattle.probabilities.specs.Scaled.{scaled_of, float_of, prior_of}
use Rattle.probabilities.specs.Calls.{is_probability, prior_answer}
use Rattle.probabilities.proofs.Priors.{scaled_held, scaled_back}
use Rattle.probabilities.proofs.prior_of.Goals as goal

-- the answer for a probability
given : (p : Float) (m : ℕ) (z : ℤ) (v : Float) → is_probability p ≡ true → z ≡ scaled_of p → v ≡ float_of z
    → Ok (record { scaled = z; value = v }) ≡ prior_answer p m
unfolding prior_answer prior_of
given p m z v h e f = rw (h, f, e)

-- and for another number
refused : (p : Float) (m : ℕ) → is_probability p ≡ false → Err (BadProbability m) ≡ prior_answer p m
unfolding prior_answer
refused p m h = rw h

pub float_of-value-requires : goal.float_of-value-requires
float_of-value-requires c =
    scaled_held c.args.p (to_z w64 (of_z w64 c.scaled_of-scaled.result)) (scaled_back c.args.p c.scaled_of-scaled.result c.scaled_of-scaled.ensures)

pub returns : goal.returns
returns c =
    given c.args.p c.args.mechanism (to_z w64 (of_z w64 c.scaled_of-scaled.result)) c.float_of-value.result (sym c.is_probability.ensures ∙ c.if-not-is_probability.false) (scaled_back c.args.p c.scaled_of-scaled.result c.scaled_of-scaled.ensures) c.float_of-value.ensures

pub returns-then-not-is_probability : goal.returns-then-not-is_probability
returns-then-not-is_probability c = refused c.args.p c.args.mechanism (sym c.is_probability.ensures ∙ c.if-not-is_probability.true)
