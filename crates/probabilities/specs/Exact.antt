-- The exact prior of a probability, as a fraction with its sign: 30 at 0, -30 at 1, else the logarithm of (1 - p) / p, cut to -30 .. 30; and what it means
-- that a whole number is near it. Definitions only. Assumes nothing.
use Rattle.std.specs.Prelude.{ℕ, ◌-◌, ◌*◌, ◌≡◌, Bool, true, false, cond, eqb, ltb, ℤ, pos, neg_ℤ, nat_abs, Float}
use Rattle.std.specs.Float.Ieee.Positive.{num, den}
use Rattle.probabilities.specs.Fractions.{Fraction, ratio, cut_to, Near}
use Rattle.probabilities.specs.Logarithm.{logarithm}
use Rattle.probabilities.specs.Scaled.{most}

-- a fraction with its sign
pub record Signed : Type 0 where
  pub below : Bool
  pub size : Fraction

-- x, and -x
abbrev pub plain : Fraction → Signed
plain x = record { below = false; size = x }

abbrev pub minus : Fraction → Signed
minus x = record { below = true; size = x }

-- the exact prior of the probability a / b. Below a half it is ln ((b - a) / a), and from there on -(ln (a / (b - a))), which is the same number.
unfoldable pub exact_at : ℕ → ℕ → Signed
exact_at a b =
    cond (eqb a 0) (plain (ratio most 1))
    (cond (eqb a b) (minus (ratio most 1))
    (cond (ltb (2 * a) b) (plain (cut_to most (logarithm (b - a) a)))
    (minus (cut_to most (logarithm a (b - a))))))

-- the exact prior of p, whose value is the fraction num p / den p
unfoldable pub exact_prior : Float → Signed
exact_prior p = exact_at (num p) (den p)

-- a whole number with a sign
abbrev pub signed : Bool → ℕ → ℤ
signed false n = pos n
signed true n = neg_ℤ (pos n)

-- r is x * 2 ^ 32 rounded towards zero, by at most 256
pub record Close (r : ℤ) (x : Signed) : Type 0 where
  pub sign : r ≡ signed x.below (nat_abs r)
  pub near : Near 256 (nat_abs r) x.size
