-- How the code takes a ratio apart and puts its logarithm together. Only private contracts cite this: it is no part of what a reader must believe.
-- Assumes nothing.
use Rattle.std.specs.Prelude.{ℕ, ◌+◌, ◌-◌, ◌*◌, ◌^◌, ◌≤◌, ◌<◌, min, cond, ltb, Float}
use Rattle.std.specs.Float.Ieee.Positive.{num, den}
use Rattle.probabilities.specs.Scaled.{slope, series, ln2_cut, most, scaled_size}

-- a / b, of which 2 ^ k is taken out: a and b * 2 ^ k in units of 2 ^ digits, of which `low` has 32 binary digits; both are cut off
pub record Split (a b k high low : ℕ) : Type 0 where
  pub digits : ℕ
  pub least : b * 2 ^ k ≤ a
  pub double : a < 2 * (b * 2 ^ k)
  pub high_low : high * 2 ^ digits ≤ a
  pub high_high : a < (high + 1) * 2 ^ digits
  pub low_low : low * 2 ^ digits ≤ b * 2 ^ k
  pub low_high : b * 2 ^ k < (low + 1) * 2 ^ digits
  pub bits : 2 ^ 31 ≤ low
  pub fits : low < 2 ^ 32

-- ln (2 ^ k * high / low), cut to 30
unfoldable pub cut_sum : ℕ → ℕ → ℕ → ℕ
cut_sum k high low = min (k * ln2_cut + 2 * series (slope high low)) (most * 2 ^ 32)

-- the size of the prior of p, which is between 0 and 1
unfoldable pub size_of : Float → ℕ
size_of p = cond (ltb (2 * num p) (den p)) (scaled_size (den p - num p) (num p)) (scaled_size (num p) (den p - num p))
