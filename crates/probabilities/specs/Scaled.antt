-- The prior of a probability in whole numbers of 2 ^ -32: what is worked out, and what is cut off where. This is the number that `prior_of` gives.
-- Whatever is cut off makes the prior's size less, never more. Definitions only. Assumes nothing.
use Rattle.std.specs.Prelude.{ℕ, zero, suc, ◌+◌, ◌-◌, ◌*◌, ◌/◌, ◌^◌, min, false, cond, eqb, ltb, ℤ, pos, neg_ℤ, Float}
use Rattle.std.specs.Float.{fin, binary64}
use Rattle.std.specs.Float.Ieee.{size, div, of_int}
use Rattle.std.specs.Float.Ieee.Positive.{num, den}
use Rattle.probabilities.specs.Logarithm.{twos, terms}

-- n in units of which b has 32 binary digits: what stands behind them is cut off
unfoldable pub leading : ℕ → ℕ → ℕ
leading b n = n * 2 ^ 32 / 2 ^ size b

-- (high - low) / (high + low), cut off. Either stands for a number up to 1 above it, and this is not above the quotient of those.
unfoldable pub slope : ℕ → ℕ → ℕ
slope high low = (high - low - 1) * 2 ^ 32 / (high + low + 2)

-- 1 / (2 j + 1) + u (1 / (2 j + 3) + u (1 / (2 j + 5) + ..)), n terms, from the inside out: each quotient and each product is cut off
unfoldable pub nested : ℕ → ℕ → ℕ → ℕ
nested zero j u = 0
nested (suc n) j u = 2 ^ 32 / (2 * j + 1) + u * nested n (suc j) u / 2 ^ 32

-- the partial sum of t: t (1 + u (1 / 3 + u (1 / 5 + ..))) with u = t ^ 2, both products cut off
unfoldable pub series : ℕ → ℕ
series t = t * nested terms 0 (t * t / 2 ^ 32) / 2 ^ 32

-- ln 2, cut off
abbrev pub ln2_cut : ℕ
ln2_cut = 2977044471

-- ln (a / b), of which 2 ^ k is taken out: a and b * 2 ^ k in units of which the lesser has 32 binary digits
unfoldable pub scaled_after : ℕ → ℕ → ℕ → ℕ
scaled_after k a b = let c = b * 2 ^ k in k * ln2_cut + 2 * series (slope (leading c a) (leading c c))

-- `LLR_SATURATION`
abbrev pub most : ℕ
most = 30

-- ln (a / b) for a >= b > 0, cut to 30
unfoldable pub scaled_size : ℕ → ℕ → ℕ
scaled_size a b = min (scaled_after (twos a b) a b) (most * 2 ^ 32)

-- the prior of the probability a / b. Below a half it is ln ((b - a) / a), and from there on -(ln (a / (b - a))), which is the same number.
unfoldable pub scaled_at : ℕ → ℕ → ℤ
scaled_at a b =
    cond (eqb a 0) (pos (most * 2 ^ 32))
    (cond (eqb a b) (neg_ℤ (pos (most * 2 ^ 32)))
    (cond (ltb (2 * a) b) (pos (scaled_size (b - a) a))
    (neg_ℤ (pos (scaled_size a (b - a))))))

-- the prior of p, whose value is the fraction num p / den p, times 2 ^ 32
unfoldable pub scaled_of : Float → ℤ
scaled_of p = scaled_at (num p) (den p)

-- the float r / 2 ^ 32
unfoldable pub float_of : ℤ → Float
float_of r = div binary64 (of_int binary64 r) (fin false 1 (pos 32))

-- the prior of p
unfoldable pub prior_of : Float → Float
prior_of p = float_of (scaled_of p)
