-- The logarithm of a / b for whole numbers a >= b > 0, as a fraction of whole numbers: the powers of two are taken out, and of what is left the first 10
-- terms of the series of 2 artanh are summed. Definitions only. Assumes nothing.
--
-- With a / b = 2 ^ k * r, r from 1 to below 2, and t = (r - 1) / (r + 1), which is from 0 to below 1 / 3,
--     ln (a / b) = k * ln 2 + 2 * (t + t ^ 3 / 3 + t ^ 5 / 5 + ..).
-- The terms from the 11th on sum to less than 1.02 * 10 ^ -11, twice taken, which is 0.044 of 2 ^ -32; `ln2` is less than 1.2 * 10 ^ -20 from ln 2.
use Rattle.std.specs.Prelude.{ℕ, zero, suc, ◌+◌, ◌-◌, ◌*◌, ◌/◌, ◌^◌}
use Rattle.std.specs.Float.Ieee.{size}
use Rattle.probabilities.specs.Fractions.{Fraction, ratio, plus, times}

-- ln 2, to the nearest 2 ^ -64
abbrev pub ln2 : Fraction
ln2 = ratio 12786308645202655660 (2 ^ 64)

-- how many powers of two are taken out of a / b: the greatest k with b * 2 ^ k <= a, one less than the binary digits of its whole part
unfoldable pub twos : ℕ → ℕ → ℕ
twos a b = size (a / b) - 1

-- the t of a / b: (a - b * 2 ^ k) / (a + b * 2 ^ k)
abbrev pub tangent : ℕ → ℕ → ℕ → Fraction
tangent k a b = ratio (a - b * 2 ^ k) (a + b * 2 ^ k)

-- t ^ n / n
abbrev pub power_over : ℕ → Fraction → Fraction
power_over n t = ratio (t.top ^ n) (n * t.bottom ^ n)

-- t ^ (2 j + 1) / (2 j + 1) + t ^ (2 j + 3) / (2 j + 3) + .., n terms
unfoldable pub terms_from : ℕ → ℕ → Fraction → Fraction
terms_from zero j t = ratio 0 1
terms_from (suc n) j t = plus (power_over (2 * j + 1) t) (terms_from n (suc j) t)

-- the terms that are summed
abbrev pub terms : ℕ
terms = 10

-- the partial sum of the series: t + t ^ 3 / 3 + t ^ 5 / 5 + .. + t ^ 19 / 19
unfoldable pub partial_sum : Fraction → Fraction
partial_sum t = terms_from terms 0 t

-- ln (a / b), after 2 ^ k is taken out
unfoldable pub logarithm_after : ℕ → ℕ → ℕ → Fraction
logarithm_after k a b = plus (times k ln2) (times 2 (partial_sum (tangent k a b)))

-- ln (a / b)
unfoldable pub logarithm : ℕ → ℕ → Fraction
logarithm a b = logarithm_after (twos a b) a b
