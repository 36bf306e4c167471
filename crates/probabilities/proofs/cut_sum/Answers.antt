-- `probabilities::cut_sum` meets its contract. Each answer is the definition at what the test said. Assumes nothing.
use mathlib.Core.Path.{◌≡◌, ap, ◌∙◌}
use Prim.Native.Nat.{ℕ, ◌+◌, ◌*◌, ◌^◌, ◌≤◌, ◌<◌}
use native.Mathlib.Omega.{arith}
use Rattle.probabilities.specs.Scaled.{slope, series}
use Rattle.probabilities.specs.Ratios.{cut_sum}
use Rattle.probabilities.proofs.Sums.{series_small}
use Rattle.probabilities.proofs.Slopes.{slope_third}
use Rattle.probabilities.proofs.cut_sum.Goals as goal

-- what `slope_of` answers is at most 1 / 3
third : (h l t : ℕ) → h ≤ 2 * l + 1 → t ≡ slope h l → 3 * t ≤ 2 ^ 32
third h l t o e = omega (arith, slope_third h l o)

-- and what `series` answers at most 1
one : (h l t s : ℕ) → h ≤ 2 * l + 1 → t ≡ slope h l → s ≡ series t → s ≤ 2 ^ 32
one h l t s o e f = omega (arith, series_small t (third h l t o e))

-- below the cut
below : (k h l t s : ℕ) → t ≡ slope h l → s ≡ series t → k * 2977044471 + 2 * s < 128849018880 → k * 2977044471 + 2 * s ≡ cut_sum k h l
unfolding cut_sum
below k h l t s e f o = omega (arith, f ∙ ap (λ (n : ℕ). series n) e)

-- and from there on
above : (k h l t s : ℕ) → t ≡ slope h l → s ≡ series t → 128849018880 ≤ k * 2977044471 + 2 * s → 128849018880 ≡ cut_sum k h l
unfolding cut_sum
above k h l t s e f o = omega (arith, f ∙ ap (λ (n : ℕ). series n) e)

pub series-requires : goal.series-requires
series-requires c = third c.args.high c.args.low c.slope_of.result c.requires.1 c.slope_of.ensures

pub overflow_mul-x-2 : goal.overflow_mul-x-2
overflow_mul-x-2 c =
    record { fits = omega (arith, one c.args.high c.args.low c.slope_of.result c.series.result c.requires.1 c.slope_of.ensures c.series.ensures) }

pub overflow_add-x : goal.overflow_add-x
overflow_add-x c =
    record { fits = omega (arith, c.requires.3, one c.args.high c.args.low c.slope_of.result c.series.result c.requires.1 c.slope_of.ensures c.series.ensures) }

pub returns-then-x-lt128849018880 : goal.returns-then-x-lt128849018880
returns-then-x-lt128849018880 c =
    below c.args.twos c.args.high c.args.low c.slope_of.result c.series.result c.slope_of.ensures c.series.ensures c.if-x-lt128849018880.true

pub returns : goal.returns
returns c =
    above c.args.twos c.args.high c.args.low c.slope_of.result c.series.result c.slope_of.ensures c.series.ensures c.if-x-lt128849018880.false
