-- `probabilities::size_of` meets its contract. The digits and the exponent's field are p's fraction, and the ratio that is taken apart is the definition's.
-- Assumes nothing.
use mathlib.Core.Path.{◌≡◌, refl, sym, ◌∙◌}
use Prim.Native.Nat.{ℕ, ◌+◌, ◌-◌, ◌*◌, ◌/◌, ◌%◌, ◌^◌, ◌≤◌, ◌<◌}
use native.Mathlib.Omega.{arith}
use mathlib.Core.Bool.{true}
use lib.Dec.{T}
use lib.Pow.{pow_mono}
use lib.Ieee.{Float, binary64, fits, to_bits}
use lib.Ieee.Positive.{num, den, den_pos, positive}
use Rattle.probabilities.specs.Scaled.{most}
use Rattle.probabilities.specs.Ratios.{Split, cut_sum, size_of}
use Rattle.probabilities.proofs.Slopes.{split_order, split_double}
use Rattle.probabilities.proofs.Scales.{twos_least, split_size_of}
use Rattle.probabilities.proofs.Logs.{cut_scaled}
use Rattle.probabilities.proofs.Values.{positive_number, small_field, middle_field, last_field, less_value, less_power, from_value}
use Rattle.probabilities.proofs.Priors.{positive_num, size_below, size_from, den_power, below_same, from_same}
use Rattle.probabilities.proofs.size_of.Goals as goal

-- what `cut_sum` requires of a ratio that is taken apart
parts : (a b k h l : ℕ) → Split a b k h l → k ≤ 160 → (l ≤ h) × (h ≤ 2 * l + 1) × (l < 2 ^ 32) × (k ≤ 160)
parts a b k h l s o = (split_order a b k h l s, split_double a b k h l s, s.fits, o)

module _ (p : Float) (good : fits binary64 p ≡ true) (above : T (positive p)) where
  -- a small field
  small : to_bits binary64 p / 2 ^ 52 < 978 → most * 2 ^ 32 ≡ size_of p
  small h =
      let o = small_field p good above h in
      let a = positive_num p above in
      sym (size_below p (omega (arith, o)) ∙ cut_scaled (den p - num p) (num p) (twos_least 44 (den p - num p) (num p) a (omega (arith, o))))

  -- a middle one
  middle : (r k h l : ℕ) → 978 ≤ to_bits binary64 p / 2 ^ 52 → to_bits binary64 p / 2 ^ 52 < 1022
      → Split (2 ^ (53 + (1022 - to_bits binary64 p / 2 ^ 52)) - (2 ^ 52 + to_bits binary64 p % 2 ^ 52)) (2 ^ 52 + to_bits binary64 p % 2 ^ 52) k h l
      → r ≡ cut_sum k h l → r ≡ size_of p
  middle r k h l o u s f =
      let q = 2 ^ 52 + to_bits binary64 p % 2 ^ 52 in
      let d = 1022 - to_bits binary64 p / 2 ^ 52 in
      let e = middle_field p good above o u in
      let g = less_power (num p) (den p) d 1 (omega arith) (less_value (num p) (den p) q d (den_pos p) e (omega arith)) in
      let half : 2 * num p < den p = omega (arith, g) in
      let fitted : q ≤ 2 ^ (53 + d) = fitting q d (omega arith) in
      f ∙ split_size_of (2 ^ (53 + d) - q) q k h l (omega arith) s
      ∙ sym (size_below p half ∙ below_same (num p) (den p) q (2 ^ (53 + d)) (den_power p) (record { exponent = 53 + d; is = refl }) (positive_num p above) fitted e half)
    where
      fitting : (q d : ℕ) → q < 2 ^ 53 → q ≤ 2 ^ (53 + d)
      fitting q d h = omega (arith, pow_mono {i = 53} {j = 53 + d} (omega arith))

  -- and that of a half and more
  last : (r k h l : ℕ) → num p < den p → 1022 ≤ to_bits binary64 p / 2 ^ 52
      → Split (2 ^ 52 + to_bits binary64 p % 2 ^ 52) (2 ^ 53 - (2 ^ 52 + to_bits binary64 p % 2 ^ 52)) k h l
      → r ≡ cut_sum k h l → r ≡ size_of p
  last r k h l o u s f =
      let q = 2 ^ 52 + to_bits binary64 p % 2 ^ 52 in
      let e = last_field p good above o u in
      let half = from_value (num p) (den p) q e (omega arith) in
      f ∙ split_size_of q (2 ^ 53 - q) k h l (omega arith) s
      ∙ sym (size_from p half ∙ from_same (num p) (den p) q (2 ^ 53) (den_power p) (record { exponent = 53; is = refl }) (positive_num p above) (omega arith) e o half)

pub float_to_bits-bits : goal.float_to_bits-bits
float_to_bits-bits c = positive_number c.args.p c.requires.0

pub returns-then-x-lt978 : goal.returns-then-x-lt978
returns-then-x-lt978 c = small c.args.p c.well_formed.0.1 c.requires.0 c.if-x-lt978.true

pub cut_sum-requires : goal.cut_sum-requires
cut_sum-requires c =
    parts _ _ c.below_half-s.result.twos c.below_half-s.result.high c.below_half-s.result.low c.below_half-s.ensures.1 (omega (arith, c.below_half-s.ensures.0))

pub returns-then-x-lt1022 : goal.returns-then-x-lt1022
returns-then-x-lt1022 c =
    middle c.args.p c.well_formed.0.1 c.requires.0 c.cut_sum.result c.below_half-s.result.twos c.below_half-s.result.high c.below_half-s.result.low c.if-x-lt978.false c.if-x-lt1022.true c.below_half-s.ensures.1 c.cut_sum.ensures

pub cut_sum-requires-2 : goal.cut_sum-requires-2
cut_sum-requires-2 c =
    parts _ _ c.from_half-s.result.twos c.from_half-s.result.high c.from_half-s.result.low c.from_half-s.ensures.1 (omega (arith, c.from_half-s.ensures.0))

pub returns : goal.returns
returns c =
    last c.args.p c.well_formed.0.1 c.requires.0 c.cut_sum-2.result c.from_half-s.result.twos c.from_half-s.result.high c.from_half-s.result.low c.requires.1 c.if-x-lt1022.false c.from_half-s.ensures.1 c.cut_sum-2.ensures
