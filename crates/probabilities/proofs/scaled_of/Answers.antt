-- `probabilities::scaled_of` meets its contract. At 0 and at 1 it is the cut; between, the size with the sign of the definition. Assumes nothing.
-- ---- at 0 and at 1
use mathlib.Core.Path.{◌≡◌, sym, ap, ◌∙◌, subst}
use mathlib.Core.Bool.{true, false}
use Prim.Native.Nat.{ℕ, ◌*◌, ◌^◌, ◌≤◌, ◌<◌}
use native.Mathlib.Omega.{arith}
use lib.Dec.{T}
use lib.IntN.{ℤ, pos, negsuc, neg_ℤ, ◌-ℤ◌, +ℤ_idl}
use lib.Ieee.{Float, fin, eq, lt, of_bits}
use lib.Ieee.Positive.{num, den, den_pos, positive}
use mir.Syntax.{w64}
use mir.Val.{to_z, of_z, SFits}
use mir.ValLaws.{to_z-of_z}
use mir.Facts.{to_z_pos}
use borrow.Author.Tests.{ltb-true, ltb-false}
use Rattle.numbers.specs.Floats.{zero⁺, one⁺}
use Rattle.probabilities.specs.Scaled.{most, scaled_of}
use Rattle.probabilities.specs.Ratios.{size_of}
use Rattle.probabilities.specs.Calls.{is_probability}
use Rattle.probabilities.proofs.Priors.{at_zero, at_one, at_below, at_from, size_below, size_from, size_of_most, mag_minus, zero_is, one_is, positive_num, above_zero, at_most_one, below_one, half_test}
use Rattle.probabilities.proofs.scaled_of.Goals as goal

zero_scaled : (p : Float) → eq p zero⁺ ≡ true → pos (most * 2 ^ 32) ≡ scaled_of p
unfolding scaled_of
zero_scaled p e = sym (at_zero (num p) (den p) (zero_is p e))

one_scaled : (p : Float) → eq p one⁺ ≡ true → neg_ℤ (pos (most * 2 ^ 32)) ≡ scaled_of p
unfolding scaled_of
one_scaled p e = let f = one_is p e in sym (at_one (num p) (den p) (omega (arith, den_pos p, f)) f)

-- ---- between

under_half : (p : Float) → T (positive p) → lt p (fin false 1 (negsuc 0)) ≡ true → pos (size_of p) ≡ scaled_of p
unfolding scaled_of
under_half p n e =
    let h = ltb-true (2 * num p) (den p) (sym (half_test p n) ∙ e) in
    ap pos (size_below p h) ∙ sym (at_below (num p) (den p) (positive_num p n) h)

over_half : (p : Float) → T (positive p) → num p < den p → lt p (fin false 1 (negsuc 0)) ≡ false → neg_ℤ (pos (size_of p)) ≡ scaled_of p
unfolding scaled_of
over_half p n o e =
    let h = ltb-false (2 * num p) (den p) (sym (half_test p n) ∙ e) in
    ap (λ (m : ℕ). neg_ℤ (pos m)) (size_from p h) ∙ sym (at_from (num p) (den p) (positive_num p n) o h)

module _ (p : Float) (h : ℕ) (e : h ≡ size_of p) where
  small : h ≤ most * 2 ^ 32
  small = omega (arith, e, size_of_most p)

  -- the size as a signed number
  as_signed : to_z w64 h ≡ pos h
  as_signed = to_z_pos w64 {n = h} (omega (arith, small))

  -- and its negative
  as_minus : pos 0 -ℤ to_z w64 h ≡ neg_ℤ (pos h)
  as_minus = ap (λ (z : ℤ). pos 0 -ℤ z) as_signed ∙ +ℤ_idl (neg_ℤ (pos h))

  minus_fits : SFits w64 (pos 0 -ℤ to_z w64 h)
  minus_fits = subst (λ (z : ℤ). SFits w64 z) (sym as_minus) (record { sfits = omega (arith, small, mag_minus h) })

  plain_answer : pos (size_of p) ≡ scaled_of p → to_z w64 h ≡ scaled_of p
  plain_answer f = as_signed ∙ ap pos e ∙ f

  minus_answer : neg_ℤ (pos (size_of p)) ≡ scaled_of p → to_z w64 (of_z w64 (pos 0 -ℤ to_z w64 h)) ≡ scaled_of p
  minus_answer f = to_z-of_z w64 (pos 0 -ℤ to_z w64 h) minus_fits ∙ as_minus ∙ ap (λ (m : ℕ). neg_ℤ (pos m)) e ∙ f

between : (p : Float) → is_probability p ≡ true → eq p zero⁺ ≡ false → eq p one⁺ ≡ false → T (positive p) × (num p < den p)
between p h z o = let n = above_zero p h z in (n, below_one p o n (at_most_one p h n))

-- ---- the code

pub returns-then-p : goal.returns-then-p
unfolding of_bits
returns-then-p c = zero_scaled c.args.p c.if-p.true

pub returns-then-p-2 : goal.returns-then-p-2
unfolding of_bits
returns-then-p-2 c = one_scaled c.args.p c.if-p-2.true

pub size_of-size-requires : goal.size_of-size-requires
unfolding of_bits
size_of-size-requires c = between c.args.p c.requires c.if-p.false c.if-p-2.false

pub overflow_cast-size : goal.overflow_cast-size
overflow_cast-size c = record { sfits = omega (arith, small c.args.p c.size_of-size.result c.size_of-size.ensures) }

pub returns-then-p-3 : goal.returns-then-p-3
unfolding of_bits
returns-then-p-3 c =
    let b = between c.args.p c.requires c.if-p.false c.if-p-2.false in
    plain_answer c.args.p c.size_of-size.result c.size_of-size.ensures (under_half c.args.p b.0 c.if-p-3.true)

pub overflow_sub-result : goal.overflow_sub-result
overflow_sub-result c =
    minus_fits c.args.p c.size_of-size.result c.size_of-size.ensures

pub returns : goal.returns
unfolding of_bits
returns c =
    let b = between c.args.p c.requires c.if-p.false c.if-p-2.false in
    minus_answer c.args.p c.size_of-size.result c.size_of-size.ensures (over_half c.args.p b.0 b.1 c.if-p-3.false)
