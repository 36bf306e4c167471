-- The weight of a correction is finite: its bits are 0 or 1, and its priors are within 30. Assumes nothing.
use mathlib.Core.Path.{◌≡◌, subst}
use mathlib.Core.Bool.{Bool, true, false, cond}
use mathlib.Core.List.{List}
use Prim.Native.Nat.{ℕ, zero, suc, ◌+◌, ◌*◌, ◌<◌, ◌≤◌}
use native.Mathlib.Omega.{arith}
use lib.IntN.{pos}
use lib.Ieee.{Float, nan, binary64, neg, lt, le, of_int}
use lib.ListN.{length, get_or, length-map, get_or-map}
use Rattle.numbers.specs.Floats.{is_finite, saturation, zero⁺}
use Rattle.numbers.proofs.Cases.{and_both}
use Rattle.numbers.proofs.Sizes.{Within, within_finite, between_within, round_within, add_within, mul_within}
use Rattle.graph_lists.specs.Model.{prior_good}
use Rattle.relay_step.specs.Leg.{hard_bit, hard_decision, cost, correction_weight}

-- ---- the hard decision

-- a bit is 0 or 1
bit_small : (p : Float) → hard_bit p ≤ 1
unfolding hard_bit
bit_small p = chosen (lt p zero⁺)
  where
    chosen : (b : Bool) → cond {A = ℕ} b 1 0 ≤ 1
    chosen true = omega arith
    chosen false = omega arith

-- past the end stands the bit of a NaN, which is 0
bit_at : (posterior : List Float) (m : ℕ) → get_or (hard_decision posterior) m 0 ≡ hard_bit (get_or posterior m nan)
unfolding hard_decision hard_bit lt
bit_at posterior m = get_or-map hard_bit posterior m nan

-- the bits of a hard decision are 0 or 1
pub hard_bits_lem : (posterior : List Float) (m : ℕ) → get_or (hard_decision posterior) m 0 ≤ 1
hard_bits_lem posterior m = rw bit_at (bit_small (get_or posterior m nan))

-- as many as there are posteriors
pub hard_many : (posterior : List Float) → length (hard_decision posterior) ≡ length posterior
unfolding hard_decision
hard_many posterior = length-map posterior hard_bit

-- ---- the weight

-- a prior that passes 4 is within 30
pub prior_within : (p : Float) → prior_good p ≡ true → Within p 30
unfolding prior_good
prior_within p h = let both = and_both (le (neg saturation) p) (le p saturation) h in between_within p saturation 30 both.0 both.1 (omega arith)

-- and so is its product with a bit
cost_within : (p : Float) (bit : ℕ) → bit ≤ 1 → Within p 30 → Within (cost p bit) 30
unfolding cost of_int
cost_within p bit h w = mul_within (of_int binary64 (pos bit)) p 1 30 (round_within false bit 1 1 (omega arith) (omega arith) (omega arith)) w (omega arith)

-- the weight of n bits over priors that pass 4
pub weight_within : (prior : List Float) (bits : List ℕ) (n : ℕ) → ((m : ℕ) → m < n → prior_good (get_or prior m nan) ≡ true)
    → ((m : ℕ) → get_or bits m 0 ≤ 1) → n ≤ 65536 → Within (correction_weight prior bits n) (30 * n)
unfolding correction_weight
weight_within prior bits zero good small most = omega arith
weight_within prior bits (suc n) good small most =
    let before : Within (correction_weight prior bits n) (30 * n) = weight_within prior bits n (λ m l. good m (omega arith)) small (omega arith) in
    let last : Within (cost (get_or prior n nan) (get_or bits n 0)) 30 = cost_within _ _ (small n) (prior_within _ (good n (omega arith))) in
    let one_more : 30 * n + 30 ≡ 30 * suc n = omega arith in
    subst (λ (k : ℕ). Within (correction_weight prior bits (suc n)) k) one_more (add_within _ _ (30 * n) 30 before last (omega arith))

-- so it is finite
pub weight_finite : (prior : List Float) (bits : List ℕ) (n : ℕ) → ((m : ℕ) → m < n → prior_good (get_or prior m nan) ≡ true)
    → ((m : ℕ) → get_or bits m 0 ≤ 1) → n ≤ 65536 → is_finite (correction_weight prior bits n) ≡ true
weight_finite prior bits n good small most = within_finite _ (30 * n) (weight_within prior bits n good small most)
