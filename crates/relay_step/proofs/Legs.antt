-- One turn of each loop of a leg, as the code has it. Assumes nothing.
use mathlib.Core.Path.{◌≡◌, refl, sym, ap, ◌∙◌}
use mathlib.Core.Bool.{Bool, true, false}
use mathlib.Core.List.{List, map}
use Prim.Native.Nat.{ℕ, zero, suc, ◌+◌, ◌-◌, ◌<◌, ◌≤◌}
use native.Mathlib.Numerals.{add-one}
use native.Mathlib.Omega.{arith}
use lib.Bits.{bit_xor}
use lib.Ieee.{Float, nan}
use lib.ListN.{length, get_or, take}
use lib.Seq.{take_all}
use Rattle.numbers.specs.Floats.{◌+ᶠ◌}
use Rattle.numbers.proofs.Turns.{fold_turn, turns_turn}
use Rattle.relay_step.specs.Step.{State}
use Rattle.relay_step.specs.Leg.{leg, hard_bit, hard_decision, parity, cost, correction_weight, run_leg}

-- the weight, one variable further
pub weight_turn : (prior : List Float) (bits : List ℕ) (v : ℕ) (w x : Float) → w ≡ correction_weight prior bits v → x ≡ cost (get_or prior v nan) (get_or bits v 0)
    → w +ᶠ x ≡ correction_weight prior bits (v + 1)
unfolding correction_weight
weight_turn prior bits v w x p q = turns_turn _ _ w (w +ᶠ x) v p (ap (λ y. w +ᶠ y) q)

-- and all of it
pub hard_done : (posterior : List Float) (out : List ℕ) (v : ℕ) → length posterior ≤ v → length out ≤ v → take v out ≡ map hard_bit (take v posterior) → out ≡ hard_decision posterior
unfolding hard_decision
hard_done posterior out v h k p = sym (take_all v out k) ∙ p ∙ ap (map hard_bit) (take_all v posterior h)

-- the parity, one entry further
pub parity_turn : (bits entries : List ℕ) (i v p : ℕ) → i < length entries → v ≡ get_or entries i 0 → p ≡ parity bits (take i entries) → bit_xor p (get_or bits v 0) ≡ parity bits (take (i + 1) entries)
unfolding parity
parity_turn bits entries i v p h e q = fold_turn _ _ p _ entries i v 0 h e q refl

-- ---- `run_leg`

module _ (step : State → State) (test : List Float → Bool) where
  -- a turn: t is what the step left, and b what the test said
  pub leg_turn : (s t : State) (n k : ℕ) (b : Bool) → k < n → t ≡ step s → b ≡ test t.posterior → run_leg step test (n - k) false k s ≡ run_leg step test (n - (k + 1)) b (k + 1) t
  leg_turn s t n k b h p q = let e : n - k ≡ suc (n - (k + 1)) = omega arith in rw (e, q, p, add-one)

  -- the way out where the test is passed
  pub leg_passed : (s : State) (n k : ℕ) → run_leg step test n true k s ≡ leg true k s
  leg_passed s zero k = refl
  leg_passed s (suc n) k = refl
