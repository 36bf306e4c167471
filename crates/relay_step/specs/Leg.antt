-- A leg: `start_leg`, `run_leg`, `update_hard_decision_and_check` and `correction_weight` of relay.rs, as functions on lists. Definitions only.
-- Assumes nothing.
use Rattle.std.specs.Prelude.{ℕ, zero, suc, Bool, true, false, cond, eqb, pos, Float, get_or}
use mathlib.Core.List.{List, map, foldl}
use Rattle.std.specs.Int.Bits.{bit_xor}
use Rattle.std.specs.Float.{nan, binary64}
use Rattle.std.specs.Float.Ieee.{lt, of_int}
use Rattle.numbers.specs.Floats.{◌+ᶠ◌, ◌*ᶠ◌, zero⁺, zero⁻}
use Rattle.numbers.specs.Loops.{turns, every}
use Rattle.graph_lists.specs.Graph.{Graph, check_entries}
use Rattle.graph_lists.specs.Messages.{from_variables, cleared}
use Rattle.relay_step.specs.Step.{State, state}

-- `start_leg`: check messages cleared, variable messages at the priors, the posterior carried on
unfoldable pub start_leg : Graph → List Float → List Float → State
start_leg g prior posterior = state (cleared g) (from_variables g prior) posterior

-- a bit is 1 when its posterior is below 0
unfoldable pub hard_bit : Float → ℕ
hard_bit p = cond (lt p zero⁺) 1 0

-- the hard decision
unfoldable pub hard_decision : List Float → List ℕ
hard_decision posterior = map hard_bit posterior

-- the parity of the bits that the entries name
unfoldable pub parity : List ℕ → List ℕ → ℕ
parity bits entries = foldl (λ (p v : ℕ). bit_xor p (get_or bits v 0)) 0 entries

-- the check c has the parity that the syndrome asks
unfoldable pub matches : Graph → List ℕ → List ℕ → ℕ → Bool
matches g bits syndrome c = eqb (parity bits (check_entries g c)) (get_or syndrome c 0)

-- what `update_hard_decision_and_check` answers: all parities match
unfoldable pub satisfied : Graph → List ℕ → List Float → Bool
satisfied g syndrome posterior = every g.checks (matches g (hard_decision posterior) syndrome)

-- a leg that has run: whether its last iteration passed the test, how many it took, and what it left
pub record Leg : Type 0 where
  pub converged : Bool
  pub iterations : ℕ
  pub left : State

abbrev pub leg : Bool → ℕ → State → Leg
leg b k s = record { converged = b; iterations = k; left = s }

-- `run_leg` with n iterations left and k done, of which the last passed the test or not. `step` is one iteration, and `test` the test
abbrev pub run_leg : (State → State) → (List Float → Bool) → ℕ → Bool → ℕ → State → Leg
run_leg step test zero ok k s = leg ok k s
run_leg step test (suc n) true k s = leg true k s
run_leg step test (suc n) false k s = let t = step s in run_leg step test n (test t.posterior) (suc k) t

-- `f64::from(bit) * prior`
unfoldable pub cost : Float → ℕ → Float
cost prior bit = of_int binary64 (pos bit) *ᶠ prior

-- `correction_weight`: the sum of bit times prior over the variables below n, from -0.0
unfoldable pub correction_weight : List Float → List ℕ → ℕ → Float
correction_weight prior bits n = turns n (λ v weight. weight +ᶠ cost (get_or prior v nan) (get_or bits v 0)) zero⁻
