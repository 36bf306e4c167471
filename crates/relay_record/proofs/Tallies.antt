-- What a leg adds to the records, as the code has it. Assumes nothing.
use mathlib.Core.Path.{◌≡◌}
use mathlib.Core.Bool.{Bool}
use mathlib.Core.List.{List}
use Prim.Native.Nat.{ℕ}
use lib.Ieee.{Float}
use lib.ListN.{set}
use Rattle.relay_calls.specs.Records.{values_of, record_of_leg}

-- a leg's values, entered in the leg lists
abbrev pub Entered : Bool → Float → ℕ → ℕ → List ℕ → List ℕ → List Float → List ℕ → List ℕ → List Float → Type 0
Entered b weight k r ss is ws ss' is' ws' =
    let values = values_of (record_of_leg b weight k) in
    (ss' ≡ set ss r values.leg_state) × (is' ≡ set is r values.leg_iterations) × (ws' ≡ set ws r values.leg_weight)
