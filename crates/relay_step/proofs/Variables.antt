-- A variable's messages and sum, from its entries as the code reads them. Assumes nothing.
use mathlib.Core.Path.{◌≡◌, refl}
use mathlib.Core.List.{List}
use Prim.Native.Nat.{ℕ, ◌+◌, ◌<◌}
use lib.Ieee.{Float, nan}
use lib.ListN.{length, get_or, take, set}
use Rattle.numbers.specs.Floats.{◌-ᶠ◌}
use Rattle.numbers.proofs.Turns.{fold_turn}
use Rattle.relay_step.specs.Step.{written}

-- the messages that entries name, one entry further
pub written_turn : (p : Float) (c_to_v v_to_c out : List Float) (xs : List ℕ) (i m : ℕ) → i < length xs → m ≡ get_or xs i 0 → out ≡ written p c_to_v v_to_c (take i xs)
    → set out m (p -ᶠ get_or c_to_v m nan) ≡ written p c_to_v v_to_c (take (i + 1) xs)
unfolding written
written_turn p c_to_v v_to_c out xs i m h e s = fold_turn _ _ _ _ xs i m 0 h e s refl
