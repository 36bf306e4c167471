-- A variable's messages, from its entries as the code reads them, which name what all of their side do. Assumes nothing.
use mathlib.Core.Path.{◌≡◌, ap}
use mathlib.Core.List.{List}
use Prim.Native.Nat.{ℕ, ◌+◌, ◌<◌}
use lib.Ieee.{Float, nan}
use lib.ListN.{length, get_or, take, set}
use Rattle.numbers.proofs.Turns.{fold_turn}
use Rattle.min_sum_pass.specs.MinSum.{damped, damped_messages}

-- the messages that entries name, one entry further
pub written_turn : (sum : Float) (c_to_v v_to_c out : List Float) (xs : List ℕ) (i m : ℕ) (x : Float) → i < length xs → m ≡ get_or xs i 0
    → out ≡ damped_messages sum c_to_v v_to_c (take i xs) → x ≡ damped sum (get_or c_to_v m nan) (get_or out m nan) → set out m x ≡ damped_messages sum c_to_v v_to_c (take (i + 1) xs)
unfolding damped_messages
written_turn sum c_to_v v_to_c out xs i m x h e s d = fold_turn _ _ _ _ xs i m 0 h e s (ap (set out m) d)
