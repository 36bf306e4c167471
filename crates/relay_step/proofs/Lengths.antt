-- How many messages there are after a check has sent its own and a variable has written its own. Assumes nothing.
use mathlib.Core.Path.{◌≡◌, refl, ◌∙◌}
use mathlib.Core.Bool.{Bool}
use mathlib.Core.List.{List, [], ◌∷◌}
use Prim.Native.Nat.{ℕ}
use lib.Ieee.{Float, nan}
use lib.ListN.{length, get_or, set, length-set}
use Rattle.numbers.specs.Floats.{◌-ᶠ◌}
use Rattle.numbers.proofs.Loops.{length_table}
use Rattle.relay_settings.specs.declared.Clip.{Clip}
use Rattle.relay_check.specs.Check.{sent_to, check_messages}
use Rattle.relay_step.specs.Step.{written}

-- a check sends as many messages as it has
pub length_sent : (alpha : Float) (clip : Clip) (odd : Bool) (vs : List ℕ) (xs : List Float) → length (check_messages alpha clip odd vs xs) ≡ length xs
unfolding check_messages sent_to
length_sent alpha clip odd vs xs = length_table (length xs) _

-- writing keeps the length
pub written_length : (p : Float) (c_to_v l : List Float) (ms : List ℕ) → length (written p c_to_v l ms) ≡ length l
unfolding written
written_length p c_to_v l [] = refl
written_length p c_to_v l (m ∷ ms) = written_length p c_to_v (set l m (p -ᶠ get_or c_to_v m nan)) ms ∙ length-set l m (p -ᶠ get_or c_to_v m nan)
