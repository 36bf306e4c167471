-- Within the limit of mechanisms the public test of settings is 9 to 19 alone. Assumes nothing.
use mathlib.Core.Path.{◌≡◌}
use mathlib.Core.List.{List}
use Prim.Native.Nat.{ℕ, ◌≤◌}
use lib.Ieee.{Float}
use borrow.Author.Tests.{le-leb}
use Rattle.refusals.specs.Tests.{unless, or_else}
use Rattle.relay_settings.specs.declared.Settings.{Settings}
use Rattle.relay_settings.specs.Settings.{settings_fault, check_settings}

pub size_passed : (t : Settings) (mechanisms : ℕ) (gammas : List Float) → mechanisms ≤ 65536 → check_settings t mechanisms gammas ≡ settings_fault t mechanisms gammas
unfolding check_settings unless or_else
size_passed t mechanisms gammas h = rw (le-leb mechanisms 65536 h)
