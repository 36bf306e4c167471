-- `relay_settings::gammas_fault` meets its contract. The invariant: none of the first i gammas is refused. Assumes nothing.
use mathlib.Core.Path.{◌≡◌}
use Rattle.refusals.specs.Tests.{first_of}
use Rattle.std.specs.Prelude.{Ok}
use Rattle.relay_settings.specs.Settings.{gamma_fault}
use Rattle.relay_settings.proofs.gammas_fault.Given as goal

abbrev pub invariant-loop-i : goal.invariant-loop-i
invariant-loop-i l = first_of l.i (gamma_fault l.gammas) ≡ Ok tt
