-- `graph_tests::detectors_fault_from` meets its contract. The invariant: none from `from` up to i refuses. Assumes nothing.
use mathlib.Core.Path.{◌≡◌}
use Prim.Native.Nat.{◌+◌, ◌-◌, ◌≤◌}
use lib.ListN.{length}
use Rattle.refusals.specs.Tests.{first_of}
use Rattle.std.specs.Prelude.{Ok}
use Rattle.graph_lists.specs.Model.{detector_fault}
use Rattle.graph_tests.proofs.detectors_fault_from.Given as goal

abbrev pub invariant-loop-i : goal.invariant-loop-i
invariant-loop-i l = (l.i - l.from ≤ length l.ds - l.from) × (first_of (l.i - l.from) (λ j. detector_fault l.checks l.m l.ds (l.from + j)) ≡ Ok tt)
