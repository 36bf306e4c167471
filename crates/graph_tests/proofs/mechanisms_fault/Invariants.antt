-- `graph_tests::mechanisms_fault` meets its contract. The invariant: none of the first m refuses; a mechanism's part lies within the detectors, which the offsets cut. Assumes nothing.
use mathlib.Core.Path.{◌≡◌}
use Rattle.refusals.specs.Tests.{first_of}
use Rattle.std.specs.Prelude.{Ok}
use Rattle.graph_lists.specs.Model.{mechanism_fault}
use Rattle.graph_tests.specs.Numbers.{given_fault}
use Rattle.graph_tests.proofs.mechanisms_fault.Given as goal

abbrev pub invariant-loop-m : goal.invariant-loop-m
invariant-loop-m l = first_of l.m (mechanism_fault l.checks (given_fault l.given l.numbers) l.off l.dets) ≡ Ok tt
