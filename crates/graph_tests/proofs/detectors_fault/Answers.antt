-- `graph_tests::detectors_fault` meets its contract. What `rises_to` tells of the front decides it, or leaves the rest to the long way. Assumes nothing.
use mathlib.Core.Path.{◌≡◌, refl, sym, ◌∙◌}
use Prim.Native.Nat.{◌+◌, ◌-◌}
use native.Mathlib.Omega.{arith}
use lib.ListN.{length}
use Rattle.std.proofs.Common.{rules}
use Rattle.refusals.specs.Tests.{first_of}
use Rattle.graph_lists.specs.Model.{detector_fault}
use Rattle.graph_lists.proofs.ModelTests.{front_rest, front_out}
use Rattle.graph_tests.proofs.detectors_fault.Goals as goal

pub returns-then-is_empty : goal.returns-then-is_empty
unfolding first_of
returns-then-is_empty c = let e : length c.args.ds.now ≡ 0 = search rules in rw e refl

pub returns-then-checks-last : goal.returns-then-checks-last
returns-then-checks-last c =
    front_out _ _ _ c.rises_to-r.result c.rises_to-r.ensures c.rises_to-r.result (omega arith) (omega (arith, c.at-last.ensures, c.if-checks-last.true))

pub returns : goal.returns
returns c =
    let rest : c.detectors_fault_from.result ≡ first_of (length c.args.ds.now - (c.rises_to-r.result + 1)) (λ j. detector_fault c.args.checks c.args.m c.args.ds.now (c.rises_to-r.result + 1 + j)) = c.detectors_fault_from.ensures in
    rest ∙ sym (front_rest _ _ _ c.rises_to-r.result c.rises_to-r.ensures _ _ c.at-last.ensures c.if-checks-last.false refl)
