-- `graph_tests::detectors_fault_from` meets its contract. The invariant: none from `from` up to i refuses. Assumes nothing.
use mathlib.Core.Path.{◌≡◌, refl, sym, ap, ◌∙◌}
use Prim.Native.Nat.{ℕ, ◌+◌, ◌-◌}
use native.Mathlib.Omega.{arith}
use lib.ListN.{length}
use Rattle.std.proofs.lemmas.Result.{err_from_is_err_and}
use Rattle.refusals.proofs.Tests.{first_turn, first_stop}
use Rattle.refusals.specs.Tests.{is_done, first_of}
use Rattle.graph_lists.specs.Model.{detector_fault}
use Rattle.graph_tests.proofs.detectors_fault_from.Goals as goal

pub loop-i-init : goal.loop-i-init
unfolding first_of
loop-i-init c =
    let e : c.args.from - c.args.from ≡ 0 = omega arith in
    (omega arith, rw e refl)

pub returns-in_err-detector_fault : goal.returns-in_err-detector_fault
returns-in_err-detector_fault c =
    let p = err_from_is_err_and c.from_residual.result c.from_residual.ensures.1 in
    let e : c.loop-i.i ≡ c.args.from + (c.loop-i.i - c.args.from) = omega (arith, c.loop-i.auto.i) in
    let h = c.in_err-detector_fault.ensures ∙ ap (detector_fault c.args.checks c.args.m c.args.ds.now) e in
    rw (p.1, p.2)
    (h ∙ sym (first_stop (λ (j : ℕ). detector_fault c.args.checks c.args.m c.args.ds.now (c.args.from + j)) (c.loop-i.i - c.args.from) (length c.args.ds.now - c.args.from)
    (omega arith) c.loop-i.invariant.1 (ap is_done (sym h))))

pub loop-i-preserved : goal.loop-i-preserved
loop-i-preserved c =
    let e : c.loop-i.i ≡ c.args.from + (c.loop-i.i - c.args.from) = omega (arith, c.loop-i.auto.i) in
    let n : c.loop-i.i + 1 - c.args.from ≡ (c.loop-i.i - c.args.from) + 1 = omega (arith, c.loop-i.auto.i) in (
      omega arith,
      rw n
          (first_turn (λ (j : ℕ). detector_fault c.args.checks c.args.m c.args.ds.now (c.args.from + j)) (c.loop-i.i - c.args.from) c.loop-i.invariant.1
          (sym (c.in_ok-detector_fault.ensures ∙ ap (detector_fault c.args.checks c.args.m c.args.ds.now) e))),
    )
