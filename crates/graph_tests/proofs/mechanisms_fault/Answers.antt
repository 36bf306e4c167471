-- `graph_tests::mechanisms_fault` meets its contract. The invariant: none of the first m refuses; a mechanism's part lies within the detectors, which the offsets cut. Assumes nothing.
use mathlib.Core.Path.{refl, sym, ap, ◌∙◌}
use Rattle.std.proofs.lemmas.Result.{err_from_is_err_and}
use Rattle.refusals.proofs.Tests.{first_turn, first_stop}
use Rattle.refusals.specs.Tests.{is_done, first_of}
use Rattle.graph_lists.specs.Model.{mechanism_fault}
use Rattle.graph_lists.proofs.Cuts.{cut_bounds}
use Rattle.graph_lists.proofs.ModelTests.{mech_at}
use Rattle.graph_tests.specs.Numbers.{given_fault}
use Rattle.graph_tests.proofs.mechanisms_fault.Goals as goal

pub loop-m-init : goal.loop-m-init
unfolding first_of
loop-m-init c = refl

pub slice_bounds-mechanism_fault-end : goal.slice_bounds-mechanism_fault-end
slice_bounds-mechanism_fault-end c = (cut_bounds _ _ _ c.loop-m.m _ _ c.requires.offsets c.loop-m-test.true c.at-start.ensures c.at-end.ensures).1

pub returns-in_err-mechanism_fault : goal.returns-in_err-mechanism_fault
returns-in_err-mechanism_fault c =
    let p = err_from_is_err_and c.from_residual.result c.from_residual.ensures.1 in
    let h = mech_at c.args.checks (given_fault c.args.given c.args.numbers.now) c.args.off.now c.args.dets.now c.loop-m.m _ _ _
    c.at-start.ensures c.at-end.ensures c.in_err-mechanism_fault.ensures in
    rw (p.1, p.2)
    (h ∙ sym (first_stop (mechanism_fault c.args.checks (given_fault c.args.given c.args.numbers.now) c.args.off.now c.args.dets.now) c.loop-m.m _
    c.loop-m-test.true c.loop-m.invariant (ap is_done (sym h))))

pub loop-m-preserved : goal.loop-m-preserved
loop-m-preserved c =
    first_turn (mechanism_fault c.args.checks (given_fault c.args.given c.args.numbers.now) c.args.off.now c.args.dets.now) c.loop-m.m c.loop-m.invariant
    (sym (mech_at _ _ _ _ c.loop-m.m _ _ _ c.at-start.ensures c.at-end.ensures c.in_ok-mechanism_fault.ensures))
