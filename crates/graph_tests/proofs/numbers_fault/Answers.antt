-- `graph_tests::numbers_fault` meets its contract. The invariant: none of the first i numbers is refused. Assumes nothing.
use mathlib.Core.Path.{refl, sym, ap, ◌∙◌}
use Rattle.std.proofs.lemmas.Result.{err_from_is_err_and}
use Rattle.refusals.proofs.Tests.{first_turn, first_stop}
use Rattle.refusals.specs.Tests.{is_done, first_of}
use Rattle.graph_tests.specs.Numbers.{given_fault}
use Rattle.graph_tests.proofs.numbers_fault.Goals as goal

pub loop-i-init : goal.loop-i-init
unfolding first_of
loop-i-init c = refl

pub returns-in_err-given_fault : goal.returns-in_err-given_fault
returns-in_err-given_fault c =
    let p = err_from_is_err_and c.from_residual.result c.from_residual.ensures.1 in
    let h = c.in_err-given_fault.ensures in
    rw (p.1, p.2) (h ∙ sym (first_stop (given_fault c.args.given c.args.numbers.now) c.loop-i.i _ c.loop-i-test.true c.loop-i.invariant (ap is_done (sym h))))

pub loop-i-preserved : goal.loop-i-preserved
loop-i-preserved c = first_turn (given_fault c.args.given c.args.numbers.now) c.loop-i.i c.loop-i.invariant (sym c.in_ok-given_fault.ensures)
