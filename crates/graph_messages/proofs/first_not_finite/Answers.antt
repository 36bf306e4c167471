-- `graph_messages::first_not_finite` meets its contract. The invariant: the values passed are finite. Assumes nothing.
use mathlib.Core.Path.{refl}
use Rattle.std.proofs.lemmas.Result.{err_from_is_err_and}
use Rattle.refusals.specs.Tests.{first_of}
use Rattle.refusals.proofs.Tests.{first_err, first_ok}
use Rattle.graph_lists.specs.Messages.{value_fault}
use Rattle.graph_messages.proofs.first_not_finite.Goals as goal

pub loop-v-init : goal.loop-v-init
unfolding first_of
loop-v-init c = refl

pub returns-in_err-value_fault : goal.returns-in_err-value_fault
unfolding value_fault
returns-in_err-value_fault c =
    let p = err_from_is_err_and c.from_residual.result c.from_residual.ensures.1 in
    rw (p.1, p.2) (first_err (value_fault c.args.values.now) c.loop-v.v _ _ c.loop-v-test.true c.loop-v.invariant c.in_err-value_fault.ensures)

pub loop-v-preserved : goal.loop-v-preserved
unfolding value_fault
loop-v-preserved c = first_ok (value_fault c.args.values.now) c.loop-v.v c.loop-v.invariant c.in_ok-value_fault.ensures
