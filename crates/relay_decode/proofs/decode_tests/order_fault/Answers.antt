-- `relay_decode::decode_tests::order_fault` meets its contract. The index order passes both tests; another is tested by one, then by the other.
-- Assumes nothing.
use mathlib.Core.Path.{sym, ap, ◌∙◌}
use Rattle.std.proofs.lemmas.Result.{err_from_is_err_and}
use Rattle.refusals.specs.Tests.{or_else}
use Rattle.graph_messages.specs.Needs.{of_checks}
use Rattle.relay_orders.specs.Order.{names_fault, exchange_fault}
use Rattle.relay_calls.proofs.Named.{index_passes}
use Rattle.relay_decode.proofs.Faults.{names_passed}
use Rattle.relay_decode.proofs.decode_tests.order_fault.Goals as goal

pub returns-then-is_index_order : goal.returns-then-is_index_order
returns-then-is_index_order c = let g = of_checks c.args.checks c.args.check_var.now c.args.check_offset.now in
    sym
    (ap (λ o. or_else (names_fault c.args.checks o) (exchange_fault c.args.schedule g o)) (c.is_index_order.ensures c.if-is_index_order.true) ∙ index_passes c.args.schedule g)

pub returns-in_err-names_fault : goal.returns-in_err-names_fault
unfolding or_else
returns-in_err-names_fault c = let p = err_from_is_err_and c.from_residual.result c.from_residual.ensures.1 in rw (p.1, p.2, ← c.in_err-names_fault.ensures)

pub exchange_fault-requires : goal.exchange_fault-requires
exchange_fault-requires c = record {
  checks_le_max_checks = c.requires.checks_le_max_checks;
  offsets = c.requires.offsets;
  keys = c.requires.keys;
  order_value = names_passed _ _ c.in_ok-names_fault.ensures;
}

pub returns : goal.returns
unfolding or_else
returns c = rw (← c.in_ok-names_fault.ensures) c.exchange_fault.ensures
