-- `relay_orders::is_index_order` meets its contract. Each place holds its own number. Assumes nothing.
use mathlib.Core.Path.{◌≡◌}
use Prim.Native.Nat.{ℕ, ◌<◌}
use native.Mathlib.Omega.{arith}
use lib.ListN.{length, get_or}
use Rattle.std.proofs.Common.{rules}
use Rattle.numbers.proofs.Loops.{is_table}
use Rattle.relay_orders.proofs.is_index_order.Goals as goal

pub returns-then-order-checks : goal.returns-then-order-checks
returns-then-order-checks c = λ e.
    let each : (k : ℕ) → k < length c.args.order.now → get_or c.args.order.now k 0 ≡ k = search rules in
    is_table _ _ _ c.if-order-checks.true (λ k h. each k (omega arith))
