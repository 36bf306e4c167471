-- `relay_orders::names_each_once` meets its contract. The invariant: of the names so far none is beyond the checks and none stands twice, and `seen` counts
-- them. Each way out says what the test says: another length, a name that is no check, a name twice, or each once. Assumes nothing.
use mathlib.Core.Path.{refl, sym}
use Prim.Native.Nat.{ℕ}
use native.Mathlib.Omega.{arith}
use lib.ListN.{length-set, length-replicate}
use Rattle.relay_orders.proofs.OrderTests.{seen_start, seen_turn, seen_done, name_length, name_beyond, name_twice}
use Rattle.relay_orders.proofs.names_each_once.Goals as goal

pub returns-then-order-checks : goal.returns-then-order-checks
returns-then-order-checks c = sym (name_length _ _ c.if-order-checks.true)

pub loop-check-init : goal.loop-check-init
loop-check-init c = (length-replicate {A = ℕ} 65536 0, seen_start _ _)

pub returns-then-c-checks : goal.returns-then-c-checks
returns-then-c-checks c = sym (name_beyond _ _ c.loop-check.check-index c.loop-check-test.true c.if-c-checks.true)

pub returns-then-seen-c-ne0 : goal.returns-then-seen-c-ne0
returns-then-seen-c-ne0 c =
    sym (name_twice _ _ c.loop-check.check-index c.loop-check.seen _ (omega arith) c.loop-check-test.true refl c.if-c-checks.false c.if-seen-c-ne0.true c.loop-check.invariant.1)

pub loop-check-preserved : goal.loop-check-preserved
loop-check-preserved c = (
  simp length-set (omega arith),
  seen_turn _ _ c.loop-check.check-index c.loop-check.seen _ (omega arith) c.loop-check.invariant.0 c.loop-check-test.true refl
      c.if-c-checks.false c.if-seen-c-ne0.false c.loop-check.invariant.1,
)

pub returns : goal.returns
returns c = sym (seen_done _ _ c.loop-check.check-index c.loop-check.seen c.loop-check-test.false c.if-order-checks.false c.loop-check.invariant.1)
