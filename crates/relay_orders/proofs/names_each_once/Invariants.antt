-- `relay_orders::names_each_once` meets its contract. The invariant: of the names so far none is beyond the checks and none stands twice, and `seen` counts
-- them. Each way out says what the test says: another length, a name that is no check, a name twice, or each once. Assumes nothing.
use mathlib.Core.Path.{◌≡◌}
use lib.ListN.{length}
use Rattle.relay_orders.proofs.OrderTests.{Seen}
use Rattle.relay_orders.proofs.names_each_once.Given as goal

abbrev pub invariant-loop-check : goal.invariant-loop-check
invariant-loop-check l = (length l.seen ≡ 65536) × Seen l.checks l.order l.check-index l.seen
