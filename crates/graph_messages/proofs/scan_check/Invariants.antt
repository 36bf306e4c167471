-- `graph_messages::scan_check` meets its contract. The invariant: what is known is the scan of the messages passed. Assumes nothing.
use mathlib.Core.Path.{◌≡◌}
use Rattle.graph_lists.specs.Messages.{scan_of, scan}
use Rattle.graph_messages.specs.Needs.{Ordered}
use Rattle.graph_messages.proofs.scan_check.Given as goal

abbrev pub invariant-loop-i : goal.invariant-loop-i
invariant-loop-i l = (scan_of l.s.total_sign l.s.min1 l.s.min2 l.s.least ≡ scan l.odd l.messages l.i) × Ordered l.s.min1 l.s.min2
