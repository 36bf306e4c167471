-- `graph_messages::scan_check` meets its contract. The invariant: what is known is the scan of the messages passed. Assumes nothing.
use mathlib.Core.Path.{◌∙◌}
use native.Mathlib.Numerals.{add-one}
use Rattle.graph_lists.specs.Messages.{scan}
use Rattle.graph_messages.proofs.Least.{start_ordered}
use Rattle.graph_messages.proofs.scan_check.Goals as goal

pub loop-i-init : goal.loop-i-init
unfolding scan
loop-i-init c = (c.start_scan-s.ensures, start_ordered _ _ _ _ 0xFFFF_FFFF_FFFF_FFFF c.args.odd c.start_scan-s.ensures)

pub loop-i-preserved : goal.loop-i-preserved
unfolding scan
loop-i-preserved c = (rw add-one (c.scanned-s.ensures.scan ∙ rw c.loop-i.invariant.0), c.scanned-s.ensures.ordered)
