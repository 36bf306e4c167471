-- `min_sum_pass::check::send` meets its contract. The invariant: the messages passed are those sent. Assumes nothing.
use mathlib.Core.Path.{◌≡◌}
use lib.ListN.{take}
use Rattle.graph_lists.specs.Messages.{scan_of}
use Rattle.min_sum_pass.specs.MinSum.{sent_to}
use Rattle.min_sum_pass.proofs.check.send.Given as goal

abbrev pub invariant-loop-i : goal.invariant-loop-i
invariant-loop-i l = take l.i l.c_to_v ≡ sent_to l.scale (scan_of l.total_sign l.minimum l.minimum 0) l.v_to_c l.i
