-- `min_sum_pass::check::send_check` meets its contract. What is sent at all positions but the one of the least is right, and that one is put right. Assumes nothing.
use Rattle.min_sum_pass.proofs.Sends.{sends_next, sends_least}
use Rattle.min_sum_pass.proofs.check.send_check.Goals as goal

pub returns-then-least-v_to_c : goal.returns-then-least-v_to_c
returns-then-least-v_to_c c = sends_next _ _ _ _ _ _ _ _ c.scan_check-s.ensures
    c.send.ensures _ c.if-least-v_to_c.true c.sent_at.ensures

pub returns-else-least-v_to_c : goal.returns-else-least-v_to_c
returns-else-least-v_to_c c = sends_least _ _ _ _ _ _ _ _ c.scan_check-s.ensures c.send.ensures c.if-least-v_to_c.false
