-- `relay_check::update_with` meets its contract: what is sent at all places but the one of the least is right, and that one is put right. Assumes nothing.
use Rattle.relay_check.proofs.Sends.{sends_next, sends_least}
use Rattle.relay_check.proofs.update_with.Goals as goal

pub returns-then-least-v_to_c : goal.returns-then-least-v_to_c
returns-then-least-v_to_c g c way is =
    sends_next _ way _ _ _ _ _ _ _ _ _ _ _ c.requires.rises
    c.requires.per_edge.to_checks
    c.scan_check-s.ensures
    c.weighed-least_sent.ensures
    (is _ _ c.clip-minus.ensures)
    (is _ _ c.clip-plus.ensures) c.send.ensures _ _ _
    c.if-least-v_to_c.true c.weighed-next_sent.ensures c.by_sign-signed.ensures (is _ _ c.clip.ensures)

pub returns : goal.returns
returns g c way is =
    sends_least _ way _ _ _ _ _ _ _ _ _ _ _ c.requires.rises
    c.requires.per_edge.to_checks
    c.scan_check-s.ensures
    c.weighed-least_sent.ensures
    (is _ _ c.clip-minus.ensures)
    (is _ _ c.clip-plus.ensures) c.send.ensures c.if-least-v_to_c.false
