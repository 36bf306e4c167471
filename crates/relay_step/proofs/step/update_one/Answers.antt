-- `relay_step::step::update_one` meets its contract. What the check sends is the definition's. Assumes nothing.
use Rattle.relay_step.proofs.Passes.{check_is}
use Rattle.relay_step.proofs.step.update_one.Goals as goal

pub returns-in-Off : goal.returns-in-Off
returns-in-Off c =
    rw c.in-Off.is
    (check_is _ _ _ _ _ _ _ _ _ _ _ _ _ c.args.c _ _ c.start-start.ensures.value c.end-end.ensures.value c.update_part.ensures)

pub returns-in-On : goal.returns-in-On
returns-in-On c =
    rw c.in-On.is
    (check_is _ _ _ _ _ _ _ _ _ _ _ _ _ c.args.c _ _ c.start-start.ensures.value c.end-end.ensures.value c.clipped_part.ensures)
