-- `stream_session::telling::refused` meets its contract. The refusal's number decides. Assumes nothing.
use Rattle.stream_session.specs.Shots.{refuses, says}
use Rattle.stream_session.proofs.Cases.{of_shot}
use Rattle.stream_session.proofs.telling.refused.Goals as goal

pub returns-then-is_of_shot : goal.returns-then-is_of_shot
unfolding refuses says
returns-then-is_of_shot c =
    rw (
      c.counted.ensures,
      c.refused_line-n.ensures.0,
      c.refused_line-n.ensures.1,
      of_shot _ _ _ _ c.number_of-code.ensures c.is_of_shot.ensures
          c.if-is_of_shot.true,
      c.number_of-code.ensures,
    )

pub returns : goal.returns
unfolding refuses
returns c = rw (of_shot _ _ _ _ c.number_of-code.ensures c.is_of_shot.ensures c.if-is_of_shot.false) c.stop.ensures
