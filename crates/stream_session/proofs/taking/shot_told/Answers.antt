-- `stream_session::taking::shot_told` meets its contract. What the decode answered is told with its correction. Assumes nothing.
use Rattle.std.proofs.Common.{ap, ◌∙◌}
use Rattle.stream_table.specs.Table.{Decoding}
use Rattle.stream_session.specs.Shots.{tells}
use Rattle.stream_session.proofs.taking.shot_told.Goals as goal

pub returns : goal.returns
unfolding tells
returns c = c.answered.ensures ∙ ap (λ (d : Decoding). tells c.args.s d c.args.line.now) c.decode_shot-d.ensures
