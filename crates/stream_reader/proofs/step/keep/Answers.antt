-- `stream_reader::step::keep` meets its contract. A byte of the head is not kept, nor one that finds no room.
-- Assumes nothing.
use Rattle.stream_reader.proofs.Steps.{keep_none, keep_out, keep_in}
use Rattle.stream_reader.proofs.step.keep.Goals as goal

pub returns-then-at-lt6 : goal.returns-then-at-lt6
returns-then-at-lt6 c = keep_none _ _ _ c.if-at-lt6.true

pub returns-then-place-payload : goal.returns-then-place-payload
returns-then-place-payload c = keep_in _ _ _ c.if-at-lt6.false

pub returns-else-place-payload : goal.returns-else-place-payload
returns-else-place-payload c = keep_out _ _ _ c.if-at-lt6.false c.if-place-payload.false
