-- `stream_reader::step::grown` meets its contract. Outside its bytes a number stays, and within them the byte is added at its worth.
-- Assumes nothing.
use Rattle.stream_reader.proofs.Steps.{grown_before, grown_after, grown_within}
use Rattle.stream_reader.proofs.step.grown.Goals as goal

pub returns-then-at-from : goal.returns-then-at-from
returns-then-at-from c = grown_before _ _ _ _ _ c.if-at-from.true

pub returns-then-size-at : goal.returns-then-size-at
returns-then-size-at c = grown_after _ _ _ _ _ c.if-at-from.false c.if-size-at.true

pub returns : goal.returns
returns c = grown_within _ _ _ _ _ _ _ c.if-at-from.false c.if-size-at.false c.placed.ensures c.wrapping_add_usize.ensures.value
