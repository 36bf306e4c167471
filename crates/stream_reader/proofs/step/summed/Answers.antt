-- `stream_reader::step::summed` meets its contract. Outside the mechanisms' bytes the sum stays, and within them a degree's byte is added.
-- Assumes nothing.
use Rattle.stream_reader.proofs.Steps.{summed_before, summed_after, summed_within}
use Rattle.stream_reader.proofs.step.summed.Goals as goal

pub returns-then-at-lt18 : goal.returns-then-at-lt18
returns-then-at-lt18 c = summed_before _ _ _ _ c.if-at-lt18.true

pub returns-then-mechanisms-at : goal.returns-then-mechanisms-at
returns-then-mechanisms-at c = summed_after _ _ _ _ c.if-at-lt18.false c.if-mechanisms-at.true

pub returns : goal.returns
returns c = summed_within _ _ _ _ _ c.if-at-lt18.false c.if-mechanisms-at.false c.grown.ensures
