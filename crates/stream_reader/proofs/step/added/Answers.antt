-- `stream_reader::step::added` meets its contract. Field by field.
-- Assumes nothing.
use Rattle.stream_reader.specs.Reading.{added}
use Rattle.stream_reader.proofs.step.added.Goals as goal

pub returns : goal.returns
unfolding added
returns c =
    rw (
      c.summed.ensures,
      c.grown-5.ensures,
      c.grown-4.ensures,
      c.grown-3.ensures,
      c.grown-2.ensures,
      c.grown.ensures,
      c.wrapping_add_usize.ensures.value,
    )
