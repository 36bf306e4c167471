-- `stream_reader::step::opened` meets its contract. Past a whole record a new one begins.
-- Assumes nothing.
use Rattle.std.proofs.Common.{sym, ◌∙◌}
use Rattle.stream_reader.specs.Reading.{opened}
use Rattle.stream_reader.proofs.step.opened.Goals as goal

pub returns-then-is_whole : goal.returns-then-is_whole
unfolding opened
returns-then-is_whole c = rw (sym c.is_whole.ensures ∙ c.if-is_whole.true, c.new.ensures, c.wrapping_add_usize.ensures.value)

pub returns : goal.returns
unfolding opened
returns c = rw (sym c.is_whole.ensures ∙ c.if-is_whole.false)
