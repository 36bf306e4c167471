-- `stream_lines::put_word` meets its contract. The part behind the front holds the word, and the rest is as it was.
-- Assumes nothing.
use mathlib.Core.Path.{refl}
use Rattle.stream_lines.proofs.Puts.{put_part}
use Rattle.stream_lines.proofs.put_word.Goals as goal

pub returns : goal.returns
returns c = (refl, put_part _ _ _ _ _ refl c.requires c.copy_from_slice.ensures.after)
