-- How a stream's reader passes by itself through the C calling convention; as a part of a session: `exports_session` `Words`. Definitions only. Assumes nothing.
use Rattle.std.specs.Prelude.{ℕ, List, [], ◌∷◌}
use Rattle.stream_reader.specs.declared.Reader.{Reader}

-- a reader's words, in the order of its fields
abbrev pub reader_words : Reader → List ℕ
reader_words r = r.offset ∷ (r.taken ∷ (r.length ∷ (r.kind ∷ (r.checks ∷ (r.mechanisms ∷ (r.edges ∷ (r.degrees ∷ [])))))))
