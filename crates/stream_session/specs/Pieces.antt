-- A piece of a stream: what its bytes leave, one after the other, and what is said of them. Definitions only. Assumes nothing.
use Rattle.std.specs.Prelude.{ℕ, List, [], ◌∷◌, ◌++◌}
use mathlib.Core.List.{foldl}
use Rattle.stream_session.specs.Shots.{Left, byte_taken, text_of, session_text}

-- one byte more
abbrev pub next_byte : Left → ℕ → Left
next_byte l b = byte_taken l.taken.now.session b l.kept l.taken.model l.taken.now.line

-- all bytes of a piece
unfoldable pub piece_taken : List ℕ → Left → Left
piece_taken bytes l = foldl next_byte l bytes

-- the lines said of them
unfoldable pub piece_text : List ℕ → Left → List ℕ
piece_text [] l = []
piece_text (b ∷ bs) l = text_of (next_byte l b).taken.now ++ piece_text bs (next_byte l b)

-- the text of all that is left of an input, to its end
abbrev pub rest_text : List ℕ → Left → List ℕ
rest_text bytes l = session_text bytes l.taken.now.session l.kept l.taken.model l.taken.now.line
