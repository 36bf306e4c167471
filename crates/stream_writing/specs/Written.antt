-- What a piece of a stream leaves where a line may not get written. Definitions only. Assumes nothing.
use Rattle.std.specs.Prelude.{ℕ, ◌≤◌, ◌≡◌, Bool, true, List, length, take}
use Rattle.stream_session.specs.Shots.{Left}
use Rattle.stream_session.specs.Pieces.{piece_taken}

-- the bytes taken leave what the session says of them, and where every line was written they are all; else the last of them is the one whose line was not
pub record PieceLeft (bytes : List ℕ) (before : Left) (written : Bool) (taken : ℕ) (after : Left) : Type 0 where
  pub some : taken ≤ length bytes
  pub left : after ≡ piece_taken (take taken bytes) before
  pub all : written ≡ true → taken ≡ length bytes
