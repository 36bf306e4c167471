-- One byte more of a piece. Assumes nothing.
use Prim.Native.Nat.{ℕ, ◌+◌, ◌<◌, ◌≤◌}
use mathlib.Core.Path.{◌≡◌, refl}
use mathlib.Core.Bool.{Bool, true}
use mathlib.Core.List.{List, foldl}
use lib.ListN.{length, get_or, take}
use Rattle.numbers.proofs.Turns.{fold_turn}
use Rattle.stream_session.specs.Shots.{Left}
use Rattle.stream_session.specs.Pieces.{next_byte, piece_taken}
use Rattle.stream_writing.specs.Written.{PieceLeft}

module _ (bytes : List ℕ) (start : Left) where
  -- what the first i bytes leave
  abbrev pub Passed : Left → ℕ → Type 0
  Passed l i = l ≡ foldl next_byte start (take i bytes)

  pub piece_turn : (l after : Left) (i : ℕ) → i < length bytes → Passed l i → after ≡ next_byte l (get_or bytes i 0) → Passed after (i + 1)
  piece_turn l after i h e f = fold_turn next_byte start l after bytes i _ 0 h refl e f

  -- which is what a piece leaves that ends there
  pub piece_left : (l : Left) (i : ℕ) (written : Bool) → i ≤ length bytes → (written ≡ true → i ≡ length bytes) → Passed l i → PieceLeft bytes start written i l
  unfolding piece_taken
  piece_left l i written h f e = record { some = h; left = e; all = f }
