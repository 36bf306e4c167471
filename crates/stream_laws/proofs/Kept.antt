-- A payload that finds room stands at the front of what is kept. Assumes nothing.
use mathlib.Core.Path.{◌≡◌}
use mathlib.Core.List.{List, ◌++◌}
use Prim.Native.Nat.{ℕ, ◌+◌, ◌≤◌}
use native.Mathlib.Omega.{arith}
use lib.ListN.{length, get_or, drop, length-drop, get_or-append}
use lib.Seq.{take_all, take-append-le, drop-append-le}
use Rattle.stream_grammar.specs.Stream.{number_at}
use Rattle.stream_reader.specs.Reading.{payload_kept}

module _ (p room : List ℕ) (fits : length p ≤ length room) where
  -- the payload stands at the front
  pub kept_front : payload_kept p room ≡ p ++ drop (length p) room
  unfolding payload_kept
  kept_front = rw (take_all (length room) p fits)

  -- a number within the payload
  pub kept_number : (n at : ℕ) → at + n ≤ length p → number_at n at (payload_kept p room) ≡ number_at n at p
  unfolding number_at
  kept_number n at h =
      rw (kept_front, drop-append-le at p (drop (length p) room) (omega arith), take-append-le n (drop at p) (drop (length p) room) (omega (arith, length-drop at p)))

  -- its first byte
  pub kept_byte : 1 ≤ length p → get_or (payload_kept p room) 0 0 ≡ get_or p 0 0
  kept_byte h = rw (kept_front, get_or-append p (drop (length p) room) 0 0 h)
