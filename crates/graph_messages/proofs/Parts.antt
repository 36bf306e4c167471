-- The part that offsets give to a row: its entries name what the list's do, and rise. Assumes nothing.
use mathlib.Core.Path.{◌≡◌}
use mathlib.Core.List.{List}
use Prim.Native.Nat.{ℕ, ◌+◌, ◌-◌, ◌<◌, ◌≤◌}
use native.Mathlib.Numerals.{add-one}
use native.Mathlib.Omega.{arith}
use lib.ListN.{length, get_or}
use Rattle.numbers.specs.Loops.{part}
use Rattle.numbers.proofs.Loops.{length_part, get_d_part}
use Rattle.graph_lists.specs.Sound.{Keys}
use Rattle.graph_messages.specs.Needs.{Rises, RowsRise, Walks}

-- each entry of a part names something
pub part_names : (n a e : ℕ) (xs : List ℕ) → Keys n xs → e ≤ length xs → Keys n (part a e xs)
part_names n a e xs h q = record { small = λ k l. go k l }
  where
    go : (k : ℕ) → k < length (part a e xs) → get_or (part a e xs) k 0 < n
    go k l =
        let w : k < e - a = rw (length_part a e xs q) at l in
        rw (get_d_part a e xs k 0 (omega arith)) (h.small (a + k) (omega arith))

-- as many names, however they are counted
pub walks_along : (rows n m : ℕ) (entries off : List ℕ) → n ≡ m → Walks rows n entries off → Walks rows m entries off
walks_along rows n m entries off e w = rw e at w

-- as many rows and as many names
pub walks_both : (rows rows' n m : ℕ) (entries off : List ℕ) → rows ≡ rows' → n ≡ m → Walks rows n entries off → Walks rows' m entries off
walks_both rows rows' n m entries off r e w = rw (r, e) at w

-- the same of entries
pub entries_along : (n m : ℕ) (xs : List ℕ) → n ≡ m → Keys n xs → Keys m xs
entries_along n m xs e h = rw e at h

-- the part of a row rises, as the code reads it
pub part_rises : (rows : ℕ) (xs off : List ℕ) (r a e : ℕ) → RowsRise rows xs off → r < rows → a ≡ get_or off r 0 → e ≡ get_or off (r + 1) 0 → Rises (part a e xs)
part_rises rows xs off r a e o h p q = rw (p, rw add-one at q) (o.row_rises r h)
