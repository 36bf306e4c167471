-- The entries of a row of one side name what the side's entries do. Assumes nothing.
use mathlib.Core.Path.{◌≡◌}
use mathlib.Core.List.{List}
use Prim.Native.Nat.{ℕ, suc, ◌<◌}
use lib.ListN.{get_or}
use Rattle.numbers.specs.Loops.{row}
use Rattle.graph_lists.specs.Sound.{Keys}
use Rattle.graph_lists.proofs.Cuts.{row_end}
use Rattle.graph_messages.specs.declared.rows.Rows.{Rows}
use Rattle.graph_messages.proofs.Parts.{part_names}

pub row_names : (x : Rows) (r n : ℕ) (xs : List ℕ) → r < x.rows → n ≡ x.n → xs ≡ row x.offsets.now r x.entries.now → Keys n xs
row_names x r n xs h e is =
    rw (e, is) (part_names x.n (get_or x.offsets.now r 0) (get_or x.offsets.now (suc r) 0) x.entries.now x.walks.named (row_end _ _ _ x.walks.parts r h))
