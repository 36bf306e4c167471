-- A graph that passes its tests is one whose both sides can be walked: parts lie within the entries, and entries name what there is. Assumes nothing.
use mathlib.Core.Path.{◌≡◌, refl, ap, ◌∙◌}
use mathlib.Core.Bool.{true}
use mathlib.Core.List.{List}
use Prim.Native.Nat.{ℕ, ◌+◌, ◌-◌, ◌<◌}
use native.Mathlib.Omega.{arith}
use lib.ListN.{length, get_or}
use Rattle.numbers.specs.Loops.{row}
use Rattle.graph_lists.specs.Graph.{Graph}
use Rattle.graph_lists.specs.Model.{is_graph}
use Rattle.graph_lists.specs.Sound.{Offsets, Rising}
use Rattle.graph_lists.specs.Steps.{row_of}
use Rattle.graph_lists.proofs.Cuts.{row_is}
use Rattle.graph_lists.proofs.Passes.{row_length, row_at}
use Rattle.graph_lists.proofs.Sound.{passes_sound}
use Rattle.graph_messages.specs.Needs.{Walks}

-- a list cut into parts, whose entries rise within each part and name one of n
walk : (rows n : ℕ) (entries off : List ℕ) → Offsets rows (length entries) off → ((r : ℕ) → r < rows → Rising n (row off r entries)) → Walks rows n entries off
walk rows n entries off o s =
    record {
      parts = o;
      named = record { small = named };
      rising = record { row_rises = λ r h. record { rises = (s r h).rises } };
    }
  where
    named : (k : ℕ) → k < length entries → get_or entries k 0 < n
    named k l =
        let w = row_is rows (length entries) off o k l in
        let r : ℕ = row_of off rows k in
        let i : ℕ = k - get_or off r 0 in
        let e : get_or off r 0 + i ≡ k = omega (arith, w.from) in
        let m : i < length (row off r entries) = omega (arith, w.from, w.to, row_length rows (length entries) off entries o refl r w.below) in
        omega (arith, (s r w.below).below i m, row_at rows (length entries) off entries o refl r i w.below m ∙ ap (λ (x : ℕ). get_or entries x 0) e)

-- both sides of a graph that passes
pub graph_walks : (g : Graph) → is_graph g ≡ true
    → Walks g.checks g.mechanisms g.check_var g.check_offset × Walks g.mechanisms (length g.check_var) g.var_message g.var_offset
graph_walks g h =
    let s = passes_sound g h in
    (walk _ _ _ _ s.check_parts s.check_rises, walk _ _ _ _ (rw s.long.var_message s.var_parts) s.messages_rise)
