-- A graph that passes 7 is sound: what its lists are like by place, parts, entries and messages. Assumes nothing.
use mathlib.Core.Bool.{true}
use mathlib.Core.Path.{◌≡◌, refl}
use Prim.Native.Nat.{ℕ, ◌<◌}
use lib.ListN.{length, get_or}
use Rattle.numbers.specs.Loops.{row}
use Rattle.graph_lists.specs.Graph.{Graph, check_entries, var_entries, own_incidence}
use Rattle.graph_lists.specs.Lists.{places}
use Rattle.graph_lists.specs.Model.{is_graph}
use Rattle.graph_lists.specs.Sound.{Offsets, Long, Keys, Rising}
use Rattle.graph_lists.proofs.Cuts.{Met}
use Rattle.graph_lists.proofs.Passes.{Passes, keys, lengths_agree, messages_rise, messages_row}
use Rattle.graph_lists.proofs.QuickTests.{all_long, all_pass}
use Rattle.graph_lists.proofs.Sameness.{is_graph_told}

-- Each check's part lies within the check lists, and each mechanism's within the variable lists; the mechanisms of a check rise, and so do the messages of a
-- mechanism, which are the places where it stands; and the k-th message of a mechanism lies in its k-th check and names it.
pub record Sound (g : Graph) : Type 0 where
  pub check_parts : Offsets g.checks (length g.check_var) g.check_offset
  pub var_parts : Offsets g.mechanisms (length g.check_var) g.var_offset
  pub long : Long (length g.check_var) g
  pub names : Keys g.mechanisms g.check_var
  pub check_rises : (c : ℕ) → c < g.checks → Rising g.mechanisms (check_entries g c)
  pub messages_rise : (v : ℕ) → v < g.mechanisms → Rising (length g.check_var) (var_entries g v)
  pub messages_are : (v : ℕ) → v < g.mechanisms → var_entries g v ≡ places g.check_var v
  pub meets : (v k : ℕ) → v < g.mechanisms → k < length (var_entries g v)
      → Met g.check_offset g.check_var v (get_or (row g.var_offset v g.var_check) k 0) (get_or (var_entries g v) k 0)

-- lists that pass the quick test are
quick_sound : (g : Graph) → Long (length g.check_var) g → Passes (length g.check_var) g → Sound g
quick_sound g f t =
    record {
      check_parts = t.check_cut;
      var_parts = t.var_cut;
      long = f;
      names = keys (length g.check_var) g f t;
      check_rises = t.check_rises;
      messages_rise = messages_rise (length g.check_var) g f t;
      messages_are = messages_row (length g.check_var) g f t;
      meets = λ v k h l. t.var_meets v k h (rw (lengths_agree (length g.check_var) g f t v h) at l);
    }

-- so are lists that pass 7
pub passes_sound : (g : Graph) → is_graph g ≡ true → Sound g
passes_sound g h =
    let e = is_graph_told g h in
    quick_sound g (all_long g.checks g.mechanisms (length g.check_var) g (own_incidence g) refl e) (all_pass g.checks g.mechanisms (length g.check_var) g (own_incidence g) refl e)
