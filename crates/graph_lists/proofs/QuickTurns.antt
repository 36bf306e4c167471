-- The steps of the quick test, as the code has them. Assumes nothing.
use mathlib.Core.Bool.{Bool, true, false, and-false}
use mathlib.Core.List.{List}
use mathlib.Core.Path.{◌≡◌, refl, ◌∙◌}
use Prim.Native.Nat.{ℕ, suc, ◌+◌, ◌-◌, ◌<◌, ◌≤◌}
use native.Mathlib.Numerals.{add-one}
use native.Mathlib.Omega.{arith}
use lib.Dec.{eqb, leb}
use lib.ListN.{length, get_or, take, drop}
use borrow.Author.Tests.{le-leb, lt-leb, le-ltb, lt-ltb}
use Rattle.numbers.specs.Loops.{every}
use Rattle.graph_lists.specs.Graph.{Graph}
use Rattle.graph_lists.specs.Model.{offsets_good, is_graph}
use Rattle.graph_lists.specs.QuickTest.{low, step_good, rises_below, met_good, entry_good, entries_good, check_good, var_good, graph_test}
use Rattle.graph_lists.specs.Sound.{Offsets, Long}
use Rattle.graph_lists.proofs.Cuts.{row_end}
use Rattle.graph_lists.proofs.QuickTests.{test_is}

-- ---- single steps, as the code has them

-- a step that rises and stays below n
pub step_yes : (n : ℕ) (xs : List ℕ) (i x a : ℕ) → a ≡ low xs i → x ≡ get_or xs i 0 → a ≤ x → x < n → step_good n xs i ≡ true
unfolding step_good
step_yes n xs i x a p q h k = rw (← p, ← q, le-leb a x h, lt-ltb x n k)

-- one that does not rise
pub step_low : (n : ℕ) (xs : List ℕ) (i x a : ℕ) → a ≡ low xs i → x ≡ get_or xs i 0 → x < a → step_good n xs i ≡ false
unfolding step_good
step_low n xs i x a p q h = rw (← p, ← q, lt-leb a x h)

-- one that is not below n
pub step_high : (n : ℕ) (xs : List ℕ) (i x : ℕ) → x ≡ get_or xs i 0 → n ≤ x → step_good n xs i ≡ false
unfolding step_good
step_high n xs i x q h = rw (← q, le-ltb x n h) (and-false (leb (low xs i) x))

-- the least that may stand next
pub low_next : (xs : List ℕ) (i x : ℕ) → x ≡ get_or xs i 0 → x + 1 ≡ low xs (i + 1)
unfolding low
low_next xs i x q = rw (add-one x, add-one i, q)

-- anything may stand first
pub low_first : (xs : List ℕ) → 0 ≡ low xs 0
unfolding low
low_first xs = refl

-- a check's part that begins after the message
pub met_low : (co cv : List ℕ) (v c m a : ℕ) → a ≡ get_or co c 0 → m < a → false ≡ met_good co cv v c m
unfolding met_good
met_low co cv v c m a p h = rw (← p, lt-leb a m h)

-- or ends at or before it
pub met_high : (co cv : List ℕ) (v c m a b : ℕ) → a ≡ get_or co c 0 → b ≡ get_or co (c + 1) 0 → a ≤ m → b ≤ m → false ≡ met_good co cv v c m
unfolding met_good
met_high co cv v c m a b p q h k = let w : b ≡ get_or co (suc c) 0 = rw add-one at q in rw (← p, ← w, le-leb a m h, le-ltb m b k)

-- between them the mechanism decides
pub met_last : (co cv : List ℕ) (v c m a b : ℕ) (r : Bool) → a ≡ get_or co c 0 → b ≡ get_or co (c + 1) 0 → a ≤ m → m < b → r ≡ eqb (get_or cv m 0) v → r ≡ met_good co cv v c m
unfolding met_good
met_last co cv v c m a b r p q h k e = let w : b ≡ get_or co (suc c) 0 = rw add-one at q in rw (← p, ← w, le-leb a m h, lt-ltb m b k) e

-- a message between them is one of the list
pub met_room : (checks n : ℕ) (co : List ℕ) (c m b : ℕ) → Offsets checks n co → c < checks → b ≡ get_or co (c + 1) 0 → m < b → m < n
met_room checks n co c m b o h q k = let w : b ≡ get_or co (suc c) 0 = rw add-one at q in omega (arith, row_end checks n co o c h)

-- an entry is tested by its check and its message
pub entry_is : (co cv : List ℕ) (v : ℕ) (cs ms : List ℕ) (i c m : ℕ) (r : Bool) → c ≡ get_or cs i 0 → m ≡ get_or ms i 0 → r ≡ met_good co cv v c m → r ≡ entry_good co cv v cs ms i
unfolding entry_good
entry_is co cv v cs ms i c m r p q e = rw (← p, ← q) e

-- a variable's checks do not rise
pub entries_no : (checks : ℕ) (co cv : List ℕ) (v : ℕ) (cs ms : List ℕ) → rises_below checks cs ≡ false → false ≡ entries_good checks co cv v cs ms
unfolding entries_good
entries_no checks co cv v cs ms h = rw h

-- they rise: its entries decide
pub entries_rest : (checks : ℕ) (co cv : List ℕ) (v : ℕ) (cs ms : List ℕ) (r : Bool) → rises_below checks cs ≡ true → r ≡ every (length cs) (entry_good co cv v cs ms)
    → r ≡ entries_good checks co cv v cs ms
unfolding entries_good
entries_rest checks co cv v cs ms r h e = rw h e

-- a check's part, cut out by the code
pub check_is : (mechanisms : ℕ) (co cv : List ℕ) (c a e : ℕ) (r : Bool) → a ≡ get_or co c 0 → e ≡ get_or co (c + 1) 0 → r ≡ rises_below mechanisms (take (e - a)
    (drop a cv)) → r ≡ check_good mechanisms co cv c
unfolding check_good
check_is mechanisms co cv c a e r p q h = let w : e ≡ get_or co (suc c) 0 = rw add-one at q in rw (← p, ← w) h

-- a variable's parts, cut out by the code
pub var_is : (g : Graph) (v a e : ℕ) (r : Bool) → a ≡ get_or g.var_offset v 0 → e ≡ get_or g.var_offset (v + 1) 0
    → r ≡ entries_good g.checks g.check_offset g.check_var v (take (e - a) (drop a g.var_check)) (take (e - a) (drop a g.var_message)) → r ≡ var_good g v
unfolding var_good
var_is g v a e r p q h = let w : e ≡ get_or g.var_offset (suc v) 0 = rw add-one at q in rw (← p, ← w) h

-- the tests of the whole, one after the other
module _ (edges : ℕ) (g : Graph) (f : Long edges g) where
  -- the check offsets fail
  pub whole_1 : offsets_good g.checks edges g.check_offset ≡ false → false ≡ is_graph g
  unfolding graph_test
  whole_1 a = rw a at (test_is edges g f)

  -- a check's entries fail
  pub whole_2 : offsets_good g.checks edges g.check_offset ≡ true → every g.checks (check_good g.mechanisms g.check_offset g.check_var) ≡ false → false ≡ is_graph g
  unfolding graph_test
  whole_2 a b = rw (a, b) at (test_is edges g f)

  -- the variable offsets fail
  pub whole_3 : offsets_good g.checks edges g.check_offset ≡ true → every g.checks (check_good g.mechanisms g.check_offset g.check_var) ≡ true
      → offsets_good g.mechanisms edges g.var_offset ≡ false → false ≡ is_graph g
  unfolding graph_test
  whole_3 a b c = rw (a, b, c) at (test_is edges g f)

  -- the variables decide
  pub whole_4 : (r : Bool) → offsets_good g.checks edges g.check_offset ≡ true → every
      g.checks (check_good g.mechanisms g.check_offset g.check_var) ≡ true
      → offsets_good g.mechanisms edges g.var_offset ≡ true → r ≡ every g.mechanisms (var_good g) → r ≡ is_graph g
  unfolding graph_test
  whole_4 r a b c d = d ∙ rw (a, b, c) at (test_is edges g f)
