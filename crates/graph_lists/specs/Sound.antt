-- What the lists of a graph that passes are like, by place: parts that follow one another, lengths that fit, and entries that are small or rise. Records
-- for the private contracts of this crate and of those above it, and no part of what a reader must believe: no public contract cites them.
-- Definitions only. Assumes nothing.
use Rattle.std.specs.Prelude.{ℕ, suc, ◌<◌, ◌≤◌, ◌≡◌, List, length, get_or}
use Rattle.graph_lists.specs.Graph.{Graph}

-- `off` cuts n places into `rows` parts
pub record Offsets (rows n : ℕ) (off : List ℕ) : Type 0 where
  pub many : length off ≡ suc rows
  pub starts : get_or off 0 0 ≡ 0
  pub rises : (r : ℕ) → r < rows → get_or off r 0 ≤ get_or off (suc r) 0
  pub ends : get_or off rows 0 ≡ n

-- the five lists have the lengths of a graph with this many edges
pub record Long (edges : ℕ) (g : Graph) : Type 0 where
  pub check_var : length g.check_var ≡ edges
  pub check_offset : length g.check_offset ≡ suc g.checks
  pub var_check : length g.var_check ≡ edges
  pub var_message : length g.var_message ≡ edges
  pub var_offset : length g.var_offset ≡ suc g.mechanisms

-- all below n
pub record Keys (n : ℕ) (ks : List ℕ) : Type 0 where
  pub small : (j : ℕ) → j < length ks → get_or ks j 0 < n

-- strictly rising, all below n
pub record Rising (n : ℕ) (xs : List ℕ) : Type 0 where
  pub below : (i : ℕ) → i < length xs → get_or xs i 0 < n
  pub rises : (i j : ℕ) → i < j → j < length xs → get_or xs i 0 < get_or xs j 0

-- xs rises up to the place r, and no further: the rising front ends there
pub record RisesTo (xs : List ℕ) (r : ℕ) : Type 0 where
  pub within : r < length xs
  pub rises : (i : ℕ) → i < r → get_or xs i 0 < get_or xs (suc i) 0
  pub stops : suc r < length xs → get_or xs (suc r) 0 ≤ get_or xs r 0
