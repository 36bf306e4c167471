-- What inner functions ask of the lists that they walk, beside `Offsets` and `Keys` of `graph_lists`: entries that rise; and of two least magnitudes. Records for private contracts, and no
-- part of what a reader must believe: no public contract cites them. Definitions only. Assumes nothing.
use Rattle.std.specs.Prelude.{ℕ, ◌<◌, ◌≡◌, true, false, List, [], Float, length, get_or}
use Rattle.std.specs.Float.Ieee.{lt}
use Rattle.numbers.specs.Floats.{abs}
use Rattle.numbers.specs.Loops.{row}
use Rattle.graph_lists.specs.Graph.{Graph, graph}
use Rattle.graph_lists.specs.Sound.{Offsets, Keys}

-- entries that rise, so that no two are the same
pub record Rises (xs : List ℕ) : Type 0 where
  pub rises : (i j : ℕ) → i < j → j < length xs → get_or xs i 0 < get_or xs j 0

-- those of each row do
pub record RowsRise (rows : ℕ) (entries off : List ℕ) : Type 0 where
  pub row_rises : (r : ℕ) → r < rows → Rises (row off r entries)

-- one side of a graph: each row has a part of the entries, each entry names one of n, and the entries of a row rise
pub record Walks (rows n : ℕ) (entries off : List ℕ) : Type 0 where
  pub parts : Offsets rows (length entries) off
  pub named : Keys n entries
  pub rising : RowsRise rows entries off

-- a graph by the lists that messages walk: the variables of the checks, the messages of the variables, and the offsets of both
abbrev pub walked : ℕ → ℕ → List ℕ → List ℕ → List ℕ → List ℕ → Graph
walked checks mechanisms cv co vm vo = graph checks mechanisms cv co [] vm vo

-- its checks alone
abbrev pub of_checks : ℕ → List ℕ → List ℕ → Graph
of_checks checks cv co = walked checks 0 cv co [] []

-- its variables alone
abbrev pub of_variables : ℕ → List ℕ → List ℕ → Graph
of_variables mechanisms vm vo = walked 0 mechanisms [] [] vm vo

-- the two least of some magnitudes: what is below the first is below the second
pub record Ordered (min1 min2 : Float) : Type 0 where
  pub magnitude : abs min1 ≡ min1
  pub not_above : lt min2 min1 ≡ false
  pub follows : (x : Float) → lt (abs x) min1 ≡ true → lt (abs x) min2 ≡ true

-- ---- lists that are long enough

-- a message to an edge in both
pub record PerEdge (edges : ℕ) (c_to_v v_to_c : List Float) : Type 0 where
  pub to_variables : length c_to_v ≡ edges
  pub to_checks : length v_to_c ≡ edges

-- what a run of min-sum works in: both messages, and the running posterior
pub record RunLists (edges mechanisms : ℕ) (c_to_v v_to_c ewa : List Float) : Type 0 where
  pub messages : PerEdge edges c_to_v v_to_c
  pub averages : length ewa ≡ mechanisms
