-- Test 7 in one pass over the lists, as the code does it; proofs/QuickTests.antt shows that it says what `is_graph` says. No part of what a reader must
-- believe: no public contract cites it. Definitions only. Assumes nothing.
use Rattle.std.specs.Prelude.{ℕ, zero, suc, Bool, ◌&&◌, List, eqb, leb, ltb, length, get_or}
use Rattle.numbers.specs.Loops.{every, row}
use Rattle.graph_lists.specs.Graph.{Graph, var_entries}
use Rattle.graph_lists.specs.Model.{offsets_good}

-- the least that may stand at i: one more than what stands before it
unfoldable pub low : List ℕ → ℕ → ℕ
low xs zero = 0
low xs (suc i) = suc (get_or xs i 0)

-- what stands at i is above what stands before it, and below n
unfoldable pub step_good : ℕ → List ℕ → ℕ → Bool
step_good n xs i = leb (low xs i) (get_or xs i 0) && ltb (get_or xs i 0) n

-- strictly rising, all below n
unfoldable pub rises_below : ℕ → List ℕ → Bool
rises_below n xs = every (length xs) (step_good n xs)

-- v's message m lies in the part of the check c, and v stands there
unfoldable pub met_good : List ℕ → List ℕ → ℕ → ℕ → ℕ → Bool
met_good check_offset check_var v c m = leb (get_or check_offset c 0) m && (ltb m (get_or check_offset (suc c) 0) && eqb (get_or check_var m 0) v)

-- a variable's i-th entry
unfoldable pub entry_good : List ℕ → List ℕ → ℕ → List ℕ → List ℕ → ℕ → Bool
entry_good check_offset check_var v cs ms i = met_good check_offset check_var v (get_or cs i 0) (get_or ms i 0)

-- a variable's entries: checks rise, and each holds its message
unfoldable pub entries_good : ℕ → List ℕ → List ℕ → ℕ → List ℕ → List ℕ → Bool
entries_good checks check_offset check_var v cs ms = rises_below checks cs && every (length cs) (entry_good check_offset check_var v cs ms)

-- the entries of the check c rise
unfoldable pub check_good : ℕ → List ℕ → List ℕ → ℕ → Bool
check_good mechanisms check_offset check_var c = rises_below mechanisms (row check_offset c check_var)

-- the entries of the variable v
unfoldable pub var_good : Graph → ℕ → Bool
var_good g v = entries_good g.checks g.check_offset g.check_var v (row g.var_offset v g.var_check) (var_entries g v)

-- all of it
unfoldable pub graph_test : ℕ → Graph → Bool
graph_test edges g =
    offsets_good g.checks edges g.check_offset
    && (every g.checks (check_good g.mechanisms g.check_offset g.check_var)
    && (offsets_good g.mechanisms edges g.var_offset && every g.mechanisms (var_good g)))
