-- The Tanner graph: `BpGraph` of min_sum.rs, with lists of numbers for its lists of pairs, and its priors beside it. A check's entry is its variable
-- alone: the Rust's pair carries its message number besides, which is always the entry's own place (`graph_layouts` `Numbered` has that layout).
-- Definitions only. Assumes nothing.
use Rattle.std.specs.Prelude.{ℕ, ◌+◌, ◌*◌, Bool, not, List, eqb, get_or}
use Rattle.numbers.specs.Loops.{row}
use Rattle.graph_lists.specs.Lists.{has, passing, joined, offsets, places}

-- `num_checks` and `num_vars`; the variables of `check_data`, with its offsets; `var_data`, pairs of a check and a message, as two lists, with its offsets.
-- A variable is a mechanism.
pub record Graph : Type 0 where
  pub checks : ℕ
  pub mechanisms : ℕ
  pub check_var : List ℕ
  pub check_offset : List ℕ
  pub var_check : List ℕ
  pub var_message : List ℕ
  pub var_offset : List ℕ

-- a graph of its parts
abbrev pub graph : ℕ → ℕ → List ℕ → List ℕ → List ℕ → List ℕ → List ℕ → Graph
graph checks mechanisms cv co vc vm vo =
    record { checks = checks; mechanisms = mechanisms; check_var = cv; check_offset = co; var_check = vc; var_message = vm; var_offset = vo }

-- `check_entries`: the variables of a check. A check entry's place is its message number.
abbrev pub check_entries : Graph → ℕ → List ℕ
check_entries g c = row g.check_offset c g.check_var

-- `var_entries`: the messages of a variable
abbrev pub var_entries : Graph → ℕ → List ℕ
var_entries g v = row g.var_offset v g.var_message

-- ---- the graph of an incidence: `inc c m` says that the check c and the mechanism m share an edge

-- the mechanisms of a check, rising
unfoldable pub mechanisms_of : ℕ → (ℕ → ℕ → Bool) → ℕ → List ℕ
mechanisms_of mechanisms inc c = passing mechanisms (inc c)

-- the incidence seen from the mechanism
unfoldable pub flipped : (ℕ → ℕ → Bool) → ℕ → ℕ → Bool
flipped inc m c = inc c m

-- the checks of a mechanism, rising
unfoldable pub checks_of : ℕ → (ℕ → ℕ → Bool) → ℕ → List ℕ
checks_of checks inc m = passing checks (flipped inc m)

-- the mechanisms check by check: `check_data`'s first half
unfoldable pub entries : ℕ → ℕ → (ℕ → ℕ → Bool) → List ℕ
entries checks mechanisms inc = joined checks (mechanisms_of mechanisms inc)

-- `from_connections`. Message numbers run check by check, mechanisms rising within a check, so the messages of a mechanism are the places where it
-- stands among the entries.
unfoldable pub graph_of : ℕ → ℕ → (ℕ → ℕ → Bool) → Graph
graph_of checks mechanisms inc =
    record {
      checks = checks;
      mechanisms = mechanisms;
      check_var = entries checks mechanisms inc;
      check_offset = offsets checks (mechanisms_of mechanisms inc);
      var_check = joined mechanisms (checks_of checks inc);
      var_message = joined mechanisms (places (entries checks mechanisms inc));
      var_offset = offsets mechanisms (checks_of checks inc);
    }

-- ---- where incidences come from

-- a sparse model: c is among the detectors of m
unfoldable pub among : List ℕ → List ℕ → ℕ → ℕ → Bool
among off dets c m = has (row off m dets) c

-- a dense model, its matrix laid check by check: the byte is not zero
unfoldable pub marked : ℕ → List ℕ → ℕ → ℕ → Bool
marked mechanisms matrix c m = not (eqb (get_or matrix (c * mechanisms + m) 0) 0)

-- a graph's own check lists: m is among the variables of c
unfoldable pub own_incidence : Graph → ℕ → ℕ → Bool
own_incidence g c m = has (check_entries g c) m
