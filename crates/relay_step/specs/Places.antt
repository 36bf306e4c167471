-- Lists that are long enough: for private contracts, and no part of what a reader must believe. Definitions only. Assumes nothing.
use Rattle.std.specs.Prelude.{ℕ, ◌≡◌, List, Float, length}
use Rattle.graph_messages.specs.declared.rows.Rows.{Rows}

-- two sides of one graph: what the checks name are the variables, and what the variables name are the edges, which are the checks' entries
pub record Joined (checks variables : Rows) : Type 0 where
  pub mechanisms : checks.n ≡ variables.rows
  pub edges : length checks.entries.now ≡ variables.n

-- a value for each variable that an update reads or writes: its bias and its posterior
pub record PerVariable (variables : ℕ) (bias posterior : List Float) : Type 0 where
  pub biases : length bias ≡ variables
  pub posteriors : length posterior ≡ variables

-- a value for each mechanism: gammas, biases and posterior
pub record PerMechanism (mechanisms : ℕ) (gamma bias posterior : List Float) : Type 0 where
  pub gammas : length gamma ≡ mechanisms
  pub biases : length bias ≡ mechanisms
  pub posteriors : length posterior ≡ mechanisms

-- those, and a bit
pub record LegLists (mechanisms : ℕ) (gamma bias posterior : List Float) (bits : List ℕ) : Type 0 where
  pub values : PerMechanism mechanisms gamma bias posterior
  pub decisions : length bits ≡ mechanisms
