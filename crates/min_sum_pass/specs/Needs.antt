-- What inner functions ask of the two sides of a graph, beside what each of them is by itself. A record for private contracts, and no part of what a reader must
-- believe: no public contract cites it. Definitions only. Assumes nothing.
use Rattle.std.specs.Prelude.{ℕ, ◌≡◌, List, Float, length}
use Rattle.graph_messages.specs.declared.rows.Rows.{Rows}

-- two sides of one graph, a syndrome of its checks, and priors of its mechanisms
pub record OneGraph (checks variables : Rows) (syndrome : List ℕ) (priors : List Float) : Type 0 where
  pub mechanisms : checks.n ≡ variables.rows
  pub edges : length checks.entries.now ≡ variables.n
  pub syndrome_len : length syndrome ≡ checks.rows
  pub priors_len : length priors ≡ variables.rows
