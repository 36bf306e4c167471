-- What the legs of a decode read, by the two sides of the graph: for private contracts, and no part of what a reader must believe. Definitions only.
-- Assumes nothing.
use Rattle.std.specs.Prelude.{ℕ, ◌*◌, ◌<◌, ◌≤◌, ◌≡◌, List, Float, length}
use Rattle.numbers.specs.Limits.{max_mechanisms, max_count}
use Rattle.graph_lists.specs.Sound.{Keys}
use Rattle.graph_messages.specs.Sides.{sides}
use Rattle.graph_messages.specs.declared.rows.Rows.{Rows}
use Rattle.relay_settings.specs.declared.Settings.{Settings}
use Rattle.relay_settings.specs.declared.GammaSource.TheVariants.{Explicit}
use Rattle.relay_step.specs.Places.{Joined}
use Rattle.relay_calls.specs.Decode.{Shot}

-- a shot by what its legs read: `shot_of` of `relay_record`, by the two sides
abbrev pub shot_by : Settings → List Float → ℕ → List ℕ → List Float → Rows → Rows → List ℕ → Shot
shot_by t flat seed syndrome prior checks variables order =
    record {
      graph = sides checks variables;
      prior = prior;
      settings = t;
      gammas = flat;
      order = order;
      syndrome = syndrome;
      seed = seed;
    }

-- what the legs ask of all that they read: `Reads` of `relay_record`, of which the sides say their walks by themselves
pub record LegReads (t : Settings) (flat : List Float) (syndrome : List ℕ) (prior : List Float) (checks variables : Rows) (order : List ℕ) : Type 0 where
  pub joined : Joined checks variables
  pub syndrome_len : length syndrome ≡ checks.rows
  pub priors_len : length prior ≡ variables.rows
  pub named : Keys checks.rows order
  pub mechanisms_few : variables.rows ≤ max_mechanisms
  pub legs_few : t.num_legs ≤ max_count
  pub pre_some : 0 < t.pre_iterations
  pub pre_few : t.pre_iterations ≤ max_count
  pub leg_some : 0 < t.num_legs → 0 < t.leg_iterations
  pub leg_few : t.leg_iterations ≤ max_count
  pub sets_many : 0 < t.num_legs → (sets : ℕ) → t.gamma_source ≡ Explicit sets → (0 < sets) × (length flat ≡ sets * variables.rows)
