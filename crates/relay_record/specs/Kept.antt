-- What the code of a decode keeps between legs and leaves after them, and what it asks of its lists past the tests: for private contracts, and no part of
-- what a reader must believe. Definitions only. Assumes nothing.
use Rattle.std.specs.Prelude.{ℕ, suc, ◌+◌, ◌*◌, ◌<◌, ◌≤◌, ◌≡◌, Bool, true, false, ◌&&◌, cond, List, Float, length, get_or, set, replicate}
use Rattle.std.proofs.Math.Option.{Option, none, some}
use Rattle.std.specs.Float.Ieee.{lt}
use Rattle.numbers.specs.Limits.{max_mechanisms, max_count}
use Rattle.numbers.specs.Floats.{zero⁺}
use Rattle.numbers.specs.Loops.{spliced}
use Rattle.refusals.specs.Refusal.{Answer}
use Rattle.std.specs.Prelude.{Ok, Err, Option as Best, None, Some}
use Rattle.refusals.specs.declared.Refusal.TheVariants.{LentListLength}
use Rattle.refusals.specs.Tests.{unless, or_else}
use Rattle.graph_lists.specs.Model.{graph_fault}
use Rattle.graph_lists.specs.Sound.{Keys}
use Rattle.graph_messages.specs.Needs.{Walks, walked}
use Rattle.relay_settings.specs.declared.Settings.{Settings}
use Rattle.relay_settings.specs.declared.GammaSource.TheVariants.{Explicit}
use Rattle.relay_calls.specs.declared.Decoded.{Decoded}
use Rattle.relay_calls.specs.Answers.{DecodeAnswer}
use Rattle.relay_settings.specs.Settings.{settings_fault}
use Rattle.relay_gammas.specs.Gammas.{seed_fault}
use Rattle.relay_step.specs.Leg.{Leg, hard_decision, correction_weight}
use Rattle.relay_calls.specs.Records.{values_of, record_of_leg}
use Rattle.relay_calls.specs.Decode.{Shot, Run, Ended, decoded, refused, is_none_or, correction_of}
use Rattle.relay_calls.specs.Calls.{DecodeLists, syndrome_fault, decode_lists_fit, answered}
use Rattle.relay_calls.specs.Formula.{stores_in}

-- a shot by the lists that its legs read: four of the five graph lists
abbrev pub shot_of : Settings → List Float → ℕ → List ℕ → List Float → List ℕ → List ℕ → List ℕ → List ℕ → List ℕ → Shot
shot_of t flat seed syndrome prior cv co vm vo order =
    record {
      graph = walked (length syndrome) (length prior) cv co vm vo;
      prior = prior;
      settings = t;
      gammas = flat;
      order = order;
      syndrome = syndrome;
      seed = seed;
    }

-- what the legs ask of all that they read
pub record Reads (t : Settings) (flat : List Float) (syndrome : List ℕ) (prior : List Float) (cv co vm vo order : List ℕ) : Type 0 where
  pub check_walks : Walks (length syndrome) (length prior) cv co
  pub var_walks : Walks (length prior) (length cv) vm vo
  pub named : Keys (length syndrome) order
  pub mechanisms_few : length prior ≤ max_mechanisms
  pub legs_few : t.num_legs ≤ max_count
  pub pre_some : 0 < t.pre_iterations
  pub pre_few : t.pre_iterations ≤ max_count
  pub leg_some : 0 < t.num_legs → 0 < t.leg_iterations
  pub leg_few : t.leg_iterations ≤ max_count
  pub sets_many : 0 < t.num_legs → (sets : ℕ) → t.gamma_source ≡ Explicit sets → (0 < sets) × (length flat ≡ sets * length prior)

-- a value for each mechanism: correction, posterior, gammas and biases
pub record PerShot (mechanisms : ℕ) (correction : List ℕ) (posterior gamma bias : List Float) : Type 0 where
  pub bits : length correction ≡ mechanisms
  pub posteriors : length posterior ≡ mechanisms
  pub gammas : length gamma ≡ mechanisms
  pub biases : length bias ≡ mechanisms

-- the leg lists and the correction rows are those of so many legs
pub record LegsLong (legs mechanisms : ℕ) (states iterations : List ℕ) (weights : List Float) (rows : List ℕ) : Type 0 where
  pub of_states : length states ≡ legs
  pub of_iterations : length iterations ≡ legs
  pub of_weights : length weights ≡ legs
  pub of_rows : length rows ≡ legs * mechanisms

-- or of more
pub record LegsFit (legs mechanisms : ℕ) (states iterations : List ℕ) (weights : List Float) (rows : List ℕ) : Type 0 where
  pub of_states : legs ≤ length states
  pub of_iterations : legs ≤ length iterations
  pub of_weights : legs ≤ length weights
  pub of_rows : legs * mechanisms ≤ length rows

-- ---- between legs

-- the best weight, as the code has it
abbrev pub best_of : Best Float → Option Float
best_of None = none
best_of (Some weight) = some weight

-- of a run, what the code keeps: the one correction that would be answered now, for the last hard decision and the best correction
pub record Kept : Type 0 where
  pub best : Option Float
  pub num_converged : ℕ
  pub total_iterations : ℕ
  pub executed_legs : ℕ
  pub leg_state : List ℕ
  pub leg_iterations : List ℕ
  pub leg_weight : List Float
  pub rows : List ℕ
  pub correction : List ℕ
  pub posterior : List Float

abbrev pub kept : Option Float → ℕ → ℕ → ℕ → List ℕ → List ℕ → List Float → List ℕ → List ℕ → List Float → Kept
kept best converged total executed states iterations weights rows correction posterior =
    record {
      best = best;
      num_converged = converged;
      total_iterations = total;
      executed_legs = executed;
      leg_state = states;
      leg_iterations = iterations;
      leg_weight = weights;
      rows = rows;
      correction = correction;
      posterior = posterior;
    }

-- what it keeps of a run
abbrev pub kept_of : Run → Kept
kept_of run =
    kept run.best_weight run.num_converged run.total_iterations run.executed_legs run.leg_state run.leg_iterations run.leg_weight run.rows
    (correction_of run run.best_weight)
    run.posterior

-- the best weight after a leg
abbrev pub best_after : Bool → Option Float → Float → Option Float
best_after converged best weight = cond (converged && is_none_or best weight) (some weight) best

-- the correction after a leg with these bits
abbrev pub corrected : Bool → Option Float → Float → List ℕ → List ℕ → List ℕ
corrected converged none weight bits old = bits
corrected converged (some current) weight bits old = cond (converged && lt weight current) bits old

-- what the leg r adds, and these rows
unfoldable pub kept_with : Shot → Kept → ℕ → Leg → List ℕ → Kept
kept_with x k r l rows =
    let bits = hard_decision l.left.posterior in
    let weight = correction_weight x.prior bits x.graph.mechanisms in
    let values = values_of (record_of_leg l.converged weight l.iterations) in
    kept (best_after l.converged k.best weight) (k.num_converged + cond l.converged 1 0) (k.total_iterations + l.iterations) (suc r)
    (set k.leg_state r values.leg_state)
    (set k.leg_iterations r values.leg_iterations)
    (set k.leg_weight r values.leg_weight)
    rows
    (corrected l.converged k.best weight bits k.correction)
    l.left.posterior

-- the leg's own row
unfoldable pub row_after : Shot → Leg → List ℕ
row_after x l = cond l.converged (hard_decision l.left.posterior) (replicate x.graph.mechanisms 0)

-- `recorded`, of what is kept
unfoldable pub kept_after : Shot → Kept → ℕ → Leg → Kept
kept_after x k r l =
    let mechanisms = x.graph.mechanisms in
    kept_with x k r l (cond l.converged (spliced k.rows (r * mechanisms) (r * mechanisms + mechanisms) (hard_decision l.left.posterior)) k.rows)

-- the rows from the place n on are zero
pub record Blank (n : ℕ) (rows : List ℕ) : Type 0 where
  pub blank : (i : ℕ) → n ≤ i → get_or rows i 0 ≡ 0

-- ---- after the legs

-- the answer, where an iteration writes `each` messages
abbrev pub answer_of : ℕ → Ended → DecodeAnswer
answer_of each (decoded run) = answered run (stores_in each (decoded run)) run.best_weight
answer_of each (refused r) = Err r

-- whether it is a refusal
abbrev pub is_refused : DecodeAnswer → Bool
is_refused (Ok (Decoded.Converged n t m w)) = false
is_refused (Ok (Decoded.NotConverged n t m)) = false
is_refused (Err r) = true

-- what the code answers, from a test's answer and what it kept
abbrev pub answer_by : Answer → Option Float → ℕ → ℕ → ℕ → DecodeAnswer
answer_by (Err r) best executed total stores = Err r
answer_by (Ok _) none executed total stores = Ok (Decoded.NotConverged executed total stores)
answer_by (Ok _) (some weight) executed total stores = Ok (Decoded.Converged executed total stores weight)

-- the result lists, of num_legs + 1 legs
pub record Results : Type 0 where
  pub leg_state : List ℕ
  pub leg_iterations : List ℕ
  pub leg_weight : List Float
  pub rows : List ℕ
  pub correction : List ℕ
  pub posterior : List Float

abbrev pub results : List ℕ → List ℕ → List Float → List ℕ → List ℕ → List Float → Results
results states iterations weights rows correction posterior =
    record { leg_state = states; leg_iterations = iterations; leg_weight = weights; rows = rows; correction = correction; posterior = posterior }

-- zeroed
abbrev pub zero_results : ℕ → ℕ → Results
zero_results legs mechanisms =
    results (replicate legs 0) (replicate legs 0) (replicate legs zero⁺) (replicate (legs * mechanisms) 0) (replicate mechanisms 0) (replicate mechanisms zero⁺)

-- after the legs
abbrev pub results_of : Shot → Ended → Results
results_of x (decoded run) =
    results run.leg_state run.leg_iterations run.leg_weight run.rows (correction_of run run.best_weight) run.posterior
results_of x (refused r) = zero_results (suc x.settings.num_legs) x.graph.mechanisms

-- before the legs: empty records, and the posterior at the priors
abbrev pub started : Shot → Results
started x =
    let legs = suc x.settings.num_legs in
    let mechanisms = x.graph.mechanisms in
    results (replicate legs 0) (replicate legs 0) (replicate legs zero⁺) (replicate (legs * mechanisms) 0) (replicate mechanisms 0) x.prior

-- ---- the tests

-- those of both calls: 1, 2, 4, 7, 9 to 21, 27, 22
unfoldable pub shot_fault : ℕ → Shot → DecodeLists → Answer
shot_fault edges x l =
    or_else (graph_fault edges x.prior x.graph)
    (or_else (settings_fault x.settings x.graph.mechanisms x.gammas)
    (or_else (syndrome_fault x.graph.checks x.syndrome)
    (or_else (seed_fault x.settings.gamma_source x.seed) (unless (decode_lists_fit edges x l) LentListLength))))
