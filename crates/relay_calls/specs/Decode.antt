-- `RelayBp::decode` of relay.rs past its tests, in a given order of checks: leg after leg, with the record of each; and how many messages all of them write.
-- Definitions only. Assumes nothing.
use Rattle.std.specs.Prelude.{ℕ, zero, suc, ◌+◌, ◌*◌, Bool, true, false, ◌&&◌, cond, List, leb, Float, set, replicate}
use Rattle.std.proofs.Math.Option.{Option, none, some}
use Rattle.std.specs.Float.Ieee.{lt}
use Rattle.numbers.specs.Loops.{turns, spliced}
use Rattle.refusals.specs.declared.Refusal.{Refusal}
use Rattle.refusals.specs.Refusal.{Answer}
use Rattle.std.specs.Prelude.{Ok, Err}
use Rattle.graph_lists.specs.Graph.{Graph}
use Rattle.graph_lists.specs.Messages.{Access, posterior_fault}
use Rattle.relay_settings.specs.declared.Settings.{Settings}
use Rattle.relay_step.specs.Step.{State, iteration}
use Rattle.relay_step.specs.Leg.{Leg, start_leg, run_leg, satisfied, hard_decision, correction_weight}
use Rattle.relay_stores.specs.Stores.{Counted, counted, counted_iteration}
use Rattle.relay_gammas.specs.Gammas.{gamma_of}
use Rattle.relay_calls.specs.declared.LegRecord.TheVariants as LegRecord
use Rattle.relay_calls.specs.Records.{values_of, record_of_leg}

-- what one decode is of: a model, its settings with the flat list of gammas, an order of the checks, a syndrome and a seed
pub record Shot : Type 0 where
  pub graph : Graph
  pub prior : List Float
  pub settings : Settings
  pub gammas : List Float
  pub order : List ℕ
  pub syndrome : List ℕ
  pub seed : ℕ

-- a shot of its parts
abbrev pub shot : Graph → List Float → Settings → List Float → List ℕ → List ℕ → ℕ → Shot
shot g prior settings gammas order syndrome seed =
    record { graph = g; prior = prior; settings = settings; gammas = gammas; order = order; syndrome = syndrome; seed = seed }

-- ---- one leg. `had` says how a check's messages are had out of all

-- `iteration_limit`
unfoldable pub iteration_limit : Settings → ℕ → ℕ
iteration_limit t zero = t.pre_iterations
iteration_limit t (suc r) = t.leg_iterations

-- one iteration of the leg r: the public single iteration's step, with the leg's gammas
unfoldable pub step_of : Access → Shot → ℕ → State → State
step_of had x r =
    iteration x.settings.schedule had x.graph x.settings.alpha x.settings.clip x.syndrome x.prior
    (gamma_of x.settings x.gammas x.graph.mechanisms x.seed r)
    x.order

-- the leg r, from the posterior that the legs before it left
unfoldable pub executed_leg : Access → Shot → ℕ → List Float → Leg
executed_leg had x r posterior =
    run_leg (step_of had x r) (satisfied x.graph x.syndrome) (iteration_limit x.settings r) false 0 (start_leg x.graph x.prior posterior)

-- ---- between legs

-- the posterior, the last hard decision, how many legs have converged, the best of them, the iterations and legs so far, and the records of all legs: for leg r
-- the values of its record (`Records`: `values_of`), and its correction as a row of the flat list `rows`
pub record Run : Type 0 where
  pub posterior : List Float
  pub hard_bits : List ℕ
  pub num_converged : ℕ
  pub best_weight : Option Float
  pub best_correction : List ℕ
  pub total_iterations : ℕ
  pub executed_legs : ℕ
  pub leg_state : List ℕ
  pub leg_iterations : List ℕ
  pub leg_weight : List Float
  pub rows : List ℕ

-- before the first leg: the posterior is the priors, and num_legs + 1 records say that the leg was not executed
unfoldable pub start_run : Shot → Run
start_run x =
    let legs = suc x.settings.num_legs in
    let mechanisms = x.graph.mechanisms in
    let values = values_of LegRecord.NotExecuted in
    record {
      posterior = x.prior;
      hard_bits = replicate mechanisms 0;
      num_converged = 0;
      best_weight = none;
      best_correction = replicate mechanisms 0;
      total_iterations = 0;
      executed_legs = 0;
      leg_state = replicate legs values.leg_state;
      leg_iterations = replicate legs values.leg_iterations;
      leg_weight = replicate legs values.leg_weight;
      rows = replicate (legs * mechanisms) 0;
    }

-- `best_weight.is_none_or(|current| weight < current)`
abbrev pub is_none_or : Option Float → Float → Bool
is_none_or none weight = true
is_none_or (some current) weight = lt weight current

-- what the leg r adds to the run
unfoldable pub recorded : Shot → Run → ℕ → Leg → Run
recorded x run r l =
    let mechanisms = x.graph.mechanisms in
    let bits = hard_decision l.left.posterior in
    let weight = correction_weight x.prior bits mechanisms in
    let better = l.converged && is_none_or run.best_weight weight in
    let values = values_of (record_of_leg l.converged weight l.iterations) in
    record {
      posterior = l.left.posterior;
      hard_bits = bits;
      num_converged = run.num_converged + cond l.converged 1 0;
      best_weight = cond better (some weight) run.best_weight;
      best_correction = cond better bits run.best_correction;
      total_iterations = run.total_iterations + l.iterations;
      executed_legs = suc r;
      leg_state = set run.leg_state r values.leg_state;
      leg_iterations = set run.leg_iterations r values.leg_iterations;
      leg_weight = set run.leg_weight r values.leg_weight;
      rows = cond l.converged (spliced run.rows (r * mechanisms) (r * mechanisms + mechanisms) bits) run.rows;
    }

-- ---- leg after leg

-- how a decode ends: with a run, or with refusal 30
pub data Ended : Type 0 where
  decoded : Run → Ended
  refused : Refusal → Ended

-- on the way: legs still to come, or the end
pub data Progress : Type 0 where
  running : Run → Progress
  finished : Ended → Progress

-- after a leg: refused, or ended once enough have converged, or on to the next
abbrev pub leg_judged : Answer → Bool → Run → Progress
leg_judged (Err r) enough run = finished (refused r)
leg_judged (Ok _) true run = finished (decoded run)
leg_judged (Ok _) false run = running run

-- the leg r, recorded and judged
unfoldable pub after_leg : Access → Shot → ℕ → Run → Progress
after_leg had x r before =
    let run = recorded x before r (executed_leg had x r before.posterior) in
    leg_judged (posterior_fault x.graph run.posterior) (leb x.settings.stop_after_converged run.num_converged) run

-- n legs to go, from the leg r on
unfoldable pub legs_from : Access → Shot → ℕ → Progress → ℕ → Ended
legs_from had x zero (running run) r = decoded run
legs_from had x zero (finished e) r = e
legs_from had x (suc n) (running run) r = legs_from had x n (after_leg had x r run) (suc r)
legs_from had x (suc n) (finished e) r = e

-- all legs, from leg zero
unfoldable pub decode_legs : Access → Shot → Ended
decode_legs had x = legs_from had x (suc x.settings.num_legs) (running (start_run x)) 0

-- ---- how many messages the iterations write

-- one iteration of the leg r, with each store counted: its state is that of `step_of`
unfoldable pub counted_step_of : Access → Shot → ℕ → Counted → Counted
counted_step_of had x r =
    counted_iteration x.settings.schedule had x.graph x.settings.alpha x.settings.clip x.syndrome x.prior
    (gamma_of x.settings x.gammas x.graph.mechanisms x.seed r)
    x.order

-- the first n iterations of the leg r, from the posterior that the legs before it left. The start of a leg is not counted
unfoldable pub counted_leg : Access → Shot → ℕ → List Float → ℕ → Counted
counted_leg had x r posterior n = turns n (λ k s. counted_step_of had x r s) (counted (start_leg x.graph x.prior posterior) 0)

-- what the leg r writes: as many iterations as it took
unfoldable pub leg_stores : Access → Shot → ℕ → List Float → ℕ
leg_stores had x r posterior = (counted_leg had x r posterior (executed_leg had x r posterior).iterations).stores

-- what n legs write, from the leg r on, and nothing past the end
unfoldable pub stores_from : Access → Shot → ℕ → Progress → ℕ → ℕ
stores_from had x zero p r = 0
stores_from had x (suc n) (running run) r = leg_stores had x r run.posterior + stores_from had x n (after_leg had x r run) (suc r)
stores_from had x (suc n) (finished e) r = 0

-- what all legs write, from leg zero
unfoldable pub decode_stores : Access → Shot → ℕ
decode_stores had x = stores_from had x (suc x.settings.num_legs) (running (start_run x)) 0

-- ---- the answer's correction

-- the least weighty correction, or without convergence the last hard decision
abbrev pub correction_of : Run → Option Float → List ℕ
correction_of run none = run.hard_bits
correction_of run (some weight) = run.best_correction
