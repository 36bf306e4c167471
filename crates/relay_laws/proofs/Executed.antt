-- What each leg of a decode is like, read off its definition: it takes some iteration, its answer is its last test, and it leaves a posterior for each mechanism. So the
-- run after any number of legs holds what `relay_calls` `BestSoFar` says. Assumes nothing.
use Prim.Native.Nat.{ℕ, zero, suc, ◌<◌, ◌≤◌}
use native.Mathlib.Omega.{arith}
use mathlib.Core.Path.{◌≡◌, refl, ◌∙◌}
use mathlib.Core.Bool.{Bool, true, false}
use mathlib.Core.List.{List, [], ◌∷◌, foldl}
use lib.Ieee.{Float, nan}
use lib.ListN.{length, get_or, length-set}
use Rattle.numbers.specs.Loops.{turns}
use Rattle.graph_lists.specs.Graph.{Graph, check_entries}
use Rattle.graph_lists.specs.Messages.{Access, by_place}
use Rattle.graph_lists.specs.Model.{prior_good}
use Rattle.relay_settings.specs.declared.Clip.{Clip}
use Rattle.relay_settings.specs.declared.Schedule.{Schedule}
use Rattle.relay_settings.specs.declared.Schedule.TheVariants.{Flooding, CheckSerial}
use Rattle.relay_step.specs.Step.{State, update_check, update_variable, compute_bias, check_pass, variable_pass, flooding_iteration, serial_check, serial_pass, check_serial_iteration, iteration}
use Rattle.relay_step.specs.Leg.{start_leg, run_leg, satisfied, hard_decision}
use Rattle.relay_step.proofs.Weights.{hard_bits_lem, weight_finite}
use Rattle.relay_calls.specs.Decode.{Shot, iteration_limit, step_of, executed_leg}
use Rattle.relay_calls.proofs.BestSoFar.{limit_some, Ran, Holds, holds_none, holds_more}
use Rattle.relay_laws.specs.Legs.{run_after, leg_at}

-- ---- a step leaves as many posteriors as it found

-- a step that does
abbrev Keeps : (State → State) → Type 0
Keeps f = (s : State) → length (f s).posterior ≡ length s.posterior

-- one by one over a list
fold_keeps : (f : State → ℕ → State) → ((c : ℕ) → Keeps (λ s. f s c)) → (cs : List ℕ) → Keeps (λ s. foldl f s cs)
fold_keeps f h [] s = refl
fold_keeps f h (c ∷ cs) s = fold_keeps f h cs (f s c) ∙ h c s

-- or over the numbers below n
turns_keeps : (f : ℕ → State → State) → ((v : ℕ) → Keeps (f v)) → (n : ℕ) → Keeps (turns n f)
turns_keeps f h zero s = refl
turns_keeps f h (suc n) s = h n (turns n f s) ∙ turns_keeps f h n s

variable_keeps : (g : Graph) (bias : List Float) (v : ℕ) → Keeps (λ s. update_variable g bias s v)
unfolding update_variable
variable_keeps g bias v s = length-set s.posterior v _

check_keeps : (had : Access) (g : Graph) (alpha : Float) (clip : Clip) (syndrome : List ℕ) (c : ℕ) → Keeps (λ s. update_check had g alpha clip syndrome s c)
unfolding update_check
check_keeps had g alpha clip syndrome c s = refl

serial_keeps : (had : Access) (g : Graph) (alpha : Float) (clip : Clip) (syndrome : List ℕ) (bias : List Float) (c : ℕ) → Keeps (λ s. serial_check had g alpha clip syndrome bias s c)
unfolding serial_check
serial_keeps had g alpha clip syndrome bias c s =
    fold_keeps (update_variable g bias) (variable_keeps g bias) (check_entries g c) (update_check had g alpha clip syndrome s c) ∙ check_keeps had g alpha clip syndrome c s

-- either schedule's
iteration_keeps : (schedule : Schedule) (had : Access) (g : Graph) (alpha : Float) (clip : Clip) (syndrome : List ℕ) (prior gamma : List Float) (order : List ℕ)
    → Keeps (iteration schedule had g alpha clip syndrome prior gamma order)
unfolding flooding_iteration check_serial_iteration check_pass variable_pass serial_pass
iteration_keeps Flooding had g alpha clip syndrome prior gamma order s =
    let t = check_pass had g alpha clip syndrome order s in
    let bias = compute_bias prior gamma t.posterior in
    turns_keeps (λ v u. update_variable g bias u v) (variable_keeps g bias) g.mechanisms t
    ∙ fold_keeps (update_check had g alpha clip syndrome) (check_keeps had g alpha clip syndrome) order s
iteration_keeps CheckSerial had g alpha clip syndrome prior gamma order s =
    fold_keeps (serial_check had g alpha clip syndrome (compute_bias prior gamma s.posterior)) (serial_keeps had g alpha clip syndrome _) order s

-- ---- a leg

module _ (step : State → State) (test : List Float → Bool) where
  -- it says what its last test said, and counts on
  runs_on : (n : ℕ) (ok : Bool) (k : ℕ) (s : State) → ok ≡ test s.posterior
      → ((run_leg step test n ok k s).converged ≡ test (run_leg step test n ok k s).left.posterior) × (k ≤ (run_leg step test n ok k s).iterations)
  runs_on zero ok k s e = (e, omega arith)
  runs_on (suc n) true k s e = (e, omega arith)
  runs_on (suc n) false k s e = let w = runs_on n (test (step s).posterior) (suc k) (step s) refl in (w.0, omega (arith, w.1))

  -- with some iteration allowed it takes one
  runs_once : (n : ℕ) (s : State) → 0 < n
      → ((run_leg step test n false 0 s).converged ≡ test (run_leg step test n false 0 s).left.posterior) × (1 ≤ (run_leg step test n false 0 s).iterations)
  runs_once zero s h = absurd (omega arith)
  runs_once (suc n) s h = runs_on n (test (step s).posterior) 1 (step s) refl

  -- as many posteriors as it began with
  leg_keeps : Keeps step → (n : ℕ) (ok : Bool) (k : ℕ) (s : State) → length (run_leg step test n ok k s).left.posterior ≡ length s.posterior
  leg_keeps h zero ok k s = refl
  leg_keeps h (suc n) true k s = refl
  leg_keeps h (suc n) false k s = leg_keeps h n (test (step s).posterior) (suc k) (step s) ∙ h s

-- ---- of a decode whose tests tell this

module _ (x : Shot) (few : x.graph.mechanisms ≤ 65536) (many : length x.prior ≡ x.graph.mechanisms)
    (good : (m : ℕ) → m < x.graph.mechanisms → prior_good (get_or x.prior m nan) ≡ true)
    (pre : 0 < x.settings.pre_iterations) (legs : 0 < x.settings.num_legs → 0 < x.settings.leg_iterations) where
  -- each leg
  leg_ran : (r : ℕ) (posterior : List Float) → r ≤ x.settings.num_legs → length posterior ≡ x.graph.mechanisms → Ran x (executed_leg by_place x r posterior)
  unfolding executed_leg step_of start_leg
  leg_ran r posterior h e =
      let l = executed_leg by_place x r posterior in
      let once = runs_once (step_of by_place x r) (satisfied x.graph x.syndrome) (iteration_limit x.settings r) (start_leg x.graph x.prior posterior) (limit_some x.settings pre legs r h) in
      record {
        once = once.1;
        tested = once.0;
        long =
            leg_keeps (step_of by_place x r) (satisfied x.graph x.syndrome) (iteration_keeps x.settings.schedule by_place _ _ _ _ _ _ _)
            (iteration_limit x.settings r) false 0 (start_leg x.graph x.prior posterior) ∙ e;
        finite = weight_finite x.prior (hard_decision l.left.posterior) x.graph.mechanisms good (hard_bits_lem l.left.posterior) few;
      }

  -- the run after r legs
  pub holds_all : (r : ℕ) → r ≤ suc x.settings.num_legs → Holds x (leg_at x) r (run_after x r)
  unfolding run_after leg_at
  holds_all zero h = holds_none x (leg_at x) many
  holds_all (suc r) h =
      let p = holds_all r (omega arith) in
      holds_more x (leg_at x) r (omega arith) (run_after x r) p (leg_ran r (run_after x r).posterior (omega arith) p.posterior)
