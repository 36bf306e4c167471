-- What is counted of a leg are the iterations that it took; and when 29 refuses. Assumes nothing.
use Prim.Native.Nat.{ℕ, zero, suc, ◌-◌, ◌<◌, ◌≤◌}
use mathlib.Core.Path.{◌≡◌, refl, sym, ap, ◌∙◌}
use mathlib.Core.Bool.{Bool, true, false}
use mathlib.Core.List.{List}
use mathlib.Core.Logic.{◌↔◌}
use native.Mathlib.Omega.{arith}
use lib.Ieee.{Float}
use borrow.Author.Tests.{leb-false, lt-leb}
use Rattle.numbers.specs.Loops.{turns}
use Rattle.refusals.specs.declared.Refusal.TheVariants.{TooManyStores}
use Rattle.std.specs.Prelude.{Err}
use Rattle.refusals.specs.Tests.{unless}
use Rattle.refusals.proofs.Tests.{unless_refused_lem}
use Rattle.graph_lists.specs.Graph.{Graph}
use Rattle.graph_lists.specs.Messages.{by_place}
use Rattle.relay_settings.specs.declared.Settings.{Settings}
use Rattle.relay_step.specs.Step.{State}
use Rattle.relay_step.specs.Leg.{start_leg, run_leg, satisfied}
use Rattle.relay_stores.specs.Stores.{stores_at, most_iterations, max_stores, stores_fault}
use Rattle.relay_stores.proofs.Counting.{counted_state}
use Rattle.relay_calls.specs.Decode.{Shot, iteration_limit, step_of, executed_leg, counted_step_of, counted_leg}

-- ---- a leg is its iterations, one after the other

module _ (step : State → State) where
  -- so many
  abbrev steps : ℕ → State → State
  steps n s = turns n (λ k t. step t) s

  -- the first may come first
  steps_front : (n : ℕ) (s : State) → steps (suc n) s ≡ steps n (step s)
  steps_front zero s = refl
  steps_front (suc n) s = ap step (steps_front n s)

  -- none
  steps_none : (k : ℕ) (s : State) → s ≡ steps (k - k) s
  steps_none k s = let e : k - k ≡ 0 = omega arith in ap (λ n. steps n s) (sym e)

  module _ (test : List Float → Bool) where
    -- as many as it says, of which k are done
    leg_steps : (n : ℕ) (ok : Bool) (k : ℕ) (s : State)
        → (k ≤ (run_leg step test n ok k s).iterations) × ((run_leg step test n ok k s).left ≡ steps ((run_leg step test n ok k s).iterations - k) s)
    leg_steps zero ok k s = (omega arith, steps_none k s)
    leg_steps (suc n) true k s = (omega arith, steps_none k s)
    leg_steps (suc n) false k s =
        let b = test (step s).posterior in
        let w = leg_steps n b (suc k) (step s) in
        let i = (run_leg step test n b (suc k) (step s)).iterations in
        let e : suc (i - suc k) ≡ i - k = omega (arith, w.0) in
        (omega (arith, w.0), w.1 ∙ sym (steps_front (i - suc k) s) ∙ ap (λ m. steps m s) e)

-- and what counts them goes the same way
pub leg_state_lem : (x : Shot) (r : ℕ) (posterior : List Float) → (counted_leg by_place x r posterior (executed_leg by_place x r posterior).iterations).now ≡ (executed_leg by_place x r posterior).left
unfolding executed_leg counted_leg counted_step_of step_of
leg_state_lem x r posterior =
    let s = start_leg x.graph x.prior posterior in
    let step = step_of by_place x r in
    let w = leg_steps step (satisfied x.graph x.syndrome) (iteration_limit x.settings r) false 0 s in
    let i = (executed_leg by_place x r posterior).iterations in
    let e : i - 0 ≡ i = omega arith in
    go i ∙ ap (λ n. steps step n s) (sym e) ∙ sym w.1
  where
    go : (n : ℕ) → (counted_leg by_place x r posterior n).now ≡ steps (step_of by_place x r) n (start_leg x.graph x.prior posterior)
    go zero = refl
    go (suc n) = counted_state x.settings.schedule by_place x.graph _ _ _ _ _ _ (counted_leg by_place x r posterior n) ∙ ap (step_of by_place x r) (go n)

-- ---- 29

-- it refuses just where the formula is above 2^64 - 1
pub fault_when : (t : Settings) (g : Graph) → (stores_fault t g ≡ Err TooManyStores) ↔ (max_stores < stores_at t.schedule g (most_iterations t))
unfolding stores_fault unless
fault_when t g = (
  λ e. leb-false (stores_at t.schedule g (most_iterations t)) max_stores (unless_refused_lem _ TooManyStores e),
  λ h. rw (lt-leb (stores_at t.schedule g (most_iterations t)) max_stores h),
)
