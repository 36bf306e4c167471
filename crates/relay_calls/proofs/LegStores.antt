-- What the legs of a decode write is the formula at its total iterations, and how many iterations they can take. Assumes nothing.
use Prim.Native.Nat.{ℕ, zero, suc, ◌+◌, ◌*◌, ◌≤◌}
use native.Mathlib.Nat.{mul-le-mul_right}
use native.Mathlib.Omega.{arith}
use mathlib.Core.Path.{◌≡◌, refl, sym, ap, ◌∙◌}
use mathlib.Core.Bool.{Bool, true, false, false≢true}
use mathlib.Core.List.{List}
use lib.Dec.{leb}
use lib.Ieee.{Float}
use lib.ListN.{length, length-map}
use Rattle.refusals.specs.Refusal.{Answer}
use Rattle.std.specs.Prelude.{Ok, Err}
use Rattle.refusals.proofs.Tests.{or_done, or_second}
use Rattle.graph_lists.specs.Messages.{Access, by_place, from_variables, posterior_fault}
use Rattle.graph_lists.proofs.GraphTests.{graph_told}
use Rattle.graph_lists.proofs.Sound.{Sound, passes_sound}
use Rattle.relay_settings.specs.declared.Settings.{Settings}
use Rattle.relay_orders.specs.Order.{NamesOnce}
use Rattle.relay_gammas.specs.Gammas.{gamma_of}
use Rattle.relay_step.specs.Step.{State}
use Rattle.relay_step.specs.Leg.{start_leg, run_leg, satisfied}
use Rattle.relay_stores.specs.Stores.{stores_each, most_iterations, max_stores, stores_fault}
use Rattle.relay_stores.proofs.EachIteration.{Full, by_place_full, iteration_keeps, iteration_stores}
use Rattle.relay_calls.specs.Decode.{Shot, iteration_limit, step_of, executed_leg, Run, start_run, recorded, Ended, decoded, refused, Progress, running, finished, leg_judged, after_leg, legs_from, decode_legs, counted_step_of, counted_leg, leg_stores, stores_from, decode_stores}
use Rattle.relay_calls.specs.Calls.{DecodeLists, after_legs, after_decode_tests, decode_in_order}
use Rattle.relay_calls.specs.Formula.{taken_fault, stores_in, taken_leaves}
use Rattle.relay_calls.proofs.Named.{names_told}
use Rattle.relay_calls.proofs.Calls.{legs_over}
use Rattle.relay_calls.proofs.LastTests.{stores_last}

-- ---- how many iterations

-- a leg takes no more than it may
pub leg_few : (step : State → State) (test : List Float → Bool) (n : ℕ) (ok : Bool) (k : ℕ) (s : State) → (run_leg step test n ok k s).iterations ≤ n + k
leg_few step test zero ok k s = omega arith
leg_few step test (suc n) true k s = omega arith
leg_few step test (suc n) false k s = omega (arith, leg_few step test n (test (step s).posterior) (suc k) (step s))

-- nor does one of a decode
pub executed_few : (had : Access) (x : Shot) (r : ℕ) (posterior : List Float) → (executed_leg had x r posterior).iterations ≤ iteration_limit x.settings r
unfolding executed_leg
executed_few had x r posterior =
    omega (arith, leg_few (step_of had x r) (satisfied x.graph x.syndrome) (iteration_limit x.settings r) false 0 (start_leg x.graph x.prior posterior))

-- the most that the first r legs can take
abbrev pub most_to : Settings → ℕ → ℕ
most_to t zero = 0
most_to t (suc r) = t.pre_iterations + r * t.leg_iterations

-- one leg more
pub most_more : (t : Settings) (r : ℕ) → most_to t r + iteration_limit t r ≡ most_to t (suc r)
unfolding iteration_limit
most_more t zero = omega arith
most_more t (suc r) = omega arith

-- so no decode takes more than the formula of 29 has
most_all : (t : Settings) (r : ℕ) → r ≤ suc t.num_legs → most_to t r ≤ most_iterations t
most_all t zero h = omega arith
most_all t (suc r) h = let l : r ≤ t.num_legs = omega arith in omega (arith, mul-le-mul_right t.leg_iterations l)

-- and where 29 passes, what r legs write fits
pub fits_within : (total : ℕ) (t : Settings) (r each : ℕ) → r ≤ suc t.num_legs → total ≤ most_to t r → most_iterations t * each ≤ max_stores → total * each ≤ max_stores
fits_within total t r each h e f =
    let l : total ≤ most_iterations t = omega (arith, e, most_all t r h) in
    omega (arith, f, mul-le-mul_right each l)

-- ---- how many messages

-- the iterations of a progress that may yet end well
abbrev total_of : Progress → ℕ
total_of (running run) = run.total_iterations
total_of (finished (decoded run)) = run.total_iterations
total_of (finished (refused r)) = 0

-- an end, as its iterations and whether it is one of a run
abbrev total_at : Ended → ℕ
total_at (decoded run) = run.total_iterations
total_at (refused r) = 0

abbrev is_decoded : Ended → Bool
is_decoded (decoded run) = true
is_decoded (refused r) = false

module _ (had : Access) (x : Shot) (sound : Sound x.graph) (full : Full had x.graph) (names : NamesOnce x.graph.checks x.order) where
  -- what an iteration writes
  abbrev each : ℕ
  each = stores_each x.settings.schedule x.graph

  -- n iterations of a leg, which keep a message for each edge
  leg_counts : (r : ℕ) (posterior : List Float) (n : ℕ)
      → ((counted_leg had x r posterior n).stores ≡ n * each) × (length (counted_leg had x r posterior n).now.v_to_c ≡ length x.graph.check_var)
  unfolding counted_leg counted_step_of start_leg from_variables
  leg_counts r posterior zero = (omega arith, simp length-map)
  leg_counts r posterior (suc n) =
      let w = leg_counts r posterior n in
      let t = counted_leg had x r posterior n in
      let gamma = gamma_of x.settings x.gammas x.graph.mechanisms x.seed r in (
        omega (
          arith,
          iteration_stores x.settings.schedule had x.graph sound full x.order names x.settings.alpha x.settings.clip x.syndrome x.prior gamma t w.1,
          w.0,
        ),
        iteration_keeps x.settings.schedule had x.graph x.settings.alpha x.settings.clip x.syndrome x.prior gamma x.order t ∙ w.1,
      )

  -- a leg
  leg_writes : (r : ℕ) (posterior : List Float) → leg_stores had x r posterior ≡ (executed_leg had x r posterior).iterations * each
  unfolding leg_stores
  leg_writes r posterior = (leg_counts r posterior (executed_leg had x r posterior).iterations).0

  -- a leg that is judged, where the legs end well
  judged_total : (a : Answer) (enough : Bool) (run out : Run) (n r : ℕ) → legs_from had x n (leg_judged a enough run) r ≡ decoded out
      → total_of (leg_judged a enough run) ≡ run.total_iterations
  judged_total (Err z) enough run out n r h = absurd (false≢true (ap is_decoded (sym (legs_over had x n (refused z) r) ∙ h)))
  judged_total (Ok _) true run out n r h = refl
  judged_total (Ok _) false run out n r h = refl

  -- n legs from r on
  legs_write : (n : ℕ) (p : Progress) (r : ℕ) (out : Run) → legs_from had x n p r ≡ decoded out → total_of p * each + stores_from had x n p r ≡ out.total_iterations * each
  unfolding legs_from stores_from after_leg recorded
  legs_write zero (running run) r out h = let e : run.total_iterations ≡ out.total_iterations = ap total_at h in rw e (omega arith)
  legs_write zero (finished e) r out h = rw h (omega arith)
  legs_write (suc n) (finished e) r out h = rw h (omega arith)
  legs_write (suc n) (running run) r out h =
      let l = executed_leg had x r run.posterior in
      let after = recorded x run r l in
      let t : total_of (after_leg had x r run) ≡ run.total_iterations + l.iterations =
      judged_total (posterior_fault x.graph after.posterior) (leb x.settings.stop_after_converged after.num_converged) after out n (suc r) h in
      omega (arith, legs_write n (after_leg had x r run) (suc r) out h, ap (λ k. k * each) t, leg_writes r run.posterior)

  -- all legs
  pub decode_writes : (run : Run) → decode_legs had x ≡ decoded run → decode_stores had x ≡ run.total_iterations * each
  unfolding decode_legs decode_stores start_run
  decode_writes run h = omega (arith, legs_write (suc x.settings.num_legs) (running (start_run x)) 0 run h)

  -- so the formula may stand in the outcome
  pub formula_stands : (edges : ℕ) (l : DecodeLists)
      → after_legs edges x (decode_legs had x) (decode_stores had x) l ≡ after_legs edges x (decode_legs had x) (stores_in each (decode_legs had x)) l
  formula_stands edges l = go (decode_legs had x) refl
    where
      go : (e : Ended) → decode_legs had x ≡ e → after_legs edges x e (decode_stores had x) l ≡ after_legs edges x e (stores_in each e) l
      go (decoded run) h = ap (λ n. after_legs edges x (decoded run) n l) (decode_writes run h)
      go (refused r) h = refl

-- ---- the call

-- past the tests before 29, what 29 and the legs leave is what the call leaves
pub taken_leaves_lem : (edges : ℕ) (x : Shot) (l : DecodeLists) → taken_fault edges x l ≡ Ok tt → taken_leaves edges x l ≡ decode_in_order edges x l
unfolding decode_in_order taken_fault
taken_leaves_lem edges x l h =
    let a = or_done _ _ h in
    let d = or_done _ _ (or_done _ _ (or_done _ _ (or_done _ _ a.1).1).1).1 in
    let sound : Sound x.graph = passes_sound x.graph (graph_told edges x.prior x.graph a.0).is_graph_lem in
    let names = names_told x.graph.checks x.order (or_done _ _ d.1).0 in
    ap (λ o. after_decode_tests (stores_fault x.settings x.graph) o l) (sym (formula_stands by_place x sound (by_place_full x.graph sound) names edges l))
    ∙ ap (λ (a : Answer). after_decode_tests a (after_legs edges x (decode_legs by_place x) (decode_stores by_place x) l) l) (sym (stores_last edges x l ∙ or_second _ _ h))
