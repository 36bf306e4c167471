-- An order that is taken gives what the index order gives: one iteration, a leg, and all legs. Assumes nothing.
use Prim.Native.Nat.{ℕ, zero, suc}
use mathlib.Core.Path.{◌≡◌, refl, sym, ◌∙◌, ap}
use mathlib.Core.Bool.{Bool, true, false}
use mathlib.Core.List.{List, []}
use native.Mathlib.Omega.{arith}
use lib.Ieee.{Float}
use lib.ListN.{length-replicate, length-map}
use Rattle.std.specs.Prelude.{Ok}
use Rattle.graph_lists.specs.Graph.{Graph, check_entries}
use Rattle.graph_lists.specs.Messages.{by_place, from_variables, cleared}
use Rattle.graph_lists.proofs.Sound.{Sound}
use Rattle.relay_settings.specs.declared.Clip.{Clip}
use Rattle.relay_settings.specs.declared.Schedule.{Schedule}
use Rattle.relay_settings.specs.declared.Schedule.TheVariants.{Flooding, CheckSerial}
use Rattle.relay_step.specs.Step.{State, update_check, compute_bias, check_pass, variable_pass, flooding_iteration, serial_check, serial_pass, check_serial_iteration, iteration}
use Rattle.numbers.specs.Loops.{upto}
use Rattle.relay_orders.specs.Order.{NamesOnce, exchanged, exchange_fault}
use Rattle.relay_step.specs.Leg.{start_leg, run_leg, satisfied}
use Rattle.relay_gammas.specs.Gammas.{gamma_of}
use Rattle.relay_calls.specs.Decode.{Shot, Run, running, iteration_limit, step_of, executed_leg, start_run, recorded, after_leg, decode_legs}
use Rattle.relay_calls.specs.Calls.{with_order}
use Rattle.relay_calls.proofs.Calls.{legs_agree}
use Rattle.relay_orders.proofs.Counts.{names_below}
use Rattle.relay.proofs.Rearrange.{keeps, same}
use Rattle.relay.proofs.Witness.{FreeIf, orders, Apart, keeps_order, keeps_any}
use Rattle.relay.proofs.Exchange.{Sized, keep_check, keep_variable, keep_serial, swap_checks, swap_serial}

-- ---- one iteration

module _ (g : Graph) (sound : Sound g) (order : List ℕ) (names : NamesOnce g.checks order) (alpha : Float) (clip : Clip) (syndrome : List ℕ) where
  -- nothing asked of two checks
  abbrev Any : ℕ → ℕ → Type 0
  Any x y = Unit

  -- the checks of a flooding iteration, in any order that names each once
  pass_same : (s : State) → Sized g s → check_pass by_place g alpha clip syndrome order s ≡ check_pass by_place g alpha clip syndrome (upto g.checks) s
  unfolding check_pass
  pass_same s z =
      same (update_check by_place g alpha clip syndrome) g.checks (Sized g) (FreeIf Any) (λ a b t. t.0) (keep_check g sound alpha clip syndrome [])
      (λ a b h t u y. sym (swap_checks g sound alpha clip syndrome [] b a t.0 h u y)) (orders Any g.checks order names (keeps_any order)) (omega arith) s z

  -- a flooding iteration
  flooding_same : (prior gamma : List Float) (s : State) → Sized g s
      → flooding_iteration by_place g alpha clip syndrome prior gamma order s ≡ flooding_iteration by_place g alpha clip syndrome prior gamma (upto g.checks) s
  unfolding flooding_iteration
  flooding_same prior gamma s z = ap (λ t. variable_pass g (compute_bias prior gamma t.posterior) t g.mechanisms) (pass_same s z)

  -- a serial iteration, in an order in which nothing is exchanged
  serial_same : exchanged (check_entries g) [] order ≡ Ok tt → (prior gamma : List Float) (s : State) → Sized g s
      → check_serial_iteration by_place g alpha clip syndrome prior gamma order s ≡ check_serial_iteration by_place g alpha clip syndrome prior gamma (upto g.checks) s
  unfolding check_serial_iteration serial_pass
  serial_same e prior gamma s z =
      let bias = compute_bias prior gamma s.posterior in
      let R = Apart (check_entries g) in
      same (serial_check by_place g alpha clip syndrome bias) g.checks (Sized g) (FreeIf R) (λ a b t. t.0) (keep_serial g sound alpha clip syndrome bias)
      (λ a b h t u y. swap_serial g sound alpha clip syndrome bias a b t.0 h t.1 u y) (orders R g.checks order names (keeps_order (check_entries g) order e))
      (omega arith) s z

  -- an iteration of either schedule
  iteration_same : (schedule : Schedule) → exchange_fault schedule g order ≡ Ok tt → (prior gamma : List Float) (s : State) → Sized g s
      → iteration schedule by_place g alpha clip syndrome prior gamma order s ≡ iteration schedule by_place g alpha clip syndrome prior gamma (upto g.checks) s
  unfolding exchange_fault
  iteration_same Flooding e prior gamma s z = flooding_same prior gamma s z
  iteration_same CheckSerial e prior gamma s z = serial_same e prior gamma s z

  -- ---- an iteration keeps the sizes

  -- the variables' pass keeps the sizes
  keep_pass : (bias : List Float) (s : State) (n : ℕ) → Sized g s → Sized g (variable_pass g bias s n)
  unfolding variable_pass
  keep_pass bias s zero z = z
  keep_pass bias s (suc n) z = keep_variable g sound alpha clip syndrome bias n (variable_pass g bias s n) (keep_pass bias s n z)

  -- so does an iteration
  pub keep_iteration : (schedule : Schedule) (prior gamma : List Float) (s : State) → Sized g s → Sized g (iteration schedule by_place g alpha clip syndrome prior gamma order s)
  unfolding flooding_iteration check_serial_iteration serial_pass check_pass
  keep_iteration Flooding prior gamma s z =
      keep_pass (compute_bias prior gamma (check_pass by_place g alpha clip syndrome order s).posterior) (check_pass by_place g alpha clip syndrome order s) g.mechanisms
      (keeps (update_check by_place g alpha clip syndrome) g.checks (Sized g) (FreeIf Any) (λ a b t. t.0) (keep_check g sound alpha clip syndrome [])
      (λ a b h t u y. sym (swap_checks g sound alpha clip syndrome [] b a t.0 h u y)) order (names_below names) s z)
  keep_iteration CheckSerial prior gamma s z =
      let bias = compute_bias prior gamma s.posterior in
      let R = Apart (check_entries g) in
      keeps (serial_check by_place g alpha clip syndrome bias) g.checks (Sized g) (FreeIf R) (λ a b t. t.0) (keep_serial g sound alpha clip syndrome bias)
      (λ a b h t u y. swap_serial g sound alpha clip syndrome bias a b t.0 h t.1 u y) order (names_below names) s z

-- ---- a leg

-- two steps that agree on good states give one leg
pub leg_same : (Good : State → Type 0) (step step' : State → State) → ((s : State) → Good s → step s ≡ step' s) → ((s : State) → Good s → Good (step s))
    → (test : List Float → Bool) (n : ℕ) (ok : Bool) (k : ℕ) (s : State) → Good s → run_leg step test n ok k s ≡ run_leg step' test n ok k s
leg_same Good step step' e keep test zero ok k s z = refl
leg_same Good step step' e keep test (suc n) true k s z = refl
leg_same Good step step' e keep test (suc n) false k s z =
    leg_same Good step step' e keep test n (test (step s).posterior) (suc k) (step s) (keep s z)
    ∙ ap (λ t. run_leg step' test n (test t.posterior) (suc k) t) (e s z)

-- a leg starts with a message for each edge
pub start_sized : (g : Graph) (prior posterior : List Float) → Sized g (start_leg g prior posterior)
unfolding start_leg cleared from_variables
start_sized g prior posterior = record { out = length-replicate _ _; back = simp length-map }

-- ---- all legs

-- the shot in index order
abbrev pub in_index_order : Shot → Shot
in_index_order x = with_order x (upto x.graph.checks)

module _ (x : Shot) (sound : Sound x.graph) (names : NamesOnce x.graph.checks x.order) (free : exchange_fault x.settings.schedule x.graph x.order ≡ Ok tt) where
  -- one leg
  executed_same : (r : ℕ) (posterior : List Float) → executed_leg by_place x r posterior ≡ executed_leg by_place (in_index_order x) r posterior
  unfolding executed_leg step_of
  executed_same r posterior =
      let gamma = gamma_of x.settings x.gammas x.graph.mechanisms x.seed r in
      leg_same (Sized x.graph) _ _ (iteration_same x.graph sound x.order names x.settings.alpha x.settings.clip x.syndrome x.settings.schedule free x.prior gamma)
      (keep_iteration x.graph sound x.order names x.settings.alpha x.settings.clip x.syndrome x.settings.schedule x.prior gamma)
      (satisfied x.graph x.syndrome) (iteration_limit x.settings r) false 0 (start_leg x.graph x.prior posterior) (start_sized x.graph x.prior posterior)

  -- one leg, recorded and judged
  after_same : (r : ℕ) (run : Run) → after_leg by_place x r run ≡ after_leg by_place (in_index_order x) r run
  unfolding after_leg recorded
  after_same r run = rw (executed_same r run.posterior)

  -- for every settings, syndrome, seed and gammas
  pub decode_same : decode_legs by_place x ≡ decode_legs by_place (in_index_order x)
  unfolding decode_legs start_run
  decode_same = legs_agree by_place by_place x (in_index_order x) after_same (suc x.settings.num_legs) (running (start_run x)) 0
