-- Relay with a check's messages had by numbers that are their own places gives what it gives by place: one iteration, a leg, and all legs. Assumes nothing.
use Prim.Native.Nat.{ℕ, suc, ◌<◌}
use mathlib.Core.Path.{◌≡◌, sym, ap, ◌∙◌}
use mathlib.Core.Bool.{false, not}
use mathlib.Core.List.{List, [], foldl}
use lib.Dec.{eqb}
use lib.Ieee.{Float}
use lib.ListN.{length, get_or}
use Rattle.graph_lists.specs.Graph.{Graph, check_entries}
use Rattle.graph_lists.specs.Messages.{by_place}
use Rattle.graph_lists.proofs.Sound.{Sound}
use Rattle.relay_settings.specs.declared.Clip.{Clip}
use Rattle.relay_settings.specs.declared.Schedule.{Schedule}
use Rattle.relay_settings.specs.declared.Schedule.TheVariants.{Flooding, CheckSerial}
use Rattle.relay_check.specs.Check.{check_messages}
use Rattle.relay_step.specs.Step.{State, state, update_check, update_variable, compute_bias, check_pass, variable_pass, flooding_iteration, serial_check, serial_pass, check_serial_iteration, iteration}
use Rattle.relay_step.specs.Leg.{start_leg, satisfied}
use Rattle.relay_gammas.specs.Gammas.{gamma_of}
use Rattle.relay_orders.specs.Order.{NamesOnce}
use Rattle.relay_orders.proofs.All.{All, all_map}
use Rattle.relay_orders.proofs.Counts.{names_below}
use Rattle.relay_stores.proofs.EachIteration.{Full, by_place_full}
use Rattle.relay_calls.specs.Decode.{Shot, Run, running, iteration_limit, step_of, executed_leg, start_run, recorded, after_leg, decode_legs}
use Rattle.relay_calls.proofs.Calls.{legs_agree}
use Rattle.relay_step.proofs.Lengths.{length_sent}
use Rattle.relay.proofs.Exchange.{Sized, keep_check, keep_serial}
use Rattle.relay.proofs.SameOutcome.{keep_iteration, leg_same, start_sized}
use Rattle.graph_layouts.proofs.Lists.{own, read_agrees, update_agrees}
use Rattle.graph_layouts.proofs.Loops.{folds_agree}

-- ---- one iteration

module _ (g : Graph) (sound : Sound g) (alpha : Float) (clip : Clip) (syndrome : List ℕ) where
  -- a check
  check_agrees : (c : ℕ) → c < g.checks → (s : State) → Sized g s → update_check by_place g alpha clip syndrome s c ≡ update_check (own g) g alpha clip syndrome s c
  unfolding update_check
  check_agrees c h s z =
      let odd = not (eqb (get_or syndrome c 0) 0) in
      ap (λ (x : List Float). state x s.v_to_c s.posterior)
      (update_agrees g sound.check_parts c h (check_messages alpha clip odd (check_entries g c)) (length_sent alpha clip odd (check_entries g c)) s.v_to_c s.c_to_v z.back z.out)

  module _ (prior gamma : List Float) (order : List ℕ) (below : All (λ k. k < g.checks) order) (s : State) (z : Sized g s) where
    -- the checks of a flooding iteration
    pass_agrees : check_pass by_place g alpha clip syndrome order s ≡ check_pass (own g) g alpha clip syndrome order s
    unfolding check_pass
    pass_agrees =
        folds_agree (Sized g) (update_check by_place g alpha clip syndrome) (update_check (own g) g alpha clip syndrome)
        (all_map (λ c h t y. (check_agrees c h t y, keep_check g sound alpha clip syndrome [] c h t y)) below) s z

    -- a flooding iteration
    flooding_agrees : flooding_iteration by_place g alpha clip syndrome prior gamma order s ≡ flooding_iteration (own g) g alpha clip syndrome prior gamma order s
    unfolding flooding_iteration
    flooding_agrees = ap (λ (t : State). variable_pass g (compute_bias prior gamma t.posterior) t g.mechanisms) pass_agrees

    -- a serial one
    serial_agrees : check_serial_iteration by_place g alpha clip syndrome prior gamma order s ≡ check_serial_iteration (own g) g alpha clip syndrome prior gamma order s
    unfolding check_serial_iteration serial_pass serial_check
    serial_agrees =
        let bias = compute_bias prior gamma s.posterior in
        folds_agree (Sized g) (serial_check by_place g alpha clip syndrome bias) (serial_check (own g) g alpha clip syndrome bias)
        (all_map
        (λ c h t y. (ap (λ (u : State). foldl (update_variable g bias) u (check_entries g c)) (check_agrees c h t y), keep_serial g sound alpha clip syndrome bias c h t y)) below)
        s z

    -- either
    pub iteration_agrees : (schedule : Schedule)
        → iteration schedule by_place g alpha clip syndrome prior gamma order s ≡ iteration schedule (own g) g alpha clip syndrome prior gamma order s
    iteration_agrees Flooding = flooding_agrees
    iteration_agrees CheckSerial = serial_agrees

-- ---- all legs

module _ (x : Shot) (sound : Sound x.graph) (names : NamesOnce x.graph.checks x.order) where
  -- one leg
  executed_agrees : (r : ℕ) (posterior : List Float) → executed_leg by_place x r posterior ≡ executed_leg (own x.graph) x r posterior
  unfolding executed_leg step_of
  executed_agrees r posterior =
      let gamma = gamma_of x.settings x.gammas x.graph.mechanisms x.seed r in
      leg_same (Sized x.graph) _ _
      (λ s z. iteration_agrees x.graph sound x.settings.alpha x.settings.clip x.syndrome x.prior gamma x.order (names_below names) s z x.settings.schedule)
      (keep_iteration x.graph sound x.order names x.settings.alpha x.settings.clip x.syndrome x.settings.schedule x.prior gamma)
      (satisfied x.graph x.syndrome) (iteration_limit x.settings r) false 0 (start_leg x.graph x.prior posterior) (start_sized x.graph x.prior posterior)

  -- recorded and judged
  after_agrees : (r : ℕ) (run : Run) → after_leg by_place x r run ≡ after_leg (own x.graph) x r run
  unfolding after_leg recorded
  after_agrees r run = rw (executed_agrees r run.posterior)

  -- so all of them
  pub decode_agrees : decode_legs by_place x ≡ decode_legs (own x.graph) x
  unfolding decode_legs
  decode_agrees = legs_agree by_place (own x.graph) x x after_agrees (suc x.settings.num_legs) (running (start_run x)) 0

-- ---- how many messages

-- by number, too, the messages of a check are as many as its entries
pub own_full : (g : Graph) → Sound g → Full (own g) g
own_full g sound =
    record { many = λ c all h e. ap length (sym (read_agrees g sound.check_parts c h all e)) ∙ (by_place_full g sound).many c all h e }
