-- Iterations, rounds and the end rule, from what their passes leave. A pass over checks or over variables alone speaks of a graph with that side alone; the
-- definitions read no more of the whole graph. Assumes nothing.
use mathlib.Core.Path.{◌≡◌, refl, ◌∙◌}
use mathlib.Core.Bool.{Bool, true, false, not, beq}
use mathlib.Core.List.{List, [], map}
use Prim.Native.Nat.{ℕ, ◌+◌, ◌/◌, ◌<◌, ◌≤◌}
use native.Mathlib.Nat.{div-one}
use lib.Ieee.{Float, nan, lt}
use lib.ListN.{length, get_or, take, set, replicate}
use borrow.Author.Tests.{not-true, not-false, le-leb, lt-leb}
use Rattle.numbers.specs.Floats.{zero⁺, abs}
use Rattle.numbers.proofs.Turns.{turns_turn, table_turn}
use Rattle.graph_lists.specs.Graph.{Graph}
use Rattle.graph_lists.specs.Messages.{by_place, cleared, from_variables}
use Rattle.graph_messages.specs.Needs.{walked, of_checks, of_variables}
use Rattle.min_sum_pass.specs.MinSum.{Messages, messages, Belief, belief, skipped, update_check, parallel_check, raw_posterior, update_variable, checks_to}
use Rattle.min_sum_pass.specs.MinSum.{variables_to, serial_to, parallel_iteration, serial_iteration, averaged_to, averaged, weight_of, start_round, iterated}
use Rattle.min_sum_pass.specs.MinSum.{iterated_in, outer_round_to, outer_round, all_rounds, chosen, chosen_to, min_sum_bp}

module _ (checks mechanisms : ℕ) (cv co vm vo : List ℕ) where
  -- the checks read nothing of the variables' side
  checks_alone : (scale : Float) (syndrome : List ℕ) (s : Messages) (n : ℕ)
      → checks_to by_place (walked checks mechanisms cv co vm vo) scale syndrome s n ≡ checks_to by_place (of_checks checks cv co) scale syndrome s n
  unfolding checks_to parallel_check skipped update_check
  checks_alone scale syndrome s n = refl

  -- the variables read nothing of the checks' side
  variables_alone : (priors : List Float) (s : Messages) (n : ℕ)
      → variables_to (walked checks mechanisms cv co vm vo) priors s n ≡ variables_to (of_variables mechanisms vm vo) priors s n
  unfolding variables_to update_variable raw_posterior
  variables_alone priors s n = refl

  -- nor does the running posterior, and of the messages it reads those to variables
  average_alone : (priors : List Float) (weight : Float) (c_to_v v_to_c ewa : List Float)
      → averaged (walked checks mechanisms cv co vm vo) priors weight (messages c_to_v v_to_c) ewa
      ≡ averaged (of_variables mechanisms vm vo) priors weight (messages c_to_v []) ewa
  unfolding averaged averaged_to raw_posterior
  average_alone priors weight c_to_v v_to_c ewa = refl

  -- nor does the end rule
  chosen_alone : (priors c_to_v v_to_c ewa : List Float) (n : ℕ)
      → chosen_to (walked checks mechanisms cv co vm vo) priors (belief (messages c_to_v v_to_c) ewa) n
      ≡ chosen_to (of_variables mechanisms vm vo) priors (belief (messages c_to_v []) ewa) n
  unfolding chosen_to raw_posterior
  chosen_alone priors c_to_v v_to_c ewa n = refl

  -- an iteration that is not serial, from what its two passes leave
  pub parallel_turned : (scale : Float) (syndrome : List ℕ) (priors : List Float) (weight : Float) (c c' v v' ewa ewa' : List Float)
      → messages c' v ≡ checks_to by_place (of_checks checks cv co) scale syndrome (messages c v) checks
      → messages c' v' ≡ variables_to (of_variables mechanisms vm vo) priors (messages c' v) mechanisms
      → ewa' ≡ averaged (of_variables mechanisms vm vo) priors weight (messages c' []) ewa
      → belief (messages c' v') ewa' ≡ iterated by_place (walked checks mechanisms cv co vm vo) false scale syndrome priors weight (belief (messages c v) ewa)
  unfolding iterated parallel_iteration
  parallel_turned scale syndrome priors weight c c' v v' ewa ewa' p q r =
      rw (checks_alone, ← p, variables_alone, ← q, average_alone, r)

  -- a serial iteration
  pub serial_turned : (scale : Float) (syndrome : List ℕ) (priors : List Float) (weight : Float) (c c' v v' ewa ewa' : List Float)
      → messages c' v' ≡ serial_to by_place (walked checks mechanisms cv co vm vo) scale syndrome priors (messages c v) checks
      → ewa' ≡ averaged (of_variables mechanisms vm vo) priors weight (messages c' []) ewa
      → belief (messages c' v') ewa' ≡ iterated by_place (walked checks mechanisms cv co vm vo) true scale syndrome priors weight (belief (messages c v) ewa)
  unfolding iterated serial_iteration
  serial_turned scale syndrome priors weight c c' v v' ewa ewa' p r = rw (← p, average_alone, r)

  -- the run, from what its rounds and the end rule leave
  pub run_is : (serial : Bool) (scale : Float) (syndrome : List ℕ) (priors : List Float) (n : ℕ) (c v ewa out : List Float)
      → belief (messages c v) ewa ≡ all_rounds by_place (walked checks mechanisms cv co vm vo) serial scale syndrome priors n
      → out ≡ chosen_to (of_variables mechanisms vm vo) priors (belief (messages c []) ewa) mechanisms
      → out ≡ min_sum_bp by_place (walked checks mechanisms cv co vm vo) serial scale syndrome priors n
  unfolding min_sum_bp
  run_is serial scale syndrome priors n c v ewa out b p = rw (← b, chosen_alone) p

module _ (g : Graph) (serial : Bool) (scale : Float) (syndrome : List ℕ) (priors : List Float) where
  -- where a round starts. It reads nothing of the messages before it
  pub round_starts : (outer : ℕ) (c v ewa : List Float) (s : Messages) → c ≡ replicate (length g.check_var) zero⁺
      → v ≡ map (λ w. get_or ewa w nan) g.check_var → belief (messages c v) ewa ≡ outer_round_to by_place g serial scale syndrome priors outer (belief s ewa) 0
  unfolding outer_round_to start_round cleared from_variables
  round_starts outer c v ewa s p q = rw (p, q)

  -- one iteration further
  pub round_turn : (outer i : ℕ) (w : Float) (b t u : Belief) → w ≡ weight_of outer i → t ≡ outer_round_to by_place g serial scale syndrome priors outer b i
      → u ≡ iterated by_place g serial scale syndrome priors w t → u ≡ outer_round_to by_place g serial scale syndrome priors outer b (i + 1)
  unfolding outer_round_to iterated_in
  round_turn outer i w b t u e p q = turns_turn _ _ t u i p (q ∙ rw e)

  -- and once all are done
  pub round_done : (inner outer i : ℕ) (s s' : Messages) (ewa : List Float) (t : Belief) → i ≡ inner
      → t ≡ outer_round_to by_place g serial scale syndrome priors outer (belief s ewa) i → t ≡ outer_round by_place g serial scale syndrome priors inner outer (belief s' ewa)
  unfolding outer_round outer_round_to
  round_done inner outer i s s' ewa t e p = rw (← e) p

  -- one round, from whatever messages
  pub one_round : (n : ℕ) (s : Messages) (ewa : List Float) (t : Belief) → n < 6 → ewa ≡ priors
      → t ≡ outer_round by_place g serial scale syndrome priors n 0 (belief s ewa) → t ≡ all_rounds by_place g serial scale syndrome priors n
  unfolding all_rounds outer_round outer_round_to start_round
  one_round n s ewa t h e p = rw (lt-leb 6 n h, div-one) (p ∙ rw e)

  -- two rounds
  pub two_rounds : (n : ℕ) (s : Messages) (ewa : List Float) (u : Belief) → 6 ≤ n → ewa ≡ priors
      → u ≡ outer_round by_place g serial scale syndrome priors (n / 2) 1 (outer_round by_place g serial scale syndrome priors (n / 2) 0 (belief s ewa)) → u ≡ all_rounds by_place g serial scale syndrome priors n
  unfolding all_rounds outer_round outer_round_to start_round
  two_rounds n s ewa u h e t = rw (le-leb 6 n h) (t ∙ rw e)

-- both above zero, or both not, fails: the belief stays
pub chosen_apart : (b raw : Float) → not (beq (lt zero⁺ b) (lt zero⁺ raw)) ≡ true → b ≡ chosen b raw
unfolding chosen
chosen_apart b raw h = rw (not-true (beq (lt zero⁺ b) (lt zero⁺ raw)) h)

-- the raw posterior's magnitude is larger
pub chosen_raw : (b raw x y : Float) → not (beq (lt zero⁺ b) (lt zero⁺ raw)) ≡ false → x ≡ abs b → y ≡ abs raw → lt x y ≡ true → raw ≡ chosen b raw
unfolding chosen
chosen_raw b raw x y h p q l = rw (not-false (beq (lt zero⁺ b) (lt zero⁺ raw)) h, ← p, ← q, l)

-- or not
pub chosen_old : (b raw x y : Float) → not (beq (lt zero⁺ b) (lt zero⁺ raw)) ≡ false → x ≡ abs b → y ≡ abs raw → lt x y ≡ false → b ≡ chosen b raw
unfolding chosen
chosen_old b raw x y h p q l = rw (not-false (beq (lt zero⁺ b) (lt zero⁺ raw)) h, ← p, ← q, l)

-- the end rule, one variable further
pub chosen_turn : (g : Graph) (priors : List Float) (s : Messages) (ewa out : List Float) (v : ℕ) (raw x : Float) → v < length out
    → take v out ≡ chosen_to g priors (belief s ewa) v → raw ≡ raw_posterior g priors s v → x ≡ chosen (get_or ewa v nan) raw
    → take (v + 1) (set out v x) ≡ chosen_to g priors (belief s ewa) (v + 1)
unfolding chosen_to
chosen_turn g priors s ewa out v raw x h p q r = table_turn _ out v x h p (r ∙ rw q)
