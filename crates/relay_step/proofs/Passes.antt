-- One turn of each pass over checks and variables, and what passes say of an iteration, as the code has it. Assumes nothing.
use mathlib.Core.Path.{◌≡◌, ap, ◌∙◌}
use mathlib.Core.Bool.{not}
use mathlib.Core.List.{List, [], ◌∷◌, foldl}
use Prim.Native.Nat.{ℕ, suc, ◌+◌, ◌<◌}
use lib.Dec.{eqb}
use lib.Ieee.{Float, nan}
use lib.ListN.{length, get_or, take, set}
use Rattle.numbers.specs.Loops.{part, spliced}
use Rattle.numbers.proofs.Turns.{fold_turn, turns_turn, table_turn}
use Rattle.graph_lists.specs.Graph.{Graph}
use Rattle.graph_lists.specs.Messages.{by_place}
use Rattle.graph_messages.specs.Needs.{walked, of_checks, of_variables}
use Rattle.relay_settings.specs.declared.Clip.{Clip}
use Rattle.relay_check.specs.Check.{check_messages}
use Rattle.relay_step.specs.Step.{State, state, update_check, update_variable, bias_of, biases_to, compute_bias, check_pass, variable_pass, flooding_iteration, serial_check, serial_pass}

-- ---- turns

-- one bias further
pub bias_turn : (prior gamma posterior out : List Float) (v : ℕ) (b : Float) → v < length out → take v out ≡ biases_to prior gamma posterior v
    → b ≡ bias_of (get_or prior v nan) (get_or gamma v nan) (get_or posterior v nan) → take (v + 1) (set out v b) ≡ biases_to prior gamma posterior (v + 1)
unfolding biases_to
bias_turn prior gamma posterior out v b h p q = table_turn _ out v b h p q

-- one check further
pub checks_turn : (g : Graph) (alpha : Float) (clip : Clip) (syndrome : List ℕ) (s t u : State) (order : List ℕ) (i c : ℕ) → i < length order → c ≡ get_or order i 0
    → t ≡ check_pass by_place g alpha clip syndrome (take i order) s → u ≡ update_check by_place g alpha clip syndrome t c → u ≡ check_pass by_place g alpha clip syndrome (take (i + 1) order) s
unfolding check_pass
checks_turn g alpha clip syndrome s t u order i c h e p q = fold_turn _ s t u order i c 0 h e p q

-- one variable further
pub variable_pass_turn : (g : Graph) (bias : List Float) (s t u : State) (v : ℕ) → t ≡ variable_pass g bias s v → u ≡ update_variable g bias t v → u ≡ variable_pass g bias s (v + 1)
unfolding variable_pass
variable_pass_turn g bias s t u v p q = turns_turn _ s t u v p q

-- one check of a serial pass further
pub serial_turn : (g : Graph) (alpha : Float) (clip : Clip) (syndrome : List ℕ) (bias : List Float) (s t u : State) (order : List ℕ) (i c : ℕ) → i < length order
    → c ≡ get_or order i 0 → t ≡ serial_pass by_place g alpha clip syndrome bias (take i order) s → u ≡ serial_check by_place g alpha clip syndrome bias t c
    → u ≡ serial_pass by_place g alpha clip syndrome bias (take (i + 1) order) s
unfolding serial_pass
serial_turn g alpha clip syndrome bias s t u order i c h e p q = fold_turn _ s t u order i c 0 h e p q

-- ---- one check, with its part as the code reads it

module _ (checks mechanisms : ℕ) (cv co vm vo : List ℕ) (alpha : Float) (clip : Clip) (syndrome : List ℕ) (c_to_v v_to_c posterior out : List Float) (c a e : ℕ) (from : a ≡ get_or co c 0)
    (to : e ≡ get_or co (suc c) 0) (is : out ≡ spliced c_to_v a e (check_messages alpha clip (not (eqb (get_or syndrome c 0) 0)) (part a e cv) (part a e v_to_c))) where
  -- what it sends
  pub check_is : state out v_to_c posterior ≡ update_check by_place (walked checks mechanisms cv co vm vo) alpha clip syndrome (state c_to_v v_to_c posterior) c
  unfolding update_check
  check_is = rw (is, from, to)

  -- and in a serial iteration, with its variables
  pub serial_is : (bias : List Float) (u : State) → u ≡ foldl (update_variable (of_variables mechanisms vm vo) bias) (state out v_to_c posterior) (part a e cv)
      → u ≡ serial_check by_place (walked checks mechanisms cv co vm vo) alpha clip syndrome bias (state c_to_v v_to_c posterior) c
  unfolding serial_check update_variable
  serial_is bias u t = rw (← check_is) (t ∙ rw (from, to))

-- ---- an iteration

module _ (checks mechanisms : ℕ) (cv co vm vo : List ℕ) (alpha : Float) (clip : Clip) (syndrome : List ℕ) (v_to_c posterior : List Float) where
  -- checks leave the variables' messages and the posterior, and don't read the posterior
  pass_keeps : (order : List ℕ) (c_to_v out : List Float) → state out v_to_c [] ≡ check_pass by_place (of_checks checks cv co) alpha clip syndrome order (state c_to_v v_to_c [])
      → state out v_to_c posterior ≡ check_pass by_place (walked checks mechanisms cv co vm vo) alpha clip syndrome order (state c_to_v v_to_c posterior)
  unfolding check_pass update_check
  pass_keeps [] c_to_v out h = ap (λ s. state s.c_to_v v_to_c posterior) h
  pass_keeps (c ∷ order) c_to_v out h = pass_keeps order _ out h

  -- a flooding iteration
  pub flooding_is : (prior gamma bias c_to_v out : List Float) (u : State) (order : List ℕ)
      → state out v_to_c [] ≡ check_pass by_place (of_checks checks cv co) alpha clip syndrome order (state c_to_v v_to_c []) → bias ≡ compute_bias prior gamma posterior
      → u ≡ variable_pass (of_variables mechanisms vm vo) bias (state out v_to_c posterior) mechanisms
      → u ≡ flooding_iteration by_place (walked checks mechanisms cv co vm vo) alpha clip syndrome prior gamma order (state c_to_v v_to_c posterior)
  unfolding flooding_iteration variable_pass update_variable
  flooding_is prior gamma bias c_to_v out u order h b v = rw (← pass_keeps order c_to_v out h, ← b) v
