-- With a clip that is on, all check messages stay finite and not beyond it: over an iteration of either schedule, in any order and over any graph, and over a leg.
-- Assumes nothing.
use Prim.Native.Nat.{ℕ, zero, suc, ◌+◌, ◌-◌, ◌<◌, ◌≤◌}
use mathlib.Core.Path.{◌≡◌, ap, ◌∙◌}
use mathlib.Core.Bool.{Bool, true, false, not}
use mathlib.Core.List.{List, [], ◌∷◌, ◌++◌, foldl}
use mathlib.Core.Logic.{⊎_elim}
use native.Mathlib.Omega.{arith}
use lib.Dec.{eqb}
use lib.Ieee.{Float, nan, binary64, lt, fits}
use lib.ListN.{length, get_or, take, drop, length-append, length-replicate, get_or-replicate, take-append-drop, get_or-append}
use lib.Seq.{get_or-append-add}
use Rattle.numbers.specs.Floats.{zero⁺, abs, is_finite}
use Rattle.numbers.specs.Loops.{turns, part, spliced}
use Rattle.numbers.proofs.Cases.{less_or_not, and_both}
use Rattle.numbers.proofs.Order.{lt_one_way}
use Rattle.graph_lists.specs.Graph.{Graph, check_entries}
use Rattle.graph_lists.specs.Messages.{by_place, cleared}
use Rattle.relay_settings.specs.declared.Clip.{Clip}
use Rattle.relay_settings.specs.declared.Clip.TheVariants.{On}
use Rattle.relay_settings.specs.declared.Schedule.{Schedule}
use Rattle.relay_settings.specs.declared.Schedule.TheVariants.{Flooding, CheckSerial}
use Rattle.relay_settings.specs.Settings.{clip_good, alpha_good}
use Rattle.relay_check.specs.Check.{check_messages}
use Rattle.relay_step.specs.Step.{State, update_check, update_variable, check_pass, variable_pass, flooding_iteration, serial_check, serial_pass, check_serial_iteration, iteration}
use Rattle.relay_step.specs.Leg.{start_leg, run_leg}
use Rattle.relay_step.proofs.Lengths.{length_sent}
use Rattle.relay_check.proofs.Clips.{sent_within, sent_finite}

-- ---- each element of a list

module _ (P : Float → Type 0) where
  -- P of each element
  abbrev pub Each : List Float → Type 0
  Each xs = (i : ℕ) → i < length xs → P (get_or xs i nan)

  -- of the front of a list
  each_left : (xs ys : List Float) → Each (xs ++ ys) → Each xs
  each_left xs ys h i l = rw (get_or-append xs ys nan i l) at (h i (omega (arith, length-append xs ys)))

  -- of its back
  each_right : (xs ys : List Float) → Each (xs ++ ys) → Each ys
  each_right xs ys h i l = rw (get_or-append-add xs ys i nan) at (h (length xs + i) (omega (arith, length-append xs ys)))

  -- of both together
  each_both : (xs ys : List Float) → Each xs → Each ys → Each (xs ++ ys)
  each_both xs ys h k i l =
      ⊎_elim
      (λ (m : i < length xs). rw (get_or-append xs ys nan i m) (h i m))
      (λ (m : length xs ≤ i).
      let e : i ≡ length xs + (i - length xs) = omega arith in
      rw (e, get_or-append-add xs ys (i - length xs) nan) (k (i - length xs) (omega (arith, length-append xs ys))))
      (less_or_not i (length xs))

  -- of a list with others in the place of a part, wherever that part ends
  pub each_spliced : (xs new : List Float) (a e : ℕ) → Each xs → Each new → Each (spliced xs a e new)
  each_spliced xs new a e h k =
      each_both (take a xs) (new ++ drop e xs) (each_left (take a xs) (drop a xs) (rw (take-append-drop a xs) h))
      (each_both new (drop e xs) k (each_right (take e xs) (drop e xs) (rw (take-append-drop e xs) h)))

-- ---- messages

-- all messages are finite, and none is beyond the clip
pub record Tame (limit : Float) (xs : List Float) : Type 0 where
  pub finite : (i : ℕ) → i < length xs → is_finite (get_or xs i nan) ≡ true
  pub within : (i : ℕ) → i < length xs → lt limit (abs (get_or xs i nan)) ≡ false

-- at the start of a leg all are 0
pub start_tame : (limit : Float) → clip_good (On limit) ≡ true → (g : Graph) (prior posterior : List Float) → Tame limit (start_leg g prior posterior).c_to_v
unfolding start_leg cleared clip_good is_finite abs
start_tame limit good g prior posterior =
    let n = length g.check_var in
    record {
      finite = λ i l. ap is_finite (get_or-replicate n i zero⁺ nan (omega (arith, length-replicate {A = Float} n zero⁺)));
      within =
          λ i l.
          ap (λ x. lt limit (abs x)) (get_or-replicate n i zero⁺ nan (omega (arith, length-replicate {A = Float} n zero⁺)))
          ∙ lt_one_way zero⁺ limit (and_both (is_finite limit) (lt zero⁺ limit) good).1;
    }

-- ---- steps of any kind, that keep a fact

module _ (Q : State → Type 0) where
  -- one by one over a list
  pub fold_holds : (f : State → ℕ → State) → ((s : State) (x : ℕ) → Q s → Q (f s x)) → (xs : List ℕ) (s : State) → Q s → Q (foldl f s xs)
  fold_holds f h [] s q = q
  fold_holds f h (x ∷ xs) s q = fold_holds f h xs (f s x) (h s x q)

  -- or over the numbers below n
  pub turns_hold : (f : State → ℕ → State) → ((s : State) (x : ℕ) → Q s → Q (f s x)) → (n : ℕ) (s : State) → Q s → Q (turns n (λ v t. f t v) s)
  turns_hold f h zero s q = q
  turns_hold f h (suc n) s q = h (turns n (λ v t. f t v) s) n (turns_hold f h n s q)

  -- and a leg, after any number of iterations
  pub leg_holds : (step : State → State) (test : List Float → Bool) → ((s : State) → Q s → Q (step s)) → (n : ℕ) (ok : Bool) (k : ℕ) (s : State) → Q s
      → Q (run_leg step test n ok k s).left
  leg_holds step test h zero ok k s q = q
  leg_holds step test h (suc n) true k s q = q
  leg_holds step test h (suc n) false k s q = leg_holds step test h n (test (step s).posterior) (suc k) (step s) (h s q)

-- ---- Relay's steps

-- what holds of each message that a check sends, whatever it was sent
module _ (P : Float → Type 0) (alpha : Float) (clip : Clip) (g : Graph) (syndrome : List ℕ)
    (each-sent : (odd : Bool) (variables : List ℕ) (messages : List Float) → Each P (check_messages alpha clip odd variables messages)) where
  -- a state of whose check messages it holds
  abbrev Fine : State → Type 0
  Fine s = Each P s.c_to_v

  -- a check among all, whatever its offsets are
  pub check_each : (s : State) (c : ℕ) → Each P s.c_to_v → Each P (update_check by_place g alpha clip syndrome s c).c_to_v
  unfolding update_check
  check_each s c h =
      let from = get_or g.check_offset c 0 in
      let to = get_or g.check_offset (suc c) 0 in
      let odd = not (eqb (get_or syndrome c 0) 0) in
      let messages = part from to s.v_to_c in
      each_spliced P s.c_to_v (check_messages alpha clip odd (check_entries g c) messages) from to h (each-sent odd (check_entries g c) messages)

  -- a variable writes no check message
  variable_each : (bias : List Float) (s : State) (v : ℕ) → Fine s → Fine (update_variable g bias s v)
  unfolding update_variable
  variable_each bias s v h = h

  -- a check with its variables
  serial_each : (bias : List Float) (s : State) (c : ℕ) → Fine s → Fine (serial_check by_place g alpha clip syndrome bias s c)
  unfolding serial_check
  serial_each bias s c h = fold_holds Fine (update_variable g bias) (variable_each bias) (check_entries g c) _ (check_each s c h)

  -- an iteration of either schedule, in any order
  pub iteration_each : (schedule : Schedule) (prior gamma : List Float) (order : List ℕ) (s : State) → Each P s.c_to_v
      → Each P (iteration schedule by_place g alpha clip syndrome prior gamma order s).c_to_v
  unfolding flooding_iteration check_serial_iteration check_pass variable_pass serial_pass
  iteration_each Flooding prior gamma order s h =
      turns_hold Fine (update_variable g _) (variable_each _) g.mechanisms _ (fold_holds Fine (update_check by_place g alpha clip syndrome) check_each order s h)
  iteration_each CheckSerial prior gamma order s h = fold_holds Fine (serial_check by_place g alpha clip syndrome _) (serial_each _) order s h

-- with a clip that is on
module _ (alpha limit : Float) (able : alpha_good alpha ≡ true) (fit : fits binary64 alpha ≡ true) (good : clip_good (On limit) ≡ true)
    (g : Graph) (syndrome : List ℕ) where
  -- what a check sends is finite
  each_finite : (odd : Bool) (variables : List ℕ) (messages : List Float) → Each (λ x. is_finite x ≡ true) (check_messages alpha (On limit) odd variables messages)
  each_finite odd variables messages i l =
      sent_finite alpha limit odd variables messages able fit good i (omega (arith, l, length_sent alpha (On limit) odd variables messages))

  -- and not beyond the clip
  each_within : (odd : Bool) (variables : List ℕ) (messages : List Float) → Each (λ x. lt limit (abs x) ≡ false) (check_messages alpha (On limit) odd variables messages)
  each_within odd variables messages i l =
      sent_within alpha limit odd variables messages good i (omega (arith, l, length_sent alpha (On limit) odd variables messages))

  -- so a check keeps messages tame
  pub check_tame : (s : State) (c : ℕ) → Tame limit s.c_to_v → Tame limit (update_check by_place g alpha (On limit) syndrome s c).c_to_v
  check_tame s c t =
      record {
        finite = check_each (λ x. is_finite x ≡ true) alpha (On limit) g syndrome each_finite s c t.finite;
        within = check_each (λ x. lt limit (abs x) ≡ false) alpha (On limit) g syndrome each_within s c t.within;
      }

  -- an iteration keeps them finite
  pub iteration_finite : (schedule : Schedule) (prior gamma : List Float) (order : List ℕ) (s : State) → Each (λ x. is_finite x ≡ true) s.c_to_v
      → Each (λ x. is_finite x ≡ true) (iteration schedule by_place g alpha (On limit) syndrome prior gamma order s).c_to_v
  iteration_finite = iteration_each (λ x. is_finite x ≡ true) alpha (On limit) g syndrome each_finite

  -- and tame
  pub iteration_tame : (schedule : Schedule) (prior gamma : List Float) (order : List ℕ) (s : State) → Tame limit s.c_to_v
      → Tame limit (iteration schedule by_place g alpha (On limit) syndrome prior gamma order s).c_to_v
  iteration_tame schedule prior gamma order s t =
      record {
        finite = iteration_finite schedule prior gamma order s t.finite;
        within = iteration_each (λ x. lt limit (abs x) ≡ false) alpha (On limit) g syndrome each_within schedule prior gamma order s t.within;
      }

  -- so a leg keeps them tame, after any number of iterations
  pub leg_tame : (schedule : Schedule) (prior gamma : List Float) (order : List ℕ) (test : List Float → Bool) (n : ℕ) (ok : Bool) (k : ℕ) (s : State)
      → Tame limit s.c_to_v → Tame limit (run_leg (iteration schedule by_place g alpha (On limit) syndrome prior gamma order) test n ok k s).left.c_to_v
  leg_tame schedule prior gamma order test =
      leg_holds (λ (s : State). Tame limit s.c_to_v) (iteration schedule by_place g alpha (On limit) syndrome prior gamma order) test (iteration_tame schedule prior gamma order)

  -- and from its start, where all are 0, leaves them so, whatever posterior it is handed
  pub left_tame : (schedule : Schedule) (prior gamma : List Float) (order : List ℕ) (test : List Float → Bool) (n : ℕ) (ok : Bool) (k : ℕ) (posterior : List Float)
      → Tame limit (run_leg (iteration schedule by_place g alpha (On limit) syndrome prior gamma order) test n ok k (start_leg g prior posterior)).left.c_to_v
  left_tame schedule prior gamma order test n ok k posterior =
      leg_tame schedule prior gamma order test n ok k (start_leg g prior posterior) (start_tame limit good g prior posterior)
