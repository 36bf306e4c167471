-- An iteration that counts does to the state what the plain one does. Assumes nothing.
use Prim.Native.Nat.{ℕ, zero, suc}
use mathlib.Core.Path.{◌≡◌, refl, ap, ◌∙◌}
use mathlib.Core.List.{List, [], ◌∷◌, foldl}
use lib.Ieee.{Float, nan}
use lib.ListN.{get_or, set}
use Rattle.numbers.specs.Floats.{◌+ᶠ◌, ◌-ᶠ◌}
use Rattle.numbers.specs.Loops.{turns}
use Rattle.graph_lists.specs.Graph.{Graph, check_entries, var_entries}
use Rattle.graph_lists.specs.Messages.{Access, total}
use Rattle.relay_settings.specs.declared.Clip.{Clip}
use Rattle.relay_settings.specs.declared.Schedule.{Schedule}
use Rattle.relay_settings.specs.declared.Schedule.TheVariants.{Flooding, CheckSerial}
use Rattle.relay_step.specs.Step.{State, state, written, update_check, update_variable, compute_bias, check_pass, variable_pass, flooding_iteration, serial_check, serial_pass, check_serial_iteration, iteration}
use Rattle.relay_stores.specs.Stores.{Counted, counted_check, Stored, store, counted_written, counted_variable, counted_check_pass, counted_variable_pass, counted_flooding, counted_serial_check, counted_serial_pass, counted_serial, counted_iteration}

-- what a variable writes
pub written_messages : (p : Float) (c_to_v : List Float) (ms : List ℕ) (s : Stored) → (counted_written p c_to_v s ms).messages ≡ written p c_to_v s.messages ms
unfolding counted_written written store
written_messages p c_to_v [] s = refl
written_messages p c_to_v (m ∷ ms) s = written_messages p c_to_v ms (store s m (p -ᶠ get_or c_to_v m nan))

-- steps that do the same to the state do the same one after the other
fold_state : (f : Counted → ℕ → Counted) (h : State → ℕ → State) → ((s : Counted) (x : ℕ) → (f s x).now ≡ h s.now x)
    → (xs : List ℕ) (s : Counted) → (foldl f s xs).now ≡ foldl h s.now xs
fold_state f h e [] s = refl
fold_state f h e (x ∷ xs) s = fold_state f h e xs (f s x) ∙ ap (λ t. foldl h t xs) (e s x)

-- so do turns
turns_state : (f : Counted → ℕ → Counted) (h : State → ℕ → State) → ((s : Counted) (x : ℕ) → (f s x).now ≡ h s.now x)
    → (n : ℕ) (s : Counted) → (turns n (λ v t. f t v) s).now ≡ turns n (λ v t. h t v) s.now
turns_state f h e zero s = refl
turns_state f h e (suc n) s = e (turns n (λ v t. f t v) s) n ∙ ap (λ t. h t n) (turns_state f h e n s)

-- a variable
variable_state : (g : Graph) (bias : List Float) (s : Counted) (v : ℕ) → (counted_variable g bias s v).now ≡ update_variable g bias s.now v
unfolding counted_variable update_variable
variable_state g bias s v =
    let t = s.now in
    let p = get_or bias v nan +ᶠ total t.c_to_v (var_entries g v) in
    ap (λ (l : List Float). state t.c_to_v l (set t.posterior v p)) (written_messages p t.c_to_v (var_entries g v) _)

module _ (had : Access) (g : Graph) (alpha : Float) (clip : Clip) (syndrome : List ℕ) where
  -- a check
  check_state : (s : Counted) (c : ℕ) → (counted_check had g alpha clip syndrome s c).now ≡ update_check had g alpha clip syndrome s.now c
  unfolding counted_check update_check
  check_state s c = refl

  -- a check of a serial iteration
  serial_state : (bias : List Float) (s : Counted) (c : ℕ) → (counted_serial_check had g alpha clip syndrome bias s c).now ≡ serial_check had g alpha clip syndrome bias s.now c
  unfolding counted_serial_check serial_check
  serial_state bias s c =
      fold_state _ _ (variable_state g bias) (check_entries g c) (counted_check had g alpha clip syndrome s c)
      ∙ ap (λ t. foldl (update_variable g bias) t (check_entries g c)) (check_state s c)

-- an iteration
pub counted_state : (schedule : Schedule) (had : Access) (g : Graph) (alpha : Float) (clip : Clip) (syndrome : List ℕ) (prior gamma : List Float) (order : List ℕ) (s : Counted)
    → (counted_iteration schedule had g alpha clip syndrome prior gamma order s).now ≡ iteration schedule had g alpha clip syndrome prior gamma order s.now
unfolding counted_flooding counted_check_pass counted_variable_pass flooding_iteration check_pass variable_pass counted_serial counted_serial_pass check_serial_iteration serial_pass
counted_state Flooding had g alpha clip syndrome prior gamma order s =
    let t = counted_check_pass had g alpha clip syndrome order s in
    turns_state _ _ (variable_state g (compute_bias prior gamma t.now.posterior)) g.mechanisms t
    ∙ ap (λ (u : State). variable_pass g (compute_bias prior gamma u.posterior) u g.mechanisms) (fold_state _ _ (check_state had g alpha clip syndrome) order s)
counted_state CheckSerial had g alpha clip syndrome prior gamma order s = fold_state _ _ (serial_state had g alpha clip syndrome (compute_bias prior gamma s.now.posterior)) order s
