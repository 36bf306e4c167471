-- One iteration writes as many messages as the formula says, in any order that names each check once, and it keeps how many there are. Assumes nothing.
use Prim.Native.Nat.{ℕ, zero, suc, ◌+◌, ◌*◌, ◌<◌}
use mathlib.Core.Path.{◌≡◌, refl, sym, ap, ◌∙◌}
use mathlib.Core.List.{List, [], ◌∷◌, foldl}
use native.Mathlib.Omega.{arith}
use lib.Ieee.{Float, nan}
use lib.ListN.{length, get_or}
use Rattle.numbers.specs.Floats.{◌-ᶠ◌}
use Rattle.numbers.specs.Loops.{turns}
use Rattle.numbers.proofs.Loops.{length_part}
use Rattle.graph_lists.specs.Graph.{Graph, check_entries, var_entries}
use Rattle.graph_lists.specs.Messages.{Access, by_place}
use Rattle.graph_lists.proofs.Cuts.{row_end}
use Rattle.graph_lists.proofs.Sound.{Sound}
use Rattle.relay_settings.specs.declared.Clip.{Clip}
use Rattle.relay_settings.specs.declared.Schedule.{Schedule}
use Rattle.relay_settings.specs.declared.Schedule.TheVariants.{Flooding, CheckSerial}
use Rattle.relay_step.specs.Step.{compute_bias}
use Rattle.relay_step.proofs.Lengths.{length_sent, written_length}
use Rattle.relay_orders.specs.Order.{count, NamesOnce}
use Rattle.relay_orders.proofs.All.{All, nil, cons, all_map, all_always, all_places}
use Rattle.relay_orders.proofs.Counts.{sum_below, sum_over, sum_over_lem, over_one, names_below}
use Rattle.relay_stores.specs.Stores.{Counted, counted_check, Stored, store, counted_written, counted_variable, counted_check_pass, counted_variable_pass, counted_flooding, counted_serial_check, counted_serial_pass, counted_serial, counted_iteration, degree, squared_degrees, stores_each}
use Rattle.relay_stores.proofs.Counting.{written_messages}
use Rattle.relay_stores.proofs.Sums.{sum_same, over_add, over_rows, over_order, rows_length, places_many}

-- ---- how messages are had

-- the messages of a check are as many as its entries
pub record Full (had : Access) (g : Graph) : Type 0 where
  pub many : (c : ℕ) (all : List Float) → c < g.checks → length all ≡ length g.check_var → length (had.messages_of g c all) ≡ length (check_entries g c)

-- by place they are
pub by_place_full : (g : Graph) → Sound g → Full by_place g
by_place_full g sound =
    record {
      many = λ c all h e.
          let l = row_end g.checks (length g.check_var) g.check_offset sound.check_parts c h in
          length_part _ _ all (omega (arith, l, e)) ∙ sym (length_part _ _ g.check_var l);
    }

-- ---- steps of any kind

-- how many messages variables send
abbrev many : Counted → ℕ
many s = length s.now.v_to_c

module _ (f : Counted → ℕ → Counted) (keeps : (s : Counted) (x : ℕ) → many (f s x) ≡ many s) where
  -- steps that keep how many there are, one after the other
  fold_keeps : (xs : List ℕ) (s : Counted) → many (foldl f s xs) ≡ many s
  fold_keeps [] s = refl
  fold_keeps (x ∷ xs) s = fold_keeps xs (f s x) ∙ keeps s x

  -- and as turns
  turns_keep : (n : ℕ) (s : Counted) → many (turns n (λ v t. f t v) s) ≡ many s
  turns_keep zero s = refl
  turns_keep (suc n) s = keeps (turns n (λ v t. f t v) s) n ∙ turns_keep n s

  -- what each writes of so many is what all write
  fold_stores : (w : ℕ → ℕ) (n : ℕ) {xs : List ℕ} → All (λ x. (s : Counted) → many s ≡ n → (f s x).stores ≡ s.stores + w x) xs
      → (s : Counted) → many s ≡ n → (foldl f s xs).stores ≡ s.stores + sum_over w xs
  fold_stores w n nil s e = omega arith
  fold_stores w n (cons {x = x} h t) s e = omega (arith, fold_stores w n t (f s x) (keeps s x ∙ e), h s e)

-- what each turn writes is what all write
turns_stores : (f : Counted → ℕ → Counted) (w : ℕ → ℕ) → ((s : Counted) (x : ℕ) → (f s x).stores ≡ s.stores + w x)
    → (n : ℕ) (s : Counted) → (turns n (λ v t. f t v) s).stores ≡ s.stores + sum_below n w
turns_stores f w h zero s = omega arith
turns_stores f w h (suc n) s = omega (arith, turns_stores f w h n s, h (turns n (λ v t. f t v) s) n)

-- ---- one step

-- each entry that a variable writes is one store
written_stores : (p : Float) (c_to_v : List Float) (ms : List ℕ) (s : Stored) → (counted_written p c_to_v s ms).stores ≡ s.stores + length ms
unfolding counted_written store
written_stores p c_to_v [] s = omega arith
written_stores p c_to_v (m ∷ ms) s = written_stores p c_to_v ms (store s m (p -ᶠ get_or c_to_v m nan)) ∙ omega arith

module _ (g : Graph) (bias : List Float) where
  -- a variable keeps how many there are
  variable_keeps : (s : Counted) (v : ℕ) → many (counted_variable g bias s v) ≡ many s
  unfolding counted_variable
  variable_keeps s v = ap length (written_messages _ s.now.c_to_v (var_entries g v) _) ∙ written_length _ s.now.c_to_v s.now.v_to_c (var_entries g v)

  -- and writes as many as its degree
  variable_stores : (s : Counted) (v : ℕ) → (counted_variable g bias s v).stores ≡ s.stores + degree g v
  unfolding counted_variable degree
  variable_stores s v = written_stores _ s.now.c_to_v (var_entries g v) _

module _ (had : Access) (g : Graph) (alpha : Float) (clip : Clip) (syndrome : List ℕ) where
  -- a check keeps how many there are
  check_keeps : (s : Counted) (c : ℕ) → many (counted_check had g alpha clip syndrome s c) ≡ many s
  unfolding counted_check
  check_keeps s c = refl

  -- so does one of a serial iteration
  serial_keeps : (bias : List Float) (s : Counted) (c : ℕ) → many (counted_serial_check had g alpha clip syndrome bias s c) ≡ many s
  unfolding counted_serial_check
  serial_keeps bias s c = fold_keeps _ (variable_keeps g bias) (check_entries g c) (counted_check had g alpha clip syndrome s c) ∙ check_keeps s c

  module _ (full : Full had g) (c : ℕ) (inside : c < g.checks) (s : Counted) (sized : many s ≡ length g.check_var) where
    -- a check writes as many as its entries
    check_stores : (counted_check had g alpha clip syndrome s c).stores ≡ s.stores + length (check_entries g c)
    unfolding counted_check
    check_stores = ap (λ (n : ℕ). s.stores + n) (length_sent alpha clip _ (check_entries g c) (had.messages_of g c s.now.v_to_c) ∙ full.many c s.now.v_to_c inside sized)

    -- one of a serial iteration, for each entry its own message and all of the mechanism
    serial_stores : (bias : List Float) → (counted_serial_check had g alpha clip syndrome bias s c).stores ≡ s.stores + sum_over (λ v. 1 + degree g v) (check_entries g c)
    unfolding counted_serial_check
    serial_stores bias =
        let t = counted_check had g alpha clip syndrome s c in
        let es = check_entries g c in
        omega (
          arith,
          fold_stores (counted_variable g bias) (variable_keeps g bias) (degree g) (many t) (all_always (λ v u e. variable_stores g bias u v) es) t refl,
          check_stores,
          over_add (λ v. 1) (degree g) es,
          over_one es,
        )

-- ---- an iteration

-- it keeps how many messages variables send
pub iteration_keeps : (schedule : Schedule) (had : Access) (g : Graph) (alpha : Float) (clip : Clip) (syndrome : List ℕ) (prior gamma : List Float) (order : List ℕ) (s : Counted)
    → length (counted_iteration schedule had g alpha clip syndrome prior gamma order s).now.v_to_c ≡ length s.now.v_to_c
unfolding counted_flooding counted_check_pass counted_variable_pass counted_serial counted_serial_pass
iteration_keeps Flooding had g alpha clip syndrome prior gamma order s =
    turns_keep _ (variable_keeps g _) g.mechanisms (counted_check_pass had g alpha clip syndrome order s) ∙ fold_keeps _ (check_keeps had g alpha clip syndrome) order s
iteration_keeps CheckSerial had g alpha clip syndrome prior gamma order s = fold_keeps _ (serial_keeps had g alpha clip syndrome _) order s

module _ (g : Graph) (sound : Sound g) where
  -- a mechanism's degree is how often it stands among the check entries
  pub degrees_are : (v : ℕ) → v < g.mechanisms → degree g v ≡ count v g.check_var
  unfolding degree
  degrees_are v h = ap length (sound.messages_are v h) ∙ places_many g.check_var v

  -- the degrees make the edges
  degrees_sum : sum_below g.mechanisms (degree g) ≡ length g.check_var
  unfolding degree
  degrees_sum = rows_length g.mechanisms g.var_offset g.var_message (rw sound.long.var_message sound.var_parts) ∙ sound.long.var_message

  -- the degree of each check entry: all squared degrees
  squares_sum : sum_over (degree g) g.check_var ≡ squared_degrees g
  unfolding squared_degrees
  squares_sum =
      sym (sum_over_lem (degree g) g.mechanisms (all_places g.check_var sound.names.small))
      ∙ sum_same g.mechanisms _ _ (λ v h. ap (λ (n : ℕ). n * degree g v) (sym (degrees_are v h)))

  -- a weight of each check's entries, in any order
  entries_sum : (w : ℕ → ℕ) (order : List ℕ) → NamesOnce g.checks order → sum_over (λ c. sum_over w (check_entries g c)) order ≡ sum_over w g.check_var
  entries_sum w order h = over_order _ h ∙ over_rows w g.checks g.check_offset g.check_var sound.check_parts

-- it writes what the formula says
pub iteration_stores : (schedule : Schedule) (had : Access) (g : Graph) → Sound g → Full had g → (order : List ℕ) → NamesOnce g.checks order
    → (alpha : Float) (clip : Clip) (syndrome : List ℕ) (prior gamma : List Float) (s : Counted) → length s.now.v_to_c ≡ length g.check_var
    → (counted_iteration schedule had g alpha clip syndrome prior gamma order s).stores ≡ s.stores + stores_each schedule g
unfolding counted_flooding counted_check_pass counted_variable_pass counted_serial counted_serial_pass
iteration_stores Flooding had g sound full order names alpha clip syndrome prior gamma s sized =
    let t = counted_check_pass had g alpha clip syndrome order s in
    let bias = compute_bias prior gamma t.now.posterior in
    omega (
      arith,
      turns_stores (counted_variable g bias) (degree g) (variable_stores g bias) g.mechanisms t,
      fold_stores (counted_check had g alpha clip syndrome) (check_keeps had g alpha clip syndrome) (λ c. length (check_entries g c)) (length g.check_var)
          (all_map (λ c h u e. check_stores had g alpha clip syndrome full c h u e) (names_below names)) s sized,
      over_order (λ c. length (check_entries g c)) names,
      rows_length g.checks g.check_offset g.check_var sound.check_parts,
      degrees_sum g sound,
    )
iteration_stores CheckSerial had g sound full order names alpha clip syndrome prior gamma s sized =
    let bias = compute_bias prior gamma s.now.posterior in
    omega (
      arith,
      fold_stores (counted_serial_check had g alpha clip syndrome bias) (serial_keeps had g alpha clip syndrome bias) (λ c. sum_over (λ v. 1 + degree g v) (check_entries g c)) (length g.check_var)
          (all_map (λ c h u e. serial_stores had g alpha clip syndrome full c h u e bias) (names_below names)) s sized,
      entries_sum g sound (λ v. 1 + degree g v) order names,
      over_add (λ v. 1) (degree g) g.check_var,
      over_one g.check_var,
      squares_sum g sound,
    )
