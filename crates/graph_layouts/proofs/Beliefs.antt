-- Min-sum with a check's messages had by numbers that are their own places gives what it gives by place. Assumes nothing.
use Prim.Native.Nat.{ℕ, ◌<◌, ◌/◌}
use mathlib.Core.Path.{◌≡◌, refl, ◌∙◌, ap}
use mathlib.Core.Bool.{Bool, true, false, not, cond}
use mathlib.Core.List.{List, [], ◌∷◌, foldl}
use lib.Dec.{eqb, leb}
use lib.Ieee.{Float, nan}
use lib.ListN.{length, get_or, set, length-set, length-map, length-replicate}
use Rattle.numbers.proofs.Loops.{length_table}
use Rattle.graph_lists.specs.Graph.{Graph, check_entries, var_entries}
use Rattle.graph_lists.specs.Messages.{by_place, from_variables, cleared}
use Rattle.graph_lists.proofs.Sound.{Sound}
use Rattle.min_sum_pass.specs.MinSum.{Messages, messages, sent_to, check_messages, skipped, update_check, damped, damped_messages, update_variable}
use Rattle.min_sum_pass.specs.MinSum.{parallel_check, checks_to, variables_to, parallel_iteration, serial_check, serial_to, serial_iteration, iteration, averaged, weight_of, Belief, belief, chosen_to, start_round, iterated, iterated_in, outer_round_to, outer_round, all_rounds, min_sum_bp}
use Rattle.graph_layouts.proofs.Lists.{own, update_agrees, update_many}
use Rattle.graph_layouts.proofs.Loops.{turns_agree}

-- a check sends as many messages as it has
length_sent : (scale : Float) (odd : Bool) (xs : List Float) → length (check_messages scale odd xs) ≡ length xs
unfolding check_messages sent_to
length_sent scale odd xs = length_table (length xs) _

-- damping keeps the length
length_damped : (sum : Float) (c_to_v l : List Float) (ms : List ℕ) → length (damped_messages sum c_to_v l ms) ≡ length l
unfolding damped_messages
length_damped sum c_to_v l [] = refl
length_damped sum c_to_v l (m ∷ ms) =
    length_damped sum c_to_v (set l m (damped sum (get_or c_to_v m nan) (get_or l m nan))) ms ∙ length-set l m (damped sum (get_or c_to_v m nan) (get_or l m nan))

-- a message for each edge, both ways
record Fits (g : Graph) (s : Messages) : Type 0 where
  out : length s.c_to_v ≡ length g.check_var
  back : length s.v_to_c ≡ length g.check_var

-- an outer round starts so
start_fits : (g : Graph) (ewa : List Float) → Fits g (start_round g ewa).now
unfolding start_round cleared from_variables
start_fits g ewa = record { out = length-replicate _ _; back = simp length-map }

module _ (g : Graph) (sound : Sound g) (scale : Float) (syndrome : List ℕ) (priors : List Float) where
  -- ---- the steps

  -- a check
  check_agrees : (c : ℕ) → c < g.checks → (s : Messages) → Fits g s
      → (update_check by_place g scale syndrome s c ≡ update_check (own g) g scale syndrome s c) × Fits g (update_check by_place g scale syndrome s c)
  unfolding update_check
  check_agrees c h s z =
      let odd = not (eqb (get_or syndrome c 0) 0) in
      let make = check_messages scale odd in (
        ap (λ (x : List Float). messages x s.v_to_c)
            (update_agrees g sound.check_parts c h make (length_sent scale odd) s.v_to_c s.c_to_v z.back z.out),
        record {
          out = update_many g sound.check_parts c h make (length_sent scale odd) s.v_to_c s.c_to_v z.back z.out;
          back = z.back;
        },
      )

  -- a variable keeps the lengths
  variable_fits : (s : Messages) (v : ℕ) → Fits g s → Fits g (update_variable g priors s v)
  unfolding update_variable
  variable_fits s v z = record { out = z.out; back = length_damped _ s.c_to_v s.v_to_c (var_entries g v) ∙ z.back }

  -- so do several
  variables_fit : (vs : List ℕ) (s : Messages) → Fits g s → Fits g (foldl (update_variable g priors) s vs)
  variables_fit [] s z = z
  variables_fit (v ∷ vs) s z = variables_fit vs (update_variable g priors s v) (variable_fits s v z)

  -- one of two that agree with one of two, where a test decides in both
  choice : (b : Bool) (s t u : Messages) → (t ≡ u) × Fits g t → Fits g s → (cond b s t ≡ cond b s u) × Fits g (cond b s t)
  choice true s t u e z = (refl, z)
  choice false s t u e z = e

  -- a check of an iteration that is not serial
  parallel_agrees : (c : ℕ) → c < g.checks → (s : Messages) → Fits g s
      → (parallel_check by_place g scale syndrome s c ≡ parallel_check (own g) g scale syndrome s c) × Fits g (parallel_check by_place g scale syndrome s c)
  unfolding parallel_check
  parallel_agrees c h s z = choice (skipped g c) s _ _ (check_agrees c h s z) z

  -- a check of a serial one
  serial_agrees : (c : ℕ) → c < g.checks → (s : Messages) → Fits g s
      → (serial_check by_place g scale syndrome priors s c ≡ serial_check (own g) g scale syndrome priors s c) × Fits g (serial_check by_place g scale syndrome priors s c)
  unfolding serial_check
  serial_agrees c h s z =
      let e = check_agrees c h s z in
      choice (skipped g c) s _ _
      (ap (λ (t : Messages). foldl (update_variable g priors) t (check_entries g c)) e.0, variables_fit (check_entries g c) (update_check by_place g scale syndrome s c) e.1) z

  -- ---- an iteration

  -- not serial
  parallel_iteration_lem : (s : Messages) → Fits g s
      → (parallel_iteration by_place g scale syndrome priors s ≡ parallel_iteration (own g) g scale syndrome priors s) × Fits g (parallel_iteration by_place g scale syndrome priors s)
  unfolding parallel_iteration checks_to variables_to
  parallel_iteration_lem s z =
      let e = turns_agree (Fits g) g.checks (λ c t. parallel_check by_place g scale syndrome t c) (λ c t. parallel_check (own g) g scale syndrome t c) parallel_agrees s z in (
        ap (λ (t : Messages). variables_to g priors t g.mechanisms) e.0,
        (turns_agree (Fits g) g.mechanisms (λ v t. update_variable g priors t v) (λ v t. update_variable g priors t v) (λ v l t y. (refl, variable_fits t v y)) _ e.1).1,
      )

  -- serial
  serial_iteration_lem : (s : Messages) → Fits g s
      → (serial_iteration by_place g scale syndrome priors s ≡ serial_iteration (own g) g scale syndrome priors s) × Fits g (serial_iteration by_place g scale syndrome priors s)
  unfolding serial_iteration serial_to
  serial_iteration_lem s z =
      turns_agree (Fits g) g.checks (λ c t. serial_check by_place g scale syndrome priors t c) (λ c t. serial_check (own g) g scale syndrome priors t c) serial_agrees s z

  -- either
  iteration_agrees : (serial : Bool) (s : Messages) → Fits g s
      → (iteration serial by_place g scale syndrome priors s ≡ iteration serial (own g) g scale syndrome priors s) × Fits g (iteration serial by_place g scale syndrome priors s)
  iteration_agrees true s z = serial_iteration_lem s z
  iteration_agrees false s z = parallel_iteration_lem s z

  -- ---- the run

  module _ (serial : Bool) where
    -- an iteration with its running posterior
    iterated_agrees : (weight : Float) (b : Belief) → Fits g b.now
        → (iterated by_place g serial scale syndrome priors weight b ≡ iterated (own g) g serial scale syndrome priors weight b)
        × Fits g (iterated by_place g serial scale syndrome priors weight b).now
    unfolding iterated
    iterated_agrees weight b z =
        let e = iteration_agrees serial b.now z in
        (ap (λ (s : Messages). belief s (averaged g priors weight s b.ewa_posterior)) e.0, e.1)

    -- an outer round, which starts anew
    round_agrees : (inner outer : ℕ) (b : Belief) → outer_round by_place g serial scale syndrome priors inner outer b ≡ outer_round (own g) g serial scale syndrome priors inner outer b
    unfolding outer_round outer_round_to iterated_in
    round_agrees inner outer b =
        (turns_agree (λ (u : Belief). Fits g u.now) inner (iterated_in by_place g serial scale syndrome priors outer) (iterated_in (own g) g serial scale syndrome priors outer)
        (λ i l. iterated_agrees (weight_of outer i)) (start_round g b.ewa_posterior) (start_fits g b.ewa_posterior)).0

    -- all of them
    rounds_agree : (n : ℕ) → all_rounds by_place g serial scale syndrome priors n ≡ all_rounds (own g) g serial scale syndrome priors n
    unfolding all_rounds
    rounds_agree n =
        let many : ℕ = cond (leb 6 n) 2 1 in
        (turns_agree (λ (u : Belief). Unit) many (outer_round by_place g serial scale syndrome priors (n / many)) (outer_round (own g) g serial scale syndrome priors (n / many))
        (λ outer l b u. (round_agrees (n / many) outer b, tt)) (start_round g priors) tt).0

    -- the beliefs
    pub beliefs_agree : (n : ℕ) → min_sum_bp by_place g serial scale syndrome priors n ≡ min_sum_bp (own g) g serial scale syndrome priors n
    unfolding min_sum_bp
    beliefs_agree n = ap (λ (b : Belief). chosen_to g priors b g.mechanisms) (rounds_agree n)
