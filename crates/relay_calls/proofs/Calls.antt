-- The public calls: what the tests of a single iteration tell where none refuses, that a step reads four of the five graph lists, what the call leaves, and
-- what the leg lists say of a leg. Assumes nothing.
use mathlib.Core.Path.{◌≡◌, refl, sym, ap, ◌∙◌}
use mathlib.Core.Bool.{Bool, true, false, ◌&&◌, true≢false}
use mathlib.Core.List.{List, []}
use Prim.Native.Nat.{ℕ, zero, suc, ◌+◌, ◌<◌, ◌≤◌}
use native.Mathlib.Numerals.{add-one}
use lib.Ieee.{Float, nan}
use lib.ListN.{length, get_or, replicate}
use borrow.Author.Tests.{eqb-true, lt-ltb, le-ltb}
use Rattle.numbers.specs.Floats.{zero⁺, is_finite}
use Rattle.numbers.specs.Loops.{every, part}
use Rattle.numbers.proofs.Cases.{and_both}
use Rattle.refusals.specs.declared.Refusal.{Refusal}
use Rattle.refusals.specs.Refusal.{Answer}
use Rattle.std.specs.Prelude.{Ok, Err, is_err}
use Rattle.refusals.specs.Tests.{unless_refused}
use Rattle.refusals.proofs.Tests.{or_done, unless_done}
use Rattle.graph_lists.specs.Graph.{Graph, graph}
use Rattle.graph_lists.specs.Messages.{Access, by_place}
use Rattle.graph_lists.specs.Model.{graph_fault}
use Rattle.graph_lists.proofs.GraphTests.{graph_told}
use Rattle.graph_lists.specs.Sound.{Keys}
use Rattle.graph_messages.specs.Needs.{Walks, walked, of_variables}
use Rattle.graph_messages.proofs.Parts.{walks_both, entries_along}
use Rattle.graph_messages.proofs.Walks.{graph_walks}
use Rattle.relay_settings.specs.declared.Clip.{Clip}
use Rattle.relay_settings.specs.declared.Schedule.{Schedule}
use Rattle.relay_settings.specs.declared.Schedule.TheVariants.{Flooding, CheckSerial}
use Rattle.relay_calls.specs.declared.LegRecord.{LegRecord}
use Rattle.relay_step.specs.Step.{State, state, update_check, update_variable, check_pass, variable_pass, flooding_iteration, serial_check, serial_pass, check_serial_iteration, iteration}
use Rattle.relay_calls.specs.Decode.{Shot, Run, Ended, Progress, running, finished, after_leg, legs_from}
use Rattle.relay_calls.specs.Records.{record_of, leg_record}
use Rattle.relay_calls.specs.Calls.{syndrome_fault, StepLists, step_lists, StepOutcome, step_outcome, step_fits, finite_at, step_fault, message_finite, mechanism_finite, finite_fault, step_end, stepped, iteration_call}
use Rattle.relay_calls.proofs.Named.{names_entries}

-- ---- what the tests tell

-- a graph that passes has no more checks than it may have
pub checks_few : (edges : ℕ) (prior : List Float) (g : Graph) → Ok tt ≡ graph_fault edges prior g → g.checks ≤ 65536
checks_few edges prior g e = (graph_told edges prior g (sym e)).few.checks_few

-- ---- the end of a step

-- one mechanism, with its part as the code reads it
pub mechanism_is : (mechanisms : ℕ) (vm vo : List ℕ) (c v p : List Float) (k a e : ℕ) (f g b : Bool) → a ≡ get_or vo k 0 → e ≡ get_or vo (k + 1) 0
    → f ≡ is_finite (get_or p k nan) → g ≡ every (length (part a e vm)) (message_finite (state c v []) (part a e vm)) → b ≡ (f && g)
    → b ≡ mechanism_finite (of_variables mechanisms vm vo) (state c v p) k
unfolding mechanism_finite message_finite finite_at
mechanism_is mechanisms vm vo c v p k a e f g b from to h q r = rw (r, h, q, from, to, add-one)

-- nothing is refused: the state stays
pub ended_stays : (a : Answer) (s t : State) → is_err a ≡ false → s ≡ unless_refused a s t
unfolding unless_refused
ended_stays (Ok _) s t h = refl
ended_stays (Err r) s t h = absurd (true≢false h)

-- 30: it is zeroed
pub ended_zeroed : (a : Answer) (s : State) (c v p x y z : List Float) → is_err a ≡ true → x ≡ replicate (length c) zero⁺
    → y ≡ replicate (length v) zero⁺ → z ≡ replicate (length p) zero⁺
    → state x y z ≡ unless_refused a s (state (replicate (length c) zero⁺) (replicate (length v) zero⁺) (replicate (length p) zero⁺))
unfolding unless_refused
ended_zeroed (Ok _) s c v p x y z h e f g = absurd (true≢false (sym h))
ended_zeroed (Err r) s c v p x y z h e f g = rw (e, f, g)

-- all that is left past the tests: s is what the step left, u the state after its end
pub stepped_is : (edges checks mechanisms : ℕ) (cv co vm vo : List ℕ) (s t u : State) (bias : List Float) (a : Answer) → t ≡ s → length t.c_to_v ≡ edges
    → length t.v_to_c ≡ edges → length t.posterior ≡ mechanisms → bias ≡ replicate mechanisms zero⁺ → a ≡ step_end (of_variables (length t.posterior) vm vo) t
    → u ≡ unless_refused a t (state (replicate (length t.c_to_v) zero⁺) (replicate (length t.v_to_c) zero⁺) (replicate (length t.posterior) zero⁺))
    → step_outcome a (step_lists u bias) ≡ stepped edges (walked checks mechanisms cv co vm vo) s
unfolding stepped step_end finite_fault mechanism_finite
stepped_is edges checks mechanisms cv co vm vo s t u bias a e n m k b h l =
    let q : a ≡ step_end (walked checks mechanisms cv co vm vo) t = h ∙ ap (λ x. step_end (of_variables x vm vo) t) k in
    rw (l, b, n, m, k, q, e)

-- ---- a step reads four of the five lists

module _ (checks mechanisms : ℕ) (cv co vc vm vo : List ℕ) (alpha : Float) (clip : Clip) (syndrome : List ℕ) (prior gamma : List Float) (order : List ℕ) where
  -- the step of the whole graph is that of the four
  pub same_step : (schedule : Schedule)
      → iteration schedule by_place (walked checks mechanisms cv co vm vo) alpha clip syndrome prior gamma order
      ≡ iteration schedule by_place (graph checks mechanisms cv co vc vm vo) alpha clip syndrome prior gamma order
  unfolding flooding_iteration check_serial_iteration check_pass variable_pass serial_pass serial_check update_check update_variable
  same_step Flooding = refl
  same_step CheckSerial = refl

  -- and so is its end
  same_end : (edges : ℕ) (s : State) → stepped edges (walked checks mechanisms cv co vm vo) s ≡ stepped edges (graph checks mechanisms cv co vc vm vo) s
  unfolding stepped step_end finite_fault mechanism_finite
  same_end edges s = refl

-- as many checks, mechanisms and edges, however they are counted
stepped_counted : (edges edges' checks checks' mechanisms mechanisms' : ℕ) (cv co vm vo : List ℕ) (schedule : Schedule) (alpha : Float) (clip : Clip) (syndrome : List ℕ)
    (prior gamma : List Float) (order : List ℕ) (s : State) → edges ≡ edges' → checks ≡ checks' → mechanisms ≡ mechanisms'
    → stepped edges (walked checks mechanisms cv co vm vo) (iteration schedule by_place (walked checks mechanisms cv co vm vo) alpha clip syndrome prior gamma order s)
    ≡ stepped edges' (walked checks' mechanisms' cv co vm vo) (iteration schedule by_place (walked checks' mechanisms' cv co vm vo) alpha clip syndrome prior gamma order s)
stepped_counted edges edges' checks checks' mechanisms mechanisms' cv co vm vo schedule alpha clip syndrome prior gamma order s p q r = rw (p, q, r)

-- ---- the single iteration

-- what the tests tell where none refuses
pub record Passed (edges checks mechanisms : ℕ) (cv co vm vo : List ℕ) (prior gamma : List Float) (syndrome order : List ℕ) (l : StepLists) : Type 0 where
  pub edges_many : length cv ≡ edges
  pub checks_many : length syndrome ≡ checks
  pub mechanisms_many : length prior ≡ mechanisms
  pub check_walks : Walks (length syndrome) (length prior) cv co
  pub var_walks : Walks (length prior) (length cv) vm vo
  pub named : Keys (length syndrome) order
  pub gamma_many : length gamma ≡ length prior
  pub bias_many : length l.bias ≡ length prior
  pub posterior_many : length l.now.posterior ≡ length prior
  pub c_many : length l.now.c_to_v ≡ length cv
  pub v_many : length l.now.v_to_c ≡ length cv

module _ (edges checks mechanisms : ℕ) (cv co vc vm vo : List ℕ) (prior : List Float) (alpha : Float) (clip : Clip) (gamma : List Float) (syndrome order : List ℕ) (l : StepLists) where
  -- where none refuses, they tell all that the step asks
  pub passed : Ok tt ≡ step_fault edges prior (graph checks mechanisms cv co vc vm vo) alpha clip gamma syndrome order l
      → Passed edges checks mechanisms cv co vm vo prior gamma syndrome order l
  unfolding step_fault step_fits syndrome_fault
  passed e =
      let t1 = or_done _ _ (sym e) in
      let t2 = or_done _ _ (or_done _ _ t1.1).1 in
      let t3 = or_done _ _ t2.1 in
      let t4 = or_done _ _ t3.1 in
      let t5 = or_done _ _ t4.1 in
      let g = graph_told edges prior (graph checks mechanisms cv co vc vm vo) t1.0 in
      let many = eqb-true (length syndrome) checks (unless_done _ _ (or_done _ _ t3.0).0) in
      let f1 = and_both _ _ (unless_done _ _ t4.0) in
      let f2 = and_both _ _ f1.1 in
      let f3 = and_both _ _ f2.1 in
      let f4 = and_both _ _ f3.1 in
      let w = graph_walks (graph checks mechanisms cv co vc vm vo) g.is_graph_lem in
      record {
        edges_many = g.long.check_var;
        checks_many = many;
        mechanisms_many = g.priors_many;
        check_walks = walks_both _ _ _ _ _ _ (sym many) (sym g.priors_many) w.0;
        var_walks = walks_both _ _ _ _ _ _ (sym g.priors_many) refl w.1;
        named = entries_along _ _ _ (sym many) (names_entries checks order t5.0);
        gamma_many = eqb-true _ _ f1.0 ∙ sym g.priors_many;
        bias_many = eqb-true _ _ f4.1 ∙ sym g.priors_many;
        posterior_many = eqb-true _ _ f4.0 ∙ sym g.priors_many;
        c_many = eqb-true _ _ f2.0 ∙ sym g.long.check_var;
        v_many = eqb-true _ _ f3.0 ∙ sym g.long.check_var;
      }

  module _ (schedule : Schedule) where
    -- a call that is refused
    pub iteration_refused : (r : Refusal) → Err r ≡ step_fault edges prior (graph checks mechanisms cv co vc vm vo) alpha clip gamma syndrome order l
        → step_outcome (Err r) l ≡ iteration_call edges prior (graph checks mechanisms cv co vc vm vo) schedule alpha clip gamma syndrome order l
    unfolding iteration_call
    iteration_refused r e = rw (← e)

    -- one that is not
    pub iteration_ran : (o : StepOutcome) → Ok tt ≡ step_fault edges prior (graph checks mechanisms cv co vc vm vo) alpha clip gamma syndrome order l
        → o ≡ stepped (length cv) (walked (length syndrome) (length prior) cv co vm vo)
        (iteration schedule by_place (walked (length syndrome) (length prior) cv co vm vo) alpha clip syndrome prior gamma order l.now)
        → o ≡ iteration_call edges prior (graph checks mechanisms cv co vc vm vo) schedule alpha clip gamma syndrome order l
    unfolding iteration_call
    iteration_ran o e q =
        let t = passed e in
        rw (← e)
        (q
        ∙ stepped_counted _ _ _ _ _ _ cv co vm vo schedule alpha clip syndrome prior gamma order l.now t.edges_many t.checks_many t.mechanisms_many
        ∙ ap (λ step. stepped edges (walked checks mechanisms cv co vm vo) (step l.now)) (same_step checks mechanisms cv co vc vm vo alpha clip syndrome prior gamma order schedule)
        ∙ same_end checks mechanisms cv co vc vm vo alpha clip syndrome prior gamma order edges _)

-- ---- the legs

-- two shots each of whose legs is recorded and judged alike end alike, however the messages of a check are had in either
pub legs_agree : (h k : Access) (x y : Shot) → ((r : ℕ) (run : Run) → after_leg h x r run ≡ after_leg k y r run)
    → (n : ℕ) (p : Progress) (r : ℕ) → legs_from h x n p r ≡ legs_from k y n p r
unfolding legs_from
legs_agree h k x y e zero (running run) r = refl
legs_agree h k x y e zero (finished f) r = refl
legs_agree h k x y e (suc n) (running run) r = legs_agree h k x y e n (after_leg h x r run) (suc r) ∙ ap (λ p. legs_from k y n p (suc r)) (e r run)
legs_agree h k x y e (suc n) (finished f) r = refl

-- nothing follows the end
pub legs_over : (had : Access) (x : Shot) (n : ℕ) (e : Ended) (r : ℕ) → legs_from had x n (finished e) r ≡ e
unfolding legs_from
legs_over had x zero e r = refl
legs_over had x (suc n) e r = refl

-- ---- a leg's record

module _ (s i : List ℕ) (w : List Float) (r : ℕ) where
  -- outside the states
  pub record_no_state : length s ≤ r → LegRecord.NotExecuted ≡ leg_record s i w r
  unfolding leg_record
  record_no_state h = rw (le-ltb r (length s) h)

  -- outside the iterations
  pub record_no_iterations : r < length s → length i ≤ r → LegRecord.NotExecuted ≡ leg_record s i w r
  unfolding leg_record
  record_no_iterations h k = rw (lt-ltb r (length s) h, le-ltb r (length i) k)

  -- outside the weights
  pub record_no_weight : r < length s → r < length i → length w ≤ r → LegRecord.NotExecuted ≡ leg_record s i w r
  unfolding leg_record
  record_no_weight h k l = rw (lt-ltb r (length s) h, lt-ltb r (length i) k, le-ltb r (length w) l)

  -- inside all three
  pub record_read : (n : ℕ) (x : LegRecord) → r < length s → r < length i → r < length w → n ≡ get_or i r 0 → x ≡ record_of (get_or s r 0) n (get_or w r nan)
      → x ≡ leg_record s i w r
  unfolding leg_record
  record_read n x h k l e q = rw (lt-ltb r (length s) h, lt-ltb r (length i) k, lt-ltb r (length w) l, ← e) q
