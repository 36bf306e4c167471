-- Leg after leg, as the code has it: what is kept of a run, one leg further, and how the legs end. Assumes nothing.
use mathlib.Core.Path.{◌≡◌, refl, sym, ap, ◌∙◌}
use mathlib.Core.Bool.{Bool, true, false, not, ◌&&◌, ◌||◌, cond, true≢false, false≢true}
use mathlib.Core.List.{List}
use mathlib.Core.Option.{Option, none, some}
use Prim.Native.Nat.{ℕ, zero, suc, ◌+◌, ◌-◌, ◌*◌, ◌<◌, ◌≤◌}
use native.Mathlib.Nat.{sub-zero, sub-eq-zero_of_le, suc-mul}
use native.Mathlib.Numerals.{add-one}
use native.Mathlib.Omega.{arith}
use lib.Dec.{leb}
use lib.Ieee.{Float, lt}
use lib.ListN.{length, get_or, replicate}
use Rattle.refusals.specs.Refusal.{Answer}
use Rattle.std.specs.Prelude.{Ok, Err}
use Rattle.refusals.specs.Tests.{is_done, first_of}
use Rattle.graph_lists.specs.Messages.{by_place, value_fault, posterior_fault}
use Rattle.relay_calls.specs.Answers.{DecodeAnswer}
use Rattle.relay_step.specs.Leg.{Leg, hard_decision, correction_weight}
use Rattle.relay_calls.specs.Decode.{Shot, Run, Ended, decoded, refused, Progress, running, finished, is_none_or, executed_leg, start_run, recorded, leg_judged, after_leg, legs_from, decode_legs, correction_of}
use Rattle.relay_calls.specs.Calls.{answered}
use Rattle.relay_calls.proofs.Calls.{legs_over}
use Rattle.relay_calls.proofs.LegStores.{most_to, most_more, executed_few, fits_within}
use Rattle.relay_stores.specs.Stores.{most_iterations, max_stores}
use Rattle.relay_record.specs.Kept.{Kept, kept, kept_of, corrected, kept_with, kept_after, Blank, answer_of, is_refused, answer_by, Results, results, results_of, started}

-- ---- what is kept of a run

-- the correction that would be answered, one leg further
corrected_is : (run new : Run) (b : Bool) (best : Option Float) (w : Float) (bits : List ℕ) → new.hard_bits ≡ bits
    → new.best_correction ≡ cond (b && is_none_or best w) bits run.best_correction
    → correction_of new (cond (b && is_none_or best w) (some w) best) ≡ corrected b best w bits (correction_of run best)
corrected_is run new false none w bits h k = h
corrected_is run new false (some x) w bits h k = k
corrected_is run new true none w bits h k = k
corrected_is run new true (some x) w bits h k = go (lt w x) k
  where
    go : (q : Bool) → new.best_correction ≡ cond q bits run.best_correction → correction_of new (cond q (some w) (some x)) ≡ cond q bits run.best_correction
    go true e = e
    go false e = e

-- what is kept, one leg further, is what is kept of the run that is one leg further
kept_recorded : (x : Shot) (run : Run) (r : ℕ) (l : Leg) → kept_of (recorded x run r l) ≡ kept_after x (kept_of run) r l
unfolding recorded kept_after kept_with
kept_recorded x run r l =
    let new = recorded x run r l in
    let bits = hard_decision l.left.posterior in
    ap (λ c. kept new.best_weight new.num_converged new.total_iterations new.executed_legs new.leg_state new.leg_iterations new.leg_weight new.rows c new.posterior)
    (corrected_is run new l.converged run.best_weight (correction_weight x.prior bits x.graph.mechanisms) bits refl refl)

-- the result lists among it
abbrev lists_of : Kept → Results
lists_of k = results k.leg_state k.leg_iterations k.leg_weight k.rows k.correction k.posterior

-- what a run that has ended answers
answered_by : (run : Run) (stores : ℕ) (best : Option Float) → answer_by (Ok tt) best run.executed_legs run.total_iterations stores ≡ answered run stores best
answered_by run stores none = refl
answered_by run stores (some w) = refl

-- ---- the legs

-- how the legs end, where they do
abbrev end_of : Answer → Run → Ended
end_of (Err r) run = refused r
end_of (Ok _) run = decoded run

judged_end : (a : Answer) (enough : Bool) (run : Run) → (not (is_done a) || enough) ≡ true → leg_judged a enough run ≡ finished (end_of a run)
judged_end (Err r) enough run h = refl
judged_end (Ok _) true run h = refl
judged_end (Ok _) false run h = absurd (false≢true h)

judged_on : (a : Answer) (enough : Bool) (run : Run) → (not (is_done a) || enough) ≡ false → leg_judged a enough run ≡ running run
judged_on (Err r) enough run h = absurd (true≢false h)
judged_on (Ok _) true run h = absurd (true≢false h)
judged_on (Ok _) false run h = refl

module _ (x : Shot) where
  -- how many legs there are
  abbrev many : ℕ
  many = suc x.settings.num_legs

  -- before the leg r, some run is reached of which this is kept
  pub record Reached (r : ℕ) (k : Kept) : Type 0 where
    pub run : Run
    pub ahead : legs_from by_place x (many - r) (running run) r ≡ decode_legs by_place x
    pub is : kept_of run ≡ k
    pub few : k.total_iterations ≤ most_to x.settings r

  -- and after it, not yet judged
  pub record Turned (r : ℕ) (k : Kept) : Type 0 where
    pub run : Run
    pub ahead : legs_from by_place x (many - suc r) (leg_judged (posterior_fault x.graph k.posterior) (leb x.settings.stop_after_converged k.num_converged) run) (suc r) ≡ decode_legs by_place x
    pub is : kept_of run ≡ k
    pub few : k.total_iterations ≤ most_to x.settings (suc r)

  -- what is answered at the end e, and left, where an iteration writes `each` messages
  abbrev Ends : ℕ → Ended → DecodeAnswer → Kept → Type 0
  Ends each e d k = (d ≡ answer_of each e) × (is_refused d ≡ false → lists_of k ≡ results_of x e)

  module _ (r : ℕ) (k' : Kept) where
    -- the leg r
    pub turned : (k : Kept) → Reached r k → r < many → k' ≡ kept_after x k r (executed_leg by_place x r k.posterior) → Turned r k'
    unfolding legs_from after_leg kept_after kept_with
    turned k s h e =
        let l = executed_leg by_place x r s.run.posterior in
        let new = recorded x s.run r l in
        let same : kept_of new ≡ k' = kept_recorded x s.run r l ∙ ap (λ (z : Kept). kept_after x z r (executed_leg by_place x r z.posterior)) s.is ∙ sym e in
        let left : many - r ≡ suc (many - suc r) = omega arith in
        let whole : legs_from by_place x (many - suc r) (after_leg by_place x r s.run) (suc r) ≡ decode_legs by_place x = ap (λ n. legs_from by_place x n (running s.run) r) (sym left) ∙ s.ahead in
        record {
          run = new;
          ahead =
              ap (λ (z : Kept). legs_from by_place x (many - suc r) (leg_judged (posterior_fault x.graph z.posterior) (leb x.settings.stop_after_converged z.num_converged) new) (suc r)) (sym same)
              ∙ whole;
          is = same;
          few = omega (arith, ap (λ (z : Kept). z.total_iterations) e, s.few, executed_few by_place x r k.posterior, most_more x.settings r);
        }

    module _ (s : Turned r k') (a : Answer) (b : Bool) (e : a ≡ posterior_fault
        x.graph k'.posterior) (d : b ≡ (not (is_done a) || leb x.settings.stop_after_converged k'.num_converged)) where
      -- the verdict, by what the test said
      abbrev verdict : Answer → Progress
      verdict z = leg_judged z (leb x.settings.stop_after_converged k'.num_converged) s.run

      ahead_by : legs_from by_place x (many - suc r) (verdict a) (suc r) ≡ decode_legs by_place x
      ahead_by = ap (λ z. legs_from by_place x (many - suc r) (verdict z) (suc r)) e ∙ s.ahead

      -- on to the next leg
      reached_on : b ≡ false → Reached (suc r) k'
      reached_on h = record { run = s.run; ahead = ap (λ z. legs_from by_place x (many - suc r) z (suc r)) (sym (judged_on a _ s.run (sym d ∙ h))) ∙ ahead_by; is = s.is; few = s.few }

      -- or no leg follows
      ended_at : b ≡ true → end_of a s.run ≡ decode_legs by_place x
      ended_at h =
          sym (legs_over by_place x (many - suc r) (end_of a s.run) (suc r))
          ∙ ap (λ z. legs_from by_place x (many - suc r) z (suc r)) (sym (judged_end a _ s.run (sym d ∙ h)))
          ∙ ahead_by

  -- what an end says of a run of which this is kept
  ends_by : (each : ℕ) (a : Answer) (run : Run) (k : Kept) → kept_of run ≡ k
      → Ends each (end_of a run) (answer_by a k.best k.executed_legs k.total_iterations (k.total_iterations * each)) k
  ends_by each (Err z) run k e = (refl, λ h. absurd (true≢false h))
  ends_by each (Ok _) run k e = (
    ap (λ (z : Kept). answer_by (Ok tt) z.best z.executed_legs z.total_iterations (z.total_iterations * each)) (sym e) ∙ answered_by run _ run.best_weight,
    λ h. ap (λ (z : Kept). lists_of z) (sym e),
  )

  -- the same, of an end that is the legs'
  ends_as : (each : ℕ) (f e : Ended) (d c : DecodeAnswer) (k : Kept) → f ≡ e → c ≡ d → Ends each f d k → Ends each e c k
  ends_as each f e d c k p q h = rw (← p, q) h

  module _ (best : Option Float) (num total : ℕ) (ss is : List ℕ) (ws : List Float) (rows cor : List ℕ) (p : List Float) where
    -- the start
    pub reached_start : results ss is ws rows cor p ≡ started x → Reached 0 (kept none 0 0 0 ss is ws rows cor p)
    unfolding decode_legs start_run
    reached_start e =
        record {
          run = start_run x;
          ahead = rw sub-zero;
          is = ap (λ (z : Results). kept none 0 0 0 z.leg_state z.leg_iterations z.leg_weight z.rows z.correction z.posterior) (sym e);
          few = omega arith;
        }

    -- a turn of the loop
    pub run_on : (r : ℕ) (k : Kept) → Reached r k → r < many → kept best num total (suc r) ss is ws rows cor p ≡ kept_after x k r (executed_leg by_place x r k.posterior)
        → (a : Answer) (b : Bool) → length p ≡ x.graph.mechanisms → a ≡ first_of (length p) (value_fault p)
        → b ≡ (not (is_done a) || leb x.settings.stop_after_converged num) → b ≡ false → Reached (r + 1) (kept best num total (r + 1) ss is ws rows cor p)
    unfolding posterior_fault
    run_on r k s l e a b m f d h = rw add-one (reached_on r _ (turned r _ k s l e) a b (f ∙ ap (λ n. first_of n (value_fault p)) m) d h)

    -- what is written so far fits
    pub run_fits : (r : ℕ) (k : Kept) → Reached r k → r < many → kept best num total (suc r) ss is ws rows cor p ≡ kept_after x k r (executed_leg by_place x r k.posterior)
        → (each : ℕ) → most_iterations x.settings * each ≤ max_stores → total * each ≤ max_stores
    run_fits r k s l e each h = fits_within total x.settings (suc r) each l (turned r _ k s l e).few h

    -- the way out after a leg
    pub run_ended : (each r : ℕ) (k : Kept) → Reached r k → r < many → kept best num total (suc r) ss is ws rows cor p ≡ kept_after x k r (executed_leg by_place x r k.posterior)
        → (a : Answer) (b : Bool) (c : DecodeAnswer) → length p ≡ x.graph.mechanisms → a ≡ first_of (length p) (value_fault p)
        → b ≡ (not (is_done a) || leb x.settings.stop_after_converged num) → b ≡ true → c ≡ answer_by a best (r + 1) total (total * each)
        → (c ≡ answer_of each (decode_legs by_place x)) × (is_refused c ≡ false → results ss is ws rows cor p ≡ results_of x (decode_legs by_place x))
    unfolding posterior_fault
    run_ended each r k s l e a b c m f d h q =
        let t = turned r (kept best num total (suc r) ss is ws rows cor p) k s l e in
        let w = rw add-one at q in
        ends_as each _ _ _ c (kept best num total (suc r) ss is ws rows cor p) (ended_at r _ t a b (f ∙ ap (λ n. first_of n (value_fault p)) m) d h) w (ends_by each a t.run _ t.is)

    -- and after all of them
    pub run_over : (each r n : ℕ) (c : DecodeAnswer) → Reached r (kept best num total r ss is ws rows cor p) → many ≤ r → n ≡ r → c ≡ answer_by (Ok tt) best n total (total * each)
        → (c ≡ answer_of each (decode_legs by_place x)) × (is_refused c ≡ false → results ss is ws rows cor p ≡ results_of x (decode_legs by_place x))
    unfolding legs_from
    run_over each r n c s h m q =
        let none_left : many - r ≡ 0 = sub-eq-zero_of_le h in
        let end : decoded s.run ≡ decode_legs by_place x = ap (λ n. legs_from by_place x n (running s.run) r) (sym none_left) ∙ s.ahead in
        ends_as each _ _ _ c (kept best num total r ss is ws rows cor p) end (q ∙ ap (λ k. answer_by (Ok tt) best k total (total * each)) m) (ends_by each (Ok tt) s.run _ s.is)

-- ---- the rows

-- at the start all are blank
pub blank_start : (n k : ℕ) (rows : List ℕ) → rows ≡ replicate n 0 → Blank k rows
blank_start n k rows e = record { blank = λ i h. rw e (go n i) }
  where
    go : (n i : ℕ) → get_or {A = ℕ} (replicate n 0) i 0 ≡ 0
    go zero i = refl
    go (suc n) zero = refl
    go (suc n) (suc i) = go n i

-- one row further
pub blank_along : (r m : ℕ) (rows : List ℕ) → Blank (r * m + m) rows → Blank ((r + 1) * m) rows
blank_along r m rows z = record { blank = λ i h. z.blank i (rw (add-one, suc-mul) at h) }
