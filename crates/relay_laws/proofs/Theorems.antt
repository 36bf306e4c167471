-- What a reader may rely on of Relay's calls, beside the theorems of `relay`: demand 3 of the call itself, what the leg lists of a decode say, that its answer is the best
-- of the legs that they tell, how many messages it wrote, what a clip makes of messages, and what refusal 30 can come from with one. Assumes nothing.
use Prim.Native.Nat.{ℕ, zero, suc, ◌+◌, ◌*◌, ◌^◌, ◌<◌, ◌≤◌}
use mathlib.Core.Path.{◌≡◌, sym, ap, ◌∙◌, subst}
use mathlib.Core.Bool.{Bool, true, false, cond}
use mathlib.Core.List.{List}
use mathlib.Core.Logic.{◌↔◌, ⊎_elim}
use mathlib.Core.Option.{some}
use native.Mathlib.Omega.{arith}
use lib.Ieee.{Float, nan, inf, binary64, lt, eq, neg, fits}
use lib.ListN.{length, get_or}
use Rattle.graph_lists.specs.Messages.{by_place, Scan}
use Rattle.numbers.specs.Floats.{zero⁺, abs, is_negative}
use Rattle.numbers.specs.Loops.{upto, table}
use Rattle.numbers.proofs.Cases.{less_or_not}
use Rattle.numbers.proofs.Order.{eq_le, lt_not_le}
use Rattle.numbers.proofs.Sizes.{Within}
use Rattle.refusals.specs.declared.Refusal.TheVariants.{OrderExchanged, TooManyStores}
use Rattle.std.specs.Prelude.{Ok, Err}
use Rattle.refusals.proofs.Tests.{or_done}
use Rattle.graph_lists.specs.Graph.{Graph, var_entries}
use Rattle.graph_lists.specs.Model.{is_graph}
use Rattle.graph_lists.proofs.GraphTests.{graph_told}
use Rattle.graph_lists.proofs.Sound.{passes_sound}
use Rattle.relay_settings.specs.declared.Clip.{Clip}
use Rattle.relay_settings.specs.declared.Clip.TheVariants.{Off, On}
use Rattle.relay_settings.specs.declared.Schedule.{Schedule}
use Rattle.relay_settings.specs.declared.Schedule.TheVariants.{CheckSerial}
use Rattle.relay_settings.specs.declared.Settings.{Settings}
use Rattle.relay_settings.specs.Settings.{published, clip_good, alpha_good, settings_fault}
use Rattle.relay_settings.proofs.Told.{settings_told}
use Rattle.relay_orders.specs.Order.{NamesOnce, FirstLate}
use Rattle.relay_check.specs.Check.{scan, weighed, clipped, sent, check_messages}
use Rattle.relay_step.specs.Step.{State, iteration}
use Rattle.relay_step.specs.Leg.{correction_weight}
use Rattle.relay_check.proofs.Clips.{clip_off_sent, clip_off_messages, never_beyond, keeps_sign, keeps_below, within_stays, beyond_is_clip, infinite_is_clip, nan_stays}
use Rattle.relay_step.proofs.Tame.{Tame, iteration_tame}
use Rattle.relay_stores.specs.Stores.{Counted, counted_iteration, stores_each, stores_at, most_iterations, max_stores, stores_fault}
use Rattle.relay_stores.proofs.Counting.{counted_state}
use Rattle.relay_stores.proofs.EachIteration.{by_place_full, iteration_stores}
use Rattle.relay_calls.specs.Answers.{DecodeAnswer}
use Rattle.relay_calls.specs.declared.LegRecord.{LegRecord}
use Rattle.relay_calls.specs.Records.{values_of, record_of, leg_record}
use Rattle.relay_calls.specs.Decode.{Shot, Run, executed_leg, decoded, decode_legs, counted_leg, decode_stores}
use Rattle.relay_calls.specs.Calls.{StepLists, all_finite, step_fault, DecodeLists, DecodeOutcome, decode_outcome, decode_fault, answered, left_by, decode_in_order, decode, with_order, Summary, summary_of}
use Rattle.relay_laws.specs.Legs.{leg_at, record_at}
use Rattle.relay_laws.specs.Orders.{OrderGood, refused_with, OthersPass}
use Rattle.relay_calls.proofs.Named.{names_told}
use Rattle.relay_calls.proofs.LegEntries.{Held}
use Rattle.relay_calls.proofs.LegStores.{decode_writes}
use Rattle.relay_orders.proofs.Counts.{sum_below}
use Rattle.relay_laws.specs.BestOfLegs.{Filed, filed, leg_of, iterations_of, ConvergedAt, Least, BestOfLegs}
use Rattle.relay_laws.proofs.OrderOfCall.{order_taken, exchange_placed}
use Rattle.relay_laws.proofs.LegLists.{values_read, entry_over, held_all, decode_finished, RunBehind, run_behind, answered_legs, answered_total}
use Rattle.relay_laws.proofs.Executed.{holds_all}
use Rattle.relay_laws.proofs.Best.{best_of_run}
use Rattle.relay_laws.proofs.Written.{leg_state_lem, fault_when}
use Rattle.relay_laws.proofs.StepClipped.{step_fine}
use Rattle.relay_laws.proofs.Clipped.{SourceWithin, GammasWithin, gammas_within, executed_tame, settled, bounded_answered, always_answered}

-- ---- demand 3 of the call

-- "Flooding takes any that names each check once; CheckSerial any that, besides, keeps index order between checks that share a mechanism": where all other
-- tests are passed, `decode_in_order` is not refused with 23 or 24 exactly for these orders
pub takes_order : (edges : ℕ) (x : Shot) (l : DecodeLists) → OthersPass edges x l
    → ((refused_with (decode_in_order edges x l).answer ≡ 23 → ⊥) × (refused_with (decode_in_order edges x l).answer ≡ 24 → ⊥)) ↔ OrderGood x
takes_order = order_taken

-- and an order that names each check once is refused with 24 at a check exactly where that is the first that shares a mechanism with a higher one named
-- before it
pub exchange_place_of_call : (edges : ℕ) (x : Shot) (l : DecodeLists) → OthersPass edges x l → NamesOnce x.graph.checks x.order → x.settings.schedule ≡ CheckSerial
    → (c : ℕ) → ((decode_in_order edges x l).answer ≡ Err (OrderExchanged c)) ↔ FirstLate x.graph x.order c
exchange_place_of_call = exchange_placed

-- what the contract of `decode` allows is what that of `decode_in_order` allows, handed the index order: the answer, and each lent list
pub decode_is_index_order : (edges : ℕ) (x : Shot) (l : DecodeLists) (a b : DecodeAnswer) (p q : DecodeLists) → decode_outcome a p ≡ decode edges x l
    → decode_outcome b q ≡ decode_in_order edges (with_order x (upto x.graph.checks)) l → (a ≡ b) × (p ≡ q)
unfolding decode
decode_is_index_order edges x l a b p q h k = let e = h ∙ sym k in (ap (λ (o : DecodeOutcome). o.answer) e, ap (λ (o : DecodeOutcome). o.left) e)

-- ---- leg records

-- "In the lent leg lists these are 2, 1, 0": a record is read back from its values
pub values_back : (r : LegRecord) → record_of (values_of r).leg_state (values_of r).leg_iterations (values_of r).leg_weight ≡ r
values_back = values_read

module _ (edges : ℕ) (x : Shot) (l : DecodeLists) where
  -- what the leg r is read as, after an outcome
  abbrev read_at : DecodeOutcome → ℕ → LegRecord
  read_at o r = leg_record o.left.leg_state o.left.leg_iterations o.left.leg_weight r

  -- of a decode that is answered: each executed leg, and each that was not
  pub record LegsRead (o : DecodeOutcome) : Type 0 where
    pub executed : (r : ℕ) → r < (summary_of o.answer).executed_legs → read_at o r ≡ record_at x r
    pub others : (r : ℕ) → (summary_of o.answer).executed_legs ≤ r → r ≤ x.settings.num_legs → read_at o r ≡ LegRecord.NotExecuted

  -- after a run
  run_read : (run : Run) → decode_legs by_place x ≡ decoded run → LegsRead (decode_outcome (answered run (decode_stores by_place x) run.best_weight) (left_by edges x run l))
  unfolding left_by record_at
  run_read run e =
      let f = decode_finished x run e in
      let n = answered_legs run (decode_stores by_place x) run.best_weight in
      let h : Held x (leg_at x) run.executed_legs run = rw (← f.is) at (held_all x run.executed_legs f.within) in
      record {
        executed =
            λ r k.
            entry_over run.leg_state run.leg_iterations l.leg_state l.leg_iterations run.leg_weight l.leg_weight r (record_at x r)
            (omega (arith, n, f.within, h.states)) (omega (arith, n, f.within, h.iterations)) (omega (arith, n, f.within, h.weights))
            (h.done r (omega (arith, n)));
        others =
            λ r k m.
            entry_over run.leg_state run.leg_iterations l.leg_state l.leg_iterations run.leg_weight l.leg_weight r LegRecord.NotExecuted
            (omega (arith, h.states)) (omega (arith, h.iterations)) (omega (arith, h.weights))
            (h.rest r (omega (arith, n)) (omega arith));
      }

  -- `leg_record` of the leg lists that an answered decode leaves gives back each executed leg's record, and of each leg that was not executed that it was not
  pub leg_records_back : (summary_of (decode_in_order edges x l).answer).refusal ≡ Ok tt → LegsRead (decode_in_order edges x l)
  leg_records_back h = let b = run_behind edges x l h in subst LegsRead (sym b.outcome) (run_read b.run b.ended)

-- ---- the best of the legs

module _ (edges : ℕ) (x : Shot) (l : DecodeLists) where
  -- after a run
  run_best : (run : Run) → decode_fault edges x l ≡ Ok tt → decode_legs by_place x ≡ decoded run → BestOfLegs (filed x (answered run (decode_stores by_place x) run.best_weight) (left_by edges x run l))
  unfolding decode_fault
  run_best run t e =
      let g = or_done _ _ t in
      let model = graph_told edges x.prior x.graph g.0 in
      let settings = settings_told x.settings x.graph.mechanisms x.gammas (or_done _ _ g.1).0 in
      let f = decode_finished x run e in
      let all = holds_all x model.few.mechanisms_few model.priors_many model.priors_good settings.pre_some settings.leg_some run.executed_legs f.within in
      best_of_run edges x l run (leg_at x) (decode_stores by_place x) model.is_graph_lem f.some f.within (rw (← f.is) at all)

  -- "Show over the recorded legs, graph and syndrome, not the run": whatever the contract of `decode_in_order` allows, if it is an answer, it is the best of the legs that it
  -- leaves records of
  pub best_of_legs : (a : DecodeAnswer) (left : DecodeLists) → decode_outcome a left ≡ decode_in_order edges x l → (summary_of a).refusal ≡ Ok tt → BestOfLegs (filed x a left)
  best_of_legs a left e h =
      let b = run_behind edges x l (ap (λ (o : DecodeOutcome). (summary_of o.answer).refusal) (sym e) ∙ h) in
      subst (λ (o : DecodeOutcome). BestOfLegs (filed x o.answer o.left)) (sym b.outcome ∙ sym e) (run_best b.run b.passed b.ended)

-- and so of `decode`
pub decode_best_of_legs : (edges : ℕ) (x : Shot) (l : DecodeLists) (a : DecodeAnswer) (left : DecodeLists) → decode_outcome a left ≡ decode edges x l → (summary_of a).refusal ≡ Ok tt
    → BestOfLegs (filed x a left)
unfolding decode
decode_best_of_legs edges x l a left e h = best_of_legs edges (with_order x (upto x.graph.checks)) l a left e h

-- each executed leg has run, so the total is no less than their count
pub legs_at_most_total : (f : Filed) → BestOfLegs f → f.said.executed_legs ≤ f.said.total_iterations
legs_at_most_total f b = omega (arith, b.total, counts f.said.executed_legs (λ r. iterations_of (leg_of f r)) b.ran)
  where
    counts : (n : ℕ) (i : ℕ → ℕ) → ((k : ℕ) → k < n → 1 ≤ i k) → n ≤ sum_below n i
    counts zero i h = omega arith
    counts (suc n) i h = omega (arith, counts n i (λ k l. h k (omega arith)), h n (omega arith))

-- the weight of an answer is that of its correction: a reader can compute it again from the correction alone
pub weight_again : (f : Filed) → BestOfLegs f → f.said.converged ≡ true → f.said.weight ≡ some (correction_weight f.prior f.correction f.graph.mechanisms)
weight_again f b c =
    let l = b.least c in
    l.answered ∙ ap some ((b.rows_hold l.leg l.weight l.converged).again ∙ ap (λ (bits : List ℕ). correction_weight f.prior bits f.graph.mechanisms) l.row)

-- "and that leg is the earliest of equal ones": of a converged leg of equal weight, by IEEE comparison, the index is no less
pub earliest_of_equals : (f : Filed) (b : Least f) (r : ℕ) (w : Float) → ConvergedAt f r w → eq w b.weight ≡ true → b.leg ≤ r
earliest_of_equals f b r w c e =
    ⊎_elim (λ (h : r < b.leg). absurd (lt_not_le b.weight w (b.earliest r w h c) (eq_le w b.weight e))) (λ (h : b.leg ≤ r). h) (less_or_not r b.leg)

-- so a record tells which leg it is: there is no other
pub least_once : (f : Filed) (b c : Least f) → b.leg ≡ c.leg
least_once f b c = omega (arith, not_after b c, not_after c b)
  where
    not_after : (b c : Least f) → b.leg ≤ c.leg
    not_after b c =
        ⊎_elim
        (λ (h : c.leg < b.leg).
        absurd (lt_not_le b.weight c.weight (b.earliest c.leg c.weight h c.converged) (c.least b.leg b.weight b.converged)))
        (λ (h : b.leg ≤ c.leg). h)
        (less_or_not c.leg b.leg)

-- ---- how many messages were written

-- an iteration that counts its stores leaves the state that the iteration leaves, in any order and over any graph
pub counting_changes_nothing : (schedule : Schedule) (g : Graph) (alpha : Float) (clip : Clip) (syndrome : List ℕ) (prior gamma : List Float) (order : List ℕ) (s : Counted)
    → (counted_iteration schedule by_place g alpha clip syndrome prior gamma order s).now ≡ iteration schedule by_place g alpha clip syndrome prior gamma order s.now
counting_changes_nothing schedule g = counted_state schedule by_place g

-- and what is counted of a leg are the iterations that led to what the leg left
pub counted_leg_is_leg : (x : Shot) (r : ℕ) (posterior : List Float)
    → (counted_leg by_place x r posterior (executed_leg by_place x r posterior).iterations).now ≡ (executed_leg by_place x r posterior).left
counted_leg_is_leg = leg_state_lem

-- "for Flooding, total iterations times twice the edges; for CheckSerial, total iterations times the sum of the edges and all squared mechanism degrees": one iteration,
-- on every graph that passes 7, in every order that names each check once
pub iteration_writes : (schedule : Schedule) (g : Graph) → is_graph g ≡ true → (order : List ℕ) → NamesOnce g.checks order
    → (alpha : Float) (clip : Clip) (syndrome : List ℕ) (prior gamma : List Float) (s : Counted) → length s.now.v_to_c ≡ length g.check_var
    → (counted_iteration schedule by_place g alpha clip syndrome prior gamma order s).stores ≡ s.stores + stores_each schedule g
iteration_writes schedule g is = let sound = passes_sound g is in iteration_stores schedule by_place g sound (by_place_full g sound)

module _ (edges : ℕ) (x : Shot) (l : DecodeLists) (a : DecodeAnswer) (left : DecodeLists) (e : decode_outcome a left ≡ decode_in_order edges x l) (h : (summary_of a).refusal ≡ Ok tt) where
  -- the run behind the answer
  behind : RunBehind edges x l
  behind = run_behind edges x l (ap (λ (o : DecodeOutcome). (summary_of o.answer).refusal) (sym e) ∙ h)

  -- what it answers
  said : summary_of a ≡ summary_of (answered behind.run (decode_stores by_place x) behind.run.best_weight)
  said = ap (λ (o : DecodeOutcome). summary_of o.answer) (e ∙ behind.outcome)

  -- whatever the contract of `decode_in_order` allows, if it is an answer, it says the definition's stores
  pub stores_are : (summary_of a).stores ≡ decode_stores by_place x
  stores_are = ap (λ (s : Summary). s.stores) said ∙ (answered_total behind.run (decode_stores by_place x) behind.run.best_weight).1

  -- which are the formula at its total iterations
  pub stores_by_formula : (summary_of a).stores ≡ stores_at x.settings.schedule x.graph (summary_of a).total_iterations
  unfolding decode_fault
  stores_by_formula =
      let t = or_done _ _ behind.passed in
      let d = or_done _ _ (or_done _ _ (or_done _ _ (or_done _ _ (or_done _ _ t.1).1).1).1).1 in
      let sound = passes_sound x.graph (graph_told edges x.prior x.graph t.0).is_graph_lem in
      let total = ap (λ (s : Summary). s.total_iterations) said ∙ (answered_total behind.run (decode_stores by_place x) behind.run.best_weight).0 in
      stores_are
      ∙ decode_writes by_place x sound (by_place_full x.graph sound) (names_told x.graph.checks x.order d.0) behind.run behind.ended
      ∙ ap (stores_at x.settings.schedule x.graph) (sym total)

-- and so of `decode`
pub decode_stores_by_formula : (edges : ℕ) (x : Shot) (l : DecodeLists) (a : DecodeAnswer) (left : DecodeLists) → decode_outcome a left ≡ decode edges x l → (summary_of a).refusal ≡ Ok tt
    → (summary_of a).stores ≡ stores_at x.settings.schedule x.graph (summary_of a).total_iterations
unfolding decode
decode_stores_by_formula edges x l = stores_by_formula edges (with_order x (upto x.graph.checks)) l

-- "29, exactly when the formula at pre plus legs times leg iterations passes 2^64 - 1"
pub stores_refused : (t : Settings) (g : Graph) → (stores_fault t g ≡ Err TooManyStores) ↔ (max_stores < stores_at t.schedule g (most_iterations t))
stores_refused = fault_when

-- ---- the clip

-- "off is the update without a clip, for every message": what is sent to a variable is (alpha times sign) times minimum
pub off_is_without : (alpha : Float) (s : Scan) (variable : ℕ) (message : Float) → sent alpha Off s variable message ≡ weighed alpha s variable message
off_is_without = clip_off_sent

-- and so is all that a check sends
pub off_sends_without : (alpha : Float) (odd : Bool) (variables : List ℕ) (messages : List Float)
    → check_messages alpha Off odd variables messages
    ≡ table (length messages) (λ i. weighed alpha (scan odd variables messages (length messages)) (get_or variables i 0) (get_or messages i nan))
off_sends_without = clip_off_messages

-- of a clip that passes 9, and every message
module _ (limit : Float) (good : clip_good (On limit) ≡ true) where
  -- "A clipped message is never beyond the clip"
  pub clipped_within : (message : Float) → lt limit (abs (clipped (On limit) message)) ≡ false
  clipped_within = never_beyond limit good

  -- "and has the sign that it had": its sign bit, that of a zero too
  pub clipped_sign : (message : Float) → is_negative (clipped (On limit) message) ≡ is_negative message
  clipped_sign = keeps_sign (On limit) good

  -- and it is below zero where it was
  pub clipped_below : (message : Float) → lt (clipped (On limit) message) zero⁺ ≡ lt message zero⁺
  clipped_below = keeps_below (On limit) good

  -- one that is not beyond the clip stays as it was
  pub clipped_stays : (message : Float) → lt limit (abs message) ≡ false → clipped (On limit) message ≡ message
  clipped_stays = within_stays limit good

  -- "a message beyond the clip becomes the clip with its sign", where "beyond is strictly greater in magnitude"
  pub clipped_beyond : (message : Float) → lt limit (abs message) ≡ true → clipped (On limit) message ≡ cond (is_negative message) (neg limit) limit
  clipped_beyond = beyond_is_clip limit good

  -- an infinite one becomes the clip with its sign
  pub clipped_infinite : (minus : Bool) → clipped (On limit) (inf minus) ≡ cond minus (neg limit) limit
  clipped_infinite = infinite_is_clip limit good

  -- and a NaN stays one
  pub clipped_nan : clipped (On limit) nan ≡ nan
  clipped_nan = nan_stays (On limit)

-- "With a clip, no check message is infinite": where 9 and 10 are passed and alpha is a binary64, one iteration in any order leaves all check messages finite and not
-- beyond the clip, if they were so before it, whatever the other messages and the posterior are
pub iteration_clipped : (schedule : Schedule) (g : Graph) (alpha limit : Float) (syndrome : List ℕ) (prior gamma : List Float) (order : List ℕ) (s : State)
    → clip_good (On limit) ≡ true → alpha_good alpha ≡ true → fits binary64 alpha ≡ true → Tame limit s.c_to_v
    → Tame limit (iteration schedule by_place g alpha (On limit) syndrome prior gamma order s).c_to_v
iteration_clipped schedule g alpha limit syndrome prior gamma order s good able fit =
    iteration_tame alpha limit able fit good g syndrome schedule prior gamma order s

-- of the call: past its tests, all check messages that the step makes are finite, in every order that 23 takes. So with a clip its 30 comes from a posterior or from a
-- message to a check
pub step_check_messages : (edges : ℕ) (prior : List Float) (g : Graph) (schedule : Schedule) (alpha limit : Float) (gamma : List Float) (syndrome order : List ℕ)
    (l : StepLists) → fits binary64 alpha ≡ true → step_fault edges prior g alpha (On limit) gamma syndrome order l ≡ Ok tt
    → all_finite (iteration schedule by_place g alpha (On limit) syndrome prior gamma order l.now).c_to_v ≡ true
step_check_messages = step_fine

-- and so does a leg of a decode, from its start, where they are 0, whatever posterior it is handed
pub leg_clipped : (x : Shot) (limit : Float) → settings_fault x.settings x.graph.mechanisms x.gammas ≡ Ok tt → x.settings.clip ≡ On limit
    → fits binary64 x.settings.alpha ≡ true → (r : ℕ) (posterior : List Float) → Tame limit (executed_leg by_place x r posterior).left.c_to_v
leg_clipped x limit told on fit = executed_tame x limit on fit told

-- ---- what refusal 30 can come from with a clip

-- every gamma that a leg may use is within 1 where gamma0 is, and the ends of a seeded source's interval, or each gamma of an explicit one: so are drawn ones, each of whose
-- operations rounds
pub gammas_by_settings : (x : Shot) → settings_fault x.settings x.graph.mechanisms x.gammas ≡ Ok tt → Within x.settings.gamma0 1
    → SourceWithin x.settings.gamma_source x.settings.gamma_low x.settings.gamma_high x.gammas → GammasWithin x 1
gammas_by_settings = gammas_within

-- as those of the published operating point are
pub published_within : (flat : List Float)
    → Within published.gamma0 1 × SourceWithin published.gamma_source published.gamma_low published.gamma_high flat
unfolding lib.Ieee.of_bits
published_within flat = (omega arith, (omega arith, omega arith))

module _ (edges : ℕ) (x : Shot) (l : DecodeLists) (limit : Float) (on : x.settings.clip ≡ On limit) (fit : fits binary64 x.settings.alpha ≡ true) where
  -- A posterior starts at its prior, which is within 30, and where gammas are within 1 an iteration adds at most 60 + degree * clip to its size. So a decode that passes
  -- its tests, with a clip within c and degrees of at most d, is not refused while 30 + (pre + legs * leg iterations) * (60 + d * c) is below 2^53
  pub clip_keeps_from_30 : decode_fault edges x l ≡ Ok tt → GammasWithin x 1 → (c d : ℕ) → Within limit c
      → ((v : ℕ) → v < x.graph.mechanisms → length (var_entries x.graph v) ≤ d) → 30 + most_iterations x.settings * (60 + d * c) < 2 ^ 53
      → (summary_of (decode_in_order edges x l).answer).refusal ≡ Ok tt
  clip_keeps_from_30 passed = bounded_answered edges x l passed limit on fit

  -- by the limits of models and settings that always is so with a clip of at most 31: so with a clip, 30 comes from a gamma beyond 1 or a clip beyond 31 alone
  pub clip_31_keeps_from_30 : decode_fault edges x l ≡ Ok tt → GammasWithin x 1 → Within limit 31 → (summary_of (decode_in_order edges x l).answer).refusal ≡ Ok tt
  clip_31_keeps_from_30 passed = always_answered edges x l passed limit on fit

  -- and so of `decode`, which passes its tests where the index order does
  pub decode_clip_keeps_from_30 : decode_fault edges (with_order x (upto x.graph.checks)) l ≡ Ok tt → GammasWithin x 1 → (c d : ℕ) → Within limit c
      → ((v : ℕ) → v < x.graph.mechanisms → length (var_entries x.graph v) ≤ d) → 30 + most_iterations x.settings * (60 + d * c) < 2 ^ 53
      → (summary_of (decode edges x l).answer).refusal ≡ Ok tt
  unfolding decode
  decode_clip_keeps_from_30 passed = bounded_answered edges (with_order x (upto x.graph.checks)) l passed limit on fit

  -- with a clip of at most 31
  pub decode_clip_31_keeps_from_30 : decode_fault edges (with_order x (upto x.graph.checks)) l ≡ Ok tt → GammasWithin x 1 → Within limit 31
      → (summary_of (decode edges x l).answer).refusal ≡ Ok tt
  unfolding decode
  decode_clip_31_keeps_from_30 passed = always_answered edges (with_order x (upto x.graph.checks)) l passed limit on fit

  -- which is read off the settings: gamma0 and the source within 1, and the clip within 31
  pub settings_keep_from_30 : decode_fault edges x l ≡ Ok tt → Within limit 31 → Within x.settings.gamma0 1
      → SourceWithin x.settings.gamma_source x.settings.gamma_low x.settings.gamma_high x.gammas
      → (summary_of (decode_in_order edges x l).answer).refusal ≡ Ok tt
  settings_keep_from_30 passed clip first source = always_answered edges x l passed limit on fit (gammas_within x (settled edges x l passed) first source) clip

  -- and so of `decode`
  pub decode_settings_keep_from_30 : decode_fault edges (with_order x (upto x.graph.checks)) l ≡ Ok tt → Within limit 31 → Within x.settings.gamma0 1
      → SourceWithin x.settings.gamma_source x.settings.gamma_low x.settings.gamma_high x.gammas
      → (summary_of (decode edges x l).answer).refusal ≡ Ok tt
  unfolding decode
  decode_settings_keep_from_30 passed clip first source =
      let y = with_order x (upto x.graph.checks) in
      always_answered edges y l passed limit on fit (gammas_within y (settled edges y l passed) first source) clip
