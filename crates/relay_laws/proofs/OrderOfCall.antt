-- 23 and 24 of the call `decode_in_order`: which orders it takes where its other tests are passed, and 24's place. Assumes nothing.
use Prim.Native.Nat.{ℕ}
use mathlib.Core.Path.{◌≡◌, refl, sym, ap, ◌∙◌}
use mathlib.Core.Bool.{Bool, true, false, cond}
use mathlib.Core.List.{List, [], ◌∷◌, ◌++◌}
use mathlib.Core.Logic.{◌↔◌, ◌⊎◌, inl, inr, ⊎_elim}
use mathlib.Core.Option.{Option, none, some}
use native.Mathlib.Omega.{arith}
use lib.Ieee.{Float}
use Rattle.refusals.specs.declared.Refusal.{Refusal}
use Rattle.refusals.specs.declared.Refusal.TheVariants.{OrderNotEachOnce, OrderExchanged}
use Rattle.refusals.specs.Refusal.{Answer}
use Rattle.std.specs.Prelude.{Ok, Err}
use Rattle.refusals.specs.Tests.{unless, or_else}
use Rattle.refusals.proofs.Tests.{or_done, or_second}
use Rattle.graph_lists.specs.Graph.{Graph, check_entries}
use Rattle.graph_lists.specs.Messages.{by_place}
use Rattle.relay_settings.specs.declared.Schedule.{Schedule}
use Rattle.relay_settings.specs.declared.Schedule.TheVariants.{Flooding, CheckSerial}
use Rattle.relay_orders.specs.Order.{NamesOnce, KeepsOrder, FirstLate, names_once, late, exchanged, names_fault, exchange_fault}
use Rattle.relay_orders.proofs.OrderWords.{exchanged_is, none_exchanged_is}
use Rattle.relay_calls.specs.Answers.{DecodeAnswer}
use Rattle.relay_calls.specs.Decode.{Shot, Run, Ended, decoded, refused, decode_legs, decode_stores}
use Rattle.relay_calls.specs.Calls.{DecodeLists, decode_lists_fit, decode_fault, answered, after_legs, after_decode_tests, decode_in_order}
use Rattle.relay_calls.proofs.Named.{names_told, names_taken}
use Rattle.relay_calls.proofs.LastTests.{or_none}
use Rattle.relay_laws.specs.Orders.{OrderGood, refused_with, OthersPass}
use Rattle.relay_laws.proofs.Only.{Ends, with_30, decode_ends}

-- ---- what 23 and 24 answer

-- 23: nothing, or its refusal
data Names : Answer → Type 0 where
  each : Names (Ok tt)
  not_each : Names (Err OrderNotEachOnce)

names_or : (b : Bool) → Names (unless b OrderNotEachOnce)
unfolding unless
names_or true = each
names_or false = not_each

names_is : (checks : ℕ) (order : List ℕ) → Names (names_fault checks order)
unfolding names_fault
names_is checks order = names_or (names_once checks order)

-- 24: nothing, or its refusal of a check
data Exchange : Answer → Type 0 where
  free : Exchange (Ok tt)
  at : (c : ℕ) → Exchange (Err (OrderExchanged c))

exchange_or : (entries : ℕ → List ℕ) (before rest : List ℕ) → Exchange (exchanged entries before rest)
unfolding exchanged
exchange_or entries before [] = free
exchange_or entries before (c ∷ rest) = go (late entries before c) (exchange_or entries (before ++ (c ∷ [])) rest)
  where
    go : (b : Bool) {a : Answer} → Exchange a → Exchange (cond b (Err (OrderExchanged c)) a)
    go true e = at c
    go false e = e

exchange_is : (schedule : Schedule) (g : Graph) (order : List ℕ) → Exchange (exchange_fault schedule g order)
unfolding exchange_fault
exchange_is Flooding g order = free
exchange_is CheckSerial g order = exchange_or (check_entries g) [] order

-- ---- of the call

-- an answer of a run refuses nothing
answered_0 : (run : Run) (stores : ℕ) (w : Option Float) → refused_with (answered run stores w) ≡ 0
answered_0 run stores none = refl
answered_0 run stores (some weight) = refl

module _ (edges : ℕ) (x : Shot) (l : DecodeLists) (others : OthersPass edges x l) where
  -- 23
  abbrev names : Answer
  names = names_fault x.graph.checks x.order

  -- and 24
  abbrev exchange : Answer
  exchange = exchange_fault x.settings.schedule x.graph x.order

  -- what the call answers
  abbrev given : DecodeAnswer
  given = (decode_in_order edges x l).answer

  -- only these two are left of the tests
  tests_are : decode_fault edges x l ≡ or_else names exchange
  unfolding decode_fault decode_lists_fit
  tests_are =
      let p = or_done _ _ others in
      let q = or_done _ _ p.1 in
      let r = or_done _ _ q.1 in
      let s = or_done _ _ r.1 in
      let u = or_done _ _ s.1 in
      let stores = (or_done _ _ (or_done _ _ u.1).1).1 in
      or_second _ _ p.0
      ∙ or_second _ _ q.0
      ∙ or_second _ _ r.0
      ∙ or_second _ _ s.0
      ∙ or_second _ _ u.0
      ∙ ap (λ (a : Answer). or_else names (or_else exchange a)) stores
      ∙ ap (or_else names) (or_none exchange)

  -- a refusal of theirs is the answer
  answer_refused : (r : Refusal) → or_else names exchange ≡ Err r → given ≡ Err r
  unfolding decode_in_order
  answer_refused r e = ap (λ (a : Answer). (after_decode_tests a (after_legs edges x (decode_legs by_place x) (decode_stores by_place x) l) l).answer) (tests_are ∙ e)

  -- past them the legs answer
  answer_passed : or_else names exchange ≡ Ok tt → given ≡ (after_legs edges x (decode_legs by_place x) (decode_stores by_place x) l).answer
  unfolding decode_in_order
  answer_passed e = ap (λ (a : Answer). (after_decode_tests a (after_legs edges x (decode_legs by_place x) (decode_stores by_place x) l) l).answer) (tests_are ∙ e)

  -- which is no refusal, or 30
  legs_answer : (e : Ended) (stores : ℕ) → Ends e → (refused_with (after_legs edges x e stores l).answer ≡ 0) ⊎ (refused_with (after_legs edges x e stores l).answer ≡ 30)
  legs_answer (decoded run) stores w = inl (answered_0 run stores run.best_weight)
  legs_answer (refused r) stores (with_30 _ h) = inr h

  -- so that it is none of another number
  passed_other : (k : ℕ) → or_else names exchange ≡ Ok tt → refused_with given ≡ k → (k ≡ 0 → ⊥) → (k ≡ 30 → ⊥) → ⊥
  passed_other k e h f g =
      let q = ap refused_with (answer_passed e) in
      ⊎_elim (λ z. f (sym h ∙ q ∙ z)) (λ z. g (sym h ∙ q ∙ z)) (legs_answer (decode_legs by_place x) (decode_stores by_place x) (decode_ends x))

  -- a schedule's test, by what it asks
  kept : (s : Schedule) → x.settings.schedule ≡ s → KeepsOrder x.graph x.order ⊎ (s ≡ Flooding) → exchange_fault s x.graph x.order ≡ Ok tt
  unfolding exchange_fault
  kept Flooding e w = refl
  kept CheckSerial e (inl w) = (none_exchanged_is x.graph x.order).1 w
  kept CheckSerial e (inr w) = absurd (let z : ◌≡◌ {A = ℕ} 0 1 = cc in omega arith)

  -- where both are passed the order is good
  passed_good : names ≡ Ok tt → exchange ≡ Ok tt → OrderGood x
  unfolding exchange_fault
  passed_good n e =
      record {
        names = names_told x.graph.checks x.order n;
        keeps = λ (s : x.settings.schedule ≡ CheckSerial). (none_exchanged_is x.graph x.order).0 (ap (λ (t : Schedule). exchange_fault t x.graph x.order) (sym s) ∙ e);
      }

  -- and the other way
  good_passed : (s : Schedule) → x.settings.schedule ≡ s → OrderGood x → or_else names exchange ≡ Ok tt
  good_passed s e good =
      or_second names exchange (names_taken x.graph.checks x.order good.names)
      ∙ ap (λ (t : Schedule). exchange_fault t x.graph x.order) e
      ∙ kept s e (by s e)
    where
      by : (t : Schedule) → x.settings.schedule ≡ t → KeepsOrder x.graph x.order ⊎ (t ≡ Flooding)
      by Flooding q = inr refl
      by CheckSerial q = inl (good.keeps q)

  -- not refused with 23 or 24: both are passed
  not_refused : (a b : Answer) → a ≡ names → b ≡ exchange → Names a → Exchange b → (refused_with given ≡ 23 → ⊥) → (refused_with given ≡ 24 → ⊥) → OrderGood x
  unfolding or_else
  not_refused (Ok _) (Ok _) ea eb each free f g = passed_good (sym ea) (sym eb)
  not_refused (Ok _) (Err r) ea eb each (at c) f g = absurd (g (ap refused_with (answer_refused (OrderExchanged c) (rw (← ea) (sym eb)))))
  not_refused (Err r) b ea eb not_each w f g = absurd (f (ap refused_with (answer_refused OrderNotEachOnce (rw (← ea)))))

  -- demand 3 of the call
  pub order_taken : ((refused_with given ≡ 23 → ⊥) × (refused_with given ≡ 24 → ⊥)) ↔ OrderGood x
  order_taken = (
    λ f. not_refused names exchange refl refl (names_is x.graph.checks x.order) (exchange_is x.settings.schedule x.graph x.order) f.0 f.1,
    λ good.
        let e = good_passed x.settings.schedule refl good in
        (λ h. passed_other 23 e h (λ z. omega arith) (λ z. omega arith), λ h. passed_other 24 e h (λ z. omega arith) (λ z. omega arith)),
  )

  -- 24's place, where each check is named once
  module _ (once : NamesOnce x.graph.checks x.order) (serial : x.settings.schedule ≡ CheckSerial) where
    named : names ≡ Ok tt
    named = names_taken x.graph.checks x.order once

    -- what is left of the tests
    left_24 : or_else names exchange ≡ exchanged (check_entries x.graph) [] x.order
    unfolding exchange_fault
    left_24 = or_second names exchange named ∙ ap (λ (t : Schedule). exchange_fault t x.graph x.order) serial

    placed : (c : ℕ) (b : Answer) → b ≡ exchanged (check_entries x.graph) [] x.order → Exchange b → given ≡ Err (OrderExchanged c)
        → exchanged (check_entries x.graph) [] x.order ≡ Err (OrderExchanged c)
    placed c (Ok _) e free h = absurd (passed_other 24 (left_24 ∙ sym e) (ap refused_with h) (λ z. omega arith) (λ z. omega arith))
    placed c (Err r) e (at d) h =
        let q : given ≡ Err (OrderExchanged d) = answer_refused (OrderExchanged d) (left_24 ∙ sym e) in
        let s : d ≡ c = cc in
        sym e ∙ ap (λ (k : ℕ). Err (OrderExchanged k)) s

    pub exchange_placed : (c : ℕ) → (given ≡ Err (OrderExchanged c)) ↔ FirstLate x.graph x.order c
    exchange_placed c = (
      λ h. (exchanged_is x.graph x.order c).0 (placed c _ refl (exchange_or (check_entries x.graph) [] x.order) h),
      λ w. answer_refused (OrderExchanged c) (left_24 ∙ (exchanged_is x.graph x.order c).1 w),
    )
