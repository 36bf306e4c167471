-- What a reader may rely on: the contracts of the calls leave no choice, decode repeats the step of the single iteration, and an order of checks that is
-- taken changes nothing.
-- Assumes nothing.
use mathlib.Core.Path.{◌≡◌, sym, ap, ◌∙◌}
use mathlib.Core.Bool.{false}
use mathlib.Core.List.{List, []}
use mathlib.Core.Logic.{◌↔◌}
use Prim.Native.Nat.{ℕ}
use lib.Ieee.{Float}
use Rattle.refusals.specs.declared.Refusal.TheVariants.{OrderExchanged}
use Rattle.refusals.specs.Refusal.{Answer}
use Rattle.std.specs.Prelude.{Ok, Err}
use Rattle.graph_lists.specs.Graph.{Graph, check_entries}
use Rattle.graph_lists.specs.Messages.{by_place}
use Rattle.relay_settings.specs.declared.Clip.{Clip}
use Rattle.relay_settings.specs.declared.Schedule.{Schedule}
use Rattle.relay_settings.specs.declared.Schedule.TheVariants.{Flooding, CheckSerial}
use Rattle.relay_calls.specs.declared.LegRecord.{LegRecord}
use Rattle.relay_orders.specs.Order.{NamesOnce, KeepsOrder, FirstLate, names_fault, exchange_fault, exchanged}
use Rattle.relay_calls.specs.Answers.{DecodeAnswer}
use Rattle.relay_step.specs.Step.{State, iteration}
use Rattle.relay_step.specs.Leg.{start_leg, run_leg, satisfied}
use Rattle.relay_gammas.specs.Gammas.{gamma_of}
use Rattle.relay_calls.specs.Decode.{Shot, iteration_limit, step_of, executed_leg}
use Rattle.relay_calls.specs.Records.{leg_record}
use Rattle.relay_calls.specs.Calls.{StepLists, StepOutcome, step_outcome, step_fault, stepped, iteration_call, DecodeLists, DecodeOutcome, decode_outcome, decode_in_order, decode}
use Rattle.relay_orders.proofs.OrderWords.{exchanged_is}
use Rattle.relay.proofs.AnyOrder.{order_free, flooding_takes, serial_takes}

-- two results that the contract of `iteration` allows for one input coincide: the answer, and each lent list
pub one_step : (edges : ℕ) (prior : List Float) (g : Graph) (schedule : Schedule) (alpha : Float) (clip : Clip) (gamma : List Float) (syndrome order : List ℕ) (l : StepLists)
    (a b : Answer) (p q : StepLists) → step_outcome a p ≡ iteration_call edges prior g schedule alpha clip gamma syndrome order l
    → step_outcome b q ≡ iteration_call edges prior g schedule alpha clip gamma syndrome order l
    → (a ≡ b) × (p.now.c_to_v ≡ q.now.c_to_v) × (p.now.v_to_c ≡ q.now.v_to_c) × (p.now.posterior ≡ q.now.posterior) × (p.bias ≡ q.bias)
one_step edges prior g schedule alpha clip gamma syndrome order l a b p q h k =
    let e = h ∙ sym k in (
      ap (λ (o : StepOutcome). o.answer) e,
      ap (λ (o : StepOutcome). o.left.now.c_to_v) e,
      ap
          (λ (o : StepOutcome). o.left.now.v_to_c) e,
      ap (λ (o : StepOutcome). o.left.now.posterior) e,
      ap (λ (o : StepOutcome). o.left.bias) e,
    )

-- and so do two records that the contract of `leg_record` allows
pub one_record : (leg_state leg_iterations : List ℕ) (leg_weight : List Float) (r : ℕ) (x y : LegRecord) → x ≡ leg_record leg_state leg_iterations leg_weight r
    → y ≡ leg_record leg_state leg_iterations leg_weight r → x ≡ y
one_record leg_state leg_iterations leg_weight r x y h k = h ∙ sym k

-- two results that the contract of `decode_in_order` allows for one input coincide: the answer, and each lent list
pub one_decode_in_order : (edges : ℕ) (x : Shot) (l : DecodeLists) (a b : DecodeAnswer) (p q : DecodeLists) → decode_outcome a p ≡ decode_in_order edges x l → decode_outcome b q ≡ decode_in_order edges x l
    → (a ≡ b) × (p ≡ q)
one_decode_in_order edges x l a b p q h k = let e = h ∙ sym k in (ap (λ (o : DecodeOutcome). o.answer) e, ap (λ (o : DecodeOutcome). o.left) e)

-- and so do two that the contract of `decode` allows
pub one_decode : (edges : ℕ) (x : Shot) (l : DecodeLists) (a b : DecodeAnswer) (p q : DecodeLists) → decode_outcome a p ≡ decode edges x l → decode_outcome b q ≡ decode edges x l → (a ≡ b) × (p ≡ q)
one_decode edges x l a b p q h k = let e = h ∙ sym k in (ap (λ (o : DecodeOutcome). o.answer) e, ap (λ (o : DecodeOutcome). o.left) e)

-- ---- "Decode's definition repeats this step in the order handed in"

-- a leg of a decode repeats the step that a single iteration takes, with the leg's gammas, until the test is passed or the limit reached
pub decode_repeats : (x : Shot) (r : ℕ) (posterior : List Float) (step : State → State)
    → step ≡ iteration x.settings.schedule by_place x.graph x.settings.alpha x.settings.clip x.syndrome x.prior (gamma_of x.settings x.gammas x.graph.mechanisms x.seed r) x.order
    → executed_leg by_place x r posterior ≡ run_leg step (satisfied x.graph x.syndrome) (iteration_limit x.settings r) false 0 (start_leg x.graph x.prior posterior)
unfolding executed_leg step_of
decode_repeats x r posterior step e = rw e

-- and that is the step of the single iteration's call, past its tests
pub iteration_steps : (edges : ℕ) (prior : List Float) (g : Graph) (schedule : Schedule) (alpha : Float) (clip : Clip) (gamma : List Float) (syndrome order : List ℕ) (l : StepLists)
    → step_fault edges prior g alpha clip gamma syndrome order l ≡ Ok tt
    → iteration_call edges prior g schedule alpha clip gamma syndrome order l ≡ stepped edges g (iteration schedule by_place g alpha clip syndrome prior gamma order l.now)
unfolding iteration_call
iteration_steps edges prior g schedule alpha clip gamma syndrome order l h = rw h

-- ---- demand 3 (docs/PROMISES.md): an order that is taken gives the index order's outcome

-- a decode in an order that 23 and 24 take is the decode in index order: the answer, and each lent list
pub any_order : (edges : ℕ) (x : Shot) (l : DecodeLists) → names_fault x.graph.checks x.order ≡ Ok tt → exchange_fault x.settings.schedule x.graph x.order ≡ Ok tt
    → decode_in_order edges x l ≡ decode edges x l
any_order edges x l names free = order_free edges x l names free

-- Flooding takes any that names each check once
pub flooding_orders : (g : Graph) (order : List ℕ) → ((names_fault g.checks order ≡ Ok tt) × (exchange_fault Flooding g order ≡ Ok tt)) ↔ NamesOnce g.checks order
flooding_orders g order = flooding_takes g order

-- CheckSerial any that, besides, keeps index order between checks that share a mechanism
pub serial_orders : (g : Graph) (order : List ℕ)
    → ((names_fault g.checks order ≡ Ok tt) × (exchange_fault CheckSerial g order ≡ Ok tt)) ↔ (NamesOnce g.checks order × KeepsOrder g order)
serial_orders g order = serial_takes g order

-- 24's place: "first check in the order that shares a mechanism with a higher check named before it"
pub exchange_place : (g : Graph) (order : List ℕ) (c : ℕ) → (exchanged (check_entries g) [] order ≡ Err (OrderExchanged c)) ↔ FirstLate g order c
exchange_place g order c = exchanged_is g order c
