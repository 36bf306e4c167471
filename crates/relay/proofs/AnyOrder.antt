-- Demand 3 (docs/PROMISES.md) over the whole call: an order that 23 and 24 take gives what the index order gives, answer and every lent list. Assumes nothing.
use Prim.Native.Nat.{ℕ}
use mathlib.Core.Path.{◌≡◌, refl, sym, ap, ◌∙◌}
use mathlib.Core.List.{List}
use mathlib.Core.Logic.{◌↔◌}
use Rattle.refusals.specs.Refusal.{Answer}
use Rattle.std.specs.Prelude.{Ok, Err}
use Rattle.refusals.proofs.Tests.{or_done}
use Rattle.graph_lists.specs.Graph.{Graph}
use Rattle.graph_lists.specs.Messages.{by_place}
use Rattle.graph_lists.proofs.Sound.{Sound, passes_sound}
use Rattle.graph_lists.proofs.GraphTests.{graph_told}
use Rattle.relay_settings.specs.declared.Schedule.TheVariants.{Flooding, CheckSerial}
use Rattle.numbers.specs.Loops.{upto}
use Rattle.relay_orders.specs.Order.{NamesOnce, KeepsOrder, names_fault, exchange_fault}
use Rattle.relay_stores.specs.Stores.{stores_each}
use Rattle.relay_stores.proofs.EachIteration.{by_place_full}
use Rattle.relay_calls.specs.Decode.{Shot, Ended, decoded, refused, decode_legs, decode_stores}
use Rattle.relay_calls.specs.Calls.{DecodeLists, decode_lists_fit, decode_fault, left_by, zeroed, after_legs, after_decode_tests, decode_in_order, decode}
use Rattle.relay_orders.proofs.OrderWords.{upto_names, index_taken, none_exchanged_is}
use Rattle.relay_calls.specs.Formula.{stores_in}
use Rattle.relay_calls.proofs.Named.{names_told, names_taken}
use Rattle.relay_calls.proofs.LegStores.{formula_stands}
use Rattle.relay.proofs.SameOutcome.{in_index_order, decode_same}

module _ (edges : ℕ) (x : Shot) (l : DecodeLists) (names : names_fault x.graph.checks x.order ≡ Ok tt) (free : exchange_fault x.settings.schedule x.graph x.order ≡ Ok tt) where
  -- the tests say the same of the index order
  fault_same : decode_fault edges x l ≡ decode_fault edges (in_index_order x) l
  unfolding decode_fault decode_lists_fit
  fault_same = rw (names, free, names_taken x.graph.checks (upto x.graph.checks) (upto_names x.graph.checks), index_taken x.settings.schedule x.graph)

  -- what a run leaves does not depend on the order
  left_same : (stores : ℕ) (e : Ended) → after_legs edges x e stores l ≡ after_legs edges (in_index_order x) e stores l
  unfolding left_by zeroed
  left_same stores (decoded run) = refl
  left_same stores (refused r) = refl

  -- a call whose tests are passed is over a graph
  passed_sound : decode_fault edges x l ≡ Ok tt → Sound x.graph
  unfolding decode_fault
  passed_sound h = passes_sound x.graph (graph_told edges x.prior x.graph (or_done _ _ h).0).is_graph_lem

  -- past the tests: the legs end alike, and what they wrote is by the formula the same
  legs_same : decode_fault edges x l ≡ Ok tt
      → after_legs edges x (decode_legs by_place x) (decode_stores by_place x) l
      ≡ after_legs edges (in_index_order x) (decode_legs by_place (in_index_order x)) (decode_stores by_place (in_index_order x)) l
  legs_same h =
      let sound = passed_sound h in
      let full = by_place_full x.graph sound in
      let each = stores_each x.settings.schedule x.graph in
      let end = decode_legs by_place (in_index_order x) in
      let told = names_told x.graph.checks x.order names in
      formula_stands by_place x sound full told edges l
      ∙ ap (λ e. after_legs edges x e (stores_in each e) l) (decode_same x sound told free)
      ∙ left_same (stores_in each end) end
      ∙ sym (formula_stands by_place (in_index_order x) sound full (upto_names x.graph.checks) edges l)

  -- whatever the tests say
  whole_same : (a : Answer) → decode_fault edges x l ≡ a
      → after_decode_tests a (after_legs edges x (decode_legs by_place x) (decode_stores by_place x) l) l
      ≡ after_decode_tests a (after_legs edges (in_index_order x) (decode_legs by_place (in_index_order x)) (decode_stores by_place (in_index_order x)) l) l
  whole_same (Ok _) h = legs_same h
  whole_same (Err r) h = refl

  -- the call in that order is the call in index order
  pub order_free : decode_in_order edges x l ≡ decode edges x l
  unfolding decode_in_order decode
  order_free =
      whole_same (decode_fault edges x l) refl
      ∙ ap (λ a. after_decode_tests a (after_legs edges (in_index_order x) (decode_legs by_place (in_index_order x)) (decode_stores by_place (in_index_order x)) l) l) fault_same

-- ---- which orders are taken

-- Flooding takes an order just where it names each check once
pub flooding_takes : (g : Graph) (order : List ℕ) → ((names_fault g.checks order ≡ Ok tt) × (exchange_fault Flooding g order ≡ Ok tt)) ↔ NamesOnce g.checks order
unfolding exchange_fault
flooding_takes g order = (λ h. names_told g.checks order h.0, λ h. (names_taken g.checks order h, refl))

-- CheckSerial just where, besides, any two checks that share a mechanism keep their index order
pub serial_takes : (g : Graph) (order : List ℕ)
    → ((names_fault g.checks order ≡ Ok tt) × (exchange_fault CheckSerial g order ≡ Ok tt)) ↔ (NamesOnce g.checks order × KeepsOrder g order)
unfolding exchange_fault
serial_takes g order =
    (λ h. (names_told g.checks order h.0, (none_exchanged_is g order).0 h.1), λ h. (names_taken g.checks order h.0, (none_exchanged_is g order).1 h.1))
