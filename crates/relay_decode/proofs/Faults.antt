-- The tests of a decode, as the code has them: in which order they come, what they tell where none refuses, and what the calls answer. Assumes nothing.
use mathlib.Core.Path.{◌≡◌, refl, sym, ap, ◌∙◌}
use mathlib.Core.Bool.{Bool, true, false, ◌&&◌}
use mathlib.Core.List.{List, []}
use Prim.Native.Nat.{ℕ, suc, ◌*◌, ◌<◌, ◌≤◌}
use native.Mathlib.Omega.{arith}
use lib.Dec.{eqb, leb}
use lib.Ieee.{Float}
use lib.ListN.{length, get_or}
use borrow.Author.Tests.{eqb-true, leb-true}
use Rattle.numbers.proofs.Cases.{and_both}
use Rattle.refusals.specs.declared.Refusal.{Refusal}
use Rattle.refusals.specs.declared.Refusal.TheVariants.{LentListLength}
use Rattle.refusals.specs.Refusal.{Answer}
use Rattle.std.specs.Prelude.{Ok, Err}
use Rattle.refusals.specs.Tests.{is_done, unless, or_else}
use Rattle.refusals.proofs.Tests.{or_first, or_second, or_done, unless_done}
use Rattle.graph_lists.specs.Graph.{Graph, graph}
use Rattle.graph_lists.specs.Model.{graph_fault}
use Rattle.graph_lists.proofs.GraphTests.{graph_told}
use Rattle.graph_lists.specs.Sound.{Offsets, Keys}
use Rattle.graph_messages.specs.Needs.{PerEdge, of_checks}
use Rattle.graph_messages.proofs.Parts.{walks_both, entries_along}
use Rattle.graph_messages.proofs.Walks.{graph_walks}
use Rattle.relay_settings.specs.declared.Schedule.{Schedule}
use Rattle.relay_settings.specs.declared.Schedule.TheVariants.{Flooding, CheckSerial}
use Rattle.relay_settings.specs.declared.Settings.{Settings}
use Rattle.relay_settings.specs.Settings.{settings_fault}
use Rattle.relay_settings.proofs.Told.{settings_told}
use Rattle.numbers.specs.Limits.{max_edges}
use Rattle.numbers.specs.Loops.{upto}
use Rattle.relay_orders.specs.Order.{names_once, names_fault, exchange_fault}
use Rattle.relay_calls.proofs.Named.{names_entries, index_passes}
use Rattle.relay_calls.proofs.LastTests.{or_joined, or_none, stores_last}
use Rattle.relay_calls.proofs.LegStores.{taken_leaves_lem}
use Rattle.relay_calls.specs.Decode.{Shot}
use Rattle.relay_calls.specs.Calls.{syndrome_fault, DecodeLists, DecodeOutcome, decode_outcome, decode_lists_fit, decode_in_order, decode}
use Rattle.relay_calls.specs.Formula.{taken_fault, taken_leaves}
use Rattle.relay_record.specs.Kept.{Reads, PerShot, LegsFit, shot_of, shot_fault}
use Rattle.relay_decode.proofs.WholeGraph.{whole, legs_read_four}
use Rattle.relay_decode.proofs.Shots.{along_order}

-- ---- 22

-- four tests and the rest, however they are joined
fits_joined : (a b c d e : Bool) → ((a && (b && (c && d))) && e) ≡ (a && (b && (c && (d && e))))
fits_joined false b c d e = refl
fits_joined true false c d e = refl
fits_joined true true false d e = refl
fits_joined true true true d e = refl

-- ---- one test after another

module _ (edges : ℕ) (x : Shot) (l : DecodeLists) where
  -- the tests before 29 are those of both calls, then 23 and 24
  fault_joined : taken_fault edges x l
      ≡ or_else (shot_fault edges x l) (or_else (names_fault x.graph.checks x.order) (exchange_fault x.settings.schedule x.graph x.order))
  unfolding taken_fault shot_fault
  fault_joined = sym (or_joined _ _ _ ∙ ap (or_else _) (or_joined _ _ _ ∙ ap (or_else _) (or_joined _ _ _ ∙ ap (or_else _) (or_joined _ _ _))))

  module _ (records work : Bool) (er : records ≡ (leb (suc x.settings.num_legs)
      (length l.leg_state) && (leb (suc x.settings.num_legs) (length
      l.leg_iterations) && (leb (suc x.settings.num_legs) (length l.leg_weight) && leb (suc x.settings.num_legs * x.graph.mechanisms) (length
      l.rows))))) (ew : work ≡ (eqb (length l.correction) x.graph.mechanisms &&
      (eqb (length l.posterior) x.graph.mechanisms && (eqb (length
      l.gamma) x.graph.mechanisms && (eqb (length l.bias)
      x.graph.mechanisms && (eqb (length l.c_to_v) edges && eqb (length l.v_to_c) edges)))))) where
    -- the legs' lists, then the others
    fits_is : (records && work) ≡ decode_lists_fit edges x l
    unfolding decode_lists_fit
    fits_is = rw (er, ew) (fits_joined (leb (suc x.settings.num_legs)
        (length l.leg_state)) (leb (suc x.settings.num_legs) (length l.leg_iterations)) (leb (suc x.settings.num_legs) (length l.leg_weight))
        (leb (suc x.settings.num_legs * x.graph.mechanisms) (length l.rows)) _)

    -- 22
    pub lists_refused : (records && work) ≡ false → Err LentListLength ≡ unless (decode_lists_fit edges x l) LentListLength
    unfolding unless
    lists_refused h = rw (sym fits_is ∙ h)

    -- and none
    pub lists_passed : (records && work) ≡ true → Ok tt ≡ unless (decode_lists_fit edges x l) LentListLength
    unfolding unless
    lists_passed h = rw (sym fits_is ∙ h)

-- ---- 23 and 24, by themselves

-- an order that passes 23
pub names_passed : (checks : ℕ) (order : List ℕ) → Ok tt ≡ names_fault checks order → names_once checks order ≡ true
unfolding names_fault
names_passed checks order e = unless_done _ _ (sym e)

-- ---- what they tell

-- a graph that passes has no more mechanisms than it may have
pub mechanisms_few : (edges : ℕ) (prior : List Float) (g : Graph) → Ok tt ≡ graph_fault edges prior g → g.mechanisms ≤ 65536
mechanisms_few edges prior g e = (graph_told edges prior g (sym e)).few.mechanisms_few

-- settings that pass have no more legs than they may have
pub legs_few : (t : Settings) (m : ℕ) (flat : List Float) → Ok tt ≡ settings_fault t m flat → t.num_legs ≤ 65535
legs_few t m flat e = (settings_told t m flat (sym e)).legs_few

-- all that a decode asks, where the tests refuse nothing
pub record Passed (edges checks mechanisms : ℕ) (t : Settings) (flat : List Float) (syndrome : List ℕ) (prior : List Float) (cv co vm vo order : List ℕ) (l : DecodeLists) : Type 0 where
  pub reads : Reads t flat syndrome prior cv co vm vo order
  pub legs_fit_lem : LegsFit (suc t.num_legs) (length prior) l.leg_state l.leg_iterations l.leg_weight l.rows
  pub work_fits : PerShot (length prior) l.correction l.posterior l.gamma l.bias
  pub messages_fit : PerEdge (length cv) l.c_to_v l.v_to_c
  pub edges_many : length cv ≡ edges
  pub checks_many : length syndrome ≡ checks
  pub mechanisms_many : length prior ≡ mechanisms
  pub checks_few : checks ≤ 65536
  pub edges_few : (length cv ≤ max_edges) × (length vm ≤ max_edges)

module _ (edges checks mechanisms : ℕ) (t : Settings) (flat : List Float) (seed : ℕ) (syndrome : List ℕ) (prior : List Float) (cv co vc vm vo : List ℕ) where
  -- the shot, in any order
  abbrev X : List ℕ → Shot
  X o = whole t flat seed syndrome prior cv co vc vm vo o checks mechanisms

  module _ (order : List ℕ) (l : DecodeLists) where
    -- read off the tests of both calls, with an order that names checks
    pub passed : shot_fault edges (X order) l ≡ Ok tt → Keys checks order → Passed edges checks mechanisms t flat syndrome prior cv co vm vo order l
    unfolding shot_fault decode_lists_fit syndrome_fault
    passed h names =
        let t1 = or_done _ _ h in
        let t2 = or_done _ _ t1.1 in
        let t3 = or_done _ _ t2.1 in
        let t4 = or_done _ _ t3.1 in
        let g = graph_told edges prior (graph checks mechanisms cv co vc vm vo) t1.0 in
        let s = settings_told t mechanisms flat t2.0 in
        let many = eqb-true (length syndrome) checks (unless_done _ _ (or_done _ _ t3.0).0) in
        let w = graph_walks (graph checks mechanisms cv co vc vm vo) g.is_graph_lem in
        let p = g.priors_many in
        let f1 = and_both _ _ (unless_done _ _ t4.1) in
        let f2 = and_both _ _ f1.1 in
        let f3 = and_both _ _ f2.1 in
        let f4 = and_both _ _ f3.1 in
        let f5 = and_both _ _ f4.1 in
        let f6 = and_both _ _ f5.1 in
        let f7 = and_both _ _ f6.1 in
        let f8 = and_both _ _ f7.1 in
        let f9 = and_both _ _ f8.1 in
        let cells : suc t.num_legs * mechanisms ≤ length l.rows = leb-true _ _ f4.0 in
        record {
          reads =
              record {
                check_walks = walks_both _ _ _ _ _ _ (sym many) (sym p) w.0;
                var_walks = walks_both _ _ _ _ _ _ (sym p) refl w.1;
                named = entries_along _ _ _ (sym many) names;
                mechanisms_few = omega (arith, p, g.few.mechanisms_few);
                legs_few = s.legs_few;
                pre_some = s.pre_some;
                pre_few = s.pre_few;
                leg_some = s.leg_some;
                leg_few = s.leg_few;
                sets_many = λ k sets e. let q = s.sets_many k sets e in (q.0, rw p q.1);
              };
          legs_fit_lem =
              record {
                of_states = leb-true _ _ f1.0;
                of_iterations = leb-true _ _ f2.0;
                of_weights = leb-true _ _ f3.0;
                of_rows = rw p cells;
              };
          work_fits =
              record {
                bits = eqb-true _ _ f5.0 ∙ sym p;
                posteriors = eqb-true _ _ f6.0 ∙ sym p;
                gammas = eqb-true _ _ f7.0 ∙ sym p;
                biases = eqb-true _ _ f8.0 ∙ sym p;
              };
          messages_fit =
              record {
                to_variables = eqb-true _ _ f9.0 ∙ sym g.long.check_var;
                to_checks = eqb-true _ _ f9.1 ∙ sym g.long.check_var;
              };
          edges_many = g.long.check_var;
          checks_many = many;
          mechanisms_many = p;
          checks_few = g.few.checks_few;
          edges_few = (omega (arith, g.long.check_var, g.few.edges_few), omega (arith, g.long.var_message, g.few.edges_few));
        }

    -- ---- 23 and 24

    -- what they ask of the graph
    pub order_asks : Ok tt ≡ shot_fault edges (X []) l
        → (checks ≤ 65536) × (Offsets checks (length cv) co × Keys 65536 cv)
    unfolding shot_fault
    order_asks e =
        let g = graph_told edges prior (graph checks mechanisms cv co vc vm vo) (or_done _ _ (sym e)).0 in
        let w = (graph_walks (graph checks mechanisms cv co vc vm vo) g.is_graph_lem).0 in
        (g.few.checks_few, (w.parts, record { small = λ k i. let q : get_or cv k 0 < mechanisms = w.named.small k i in omega (arith, q, g.few.mechanisms_few) }))

    -- a shot that is refused before them
    pub fault_before : (r : Refusal) → Err r ≡ shot_fault edges (X []) l → Err r ≡ taken_fault edges (X order) l
    unfolding shot_fault decode_lists_fit
    fault_before r e = e ∙ sym (fault_joined edges (X order) l ∙ or_first _ _ (ap is_done (sym e)))

    -- and one that is not
    pub fault_after : (r : Answer) → Ok tt ≡ shot_fault edges (X []) l
        → r ≡ or_else (names_fault checks order) (exchange_fault t.schedule (of_checks checks cv co) order) → r ≡ taken_fault edges (X order) l
    unfolding shot_fault decode_lists_fit exchange_fault
    fault_after r e q =
        q ∙ ap (or_else (names_fault checks order)) (exchange_whole t.schedule) ∙ sym (fault_joined edges (X order) l ∙ or_second _ _ (sym e))
      where
        exchange_whole : (schedule : Schedule) → exchange_fault schedule (of_checks checks cv co) order ≡ exchange_fault schedule (graph checks mechanisms cv co vc vm vo) order
        exchange_whole Flooding = refl
        exchange_whole CheckSerial = refl

    -- ---- the calls

    -- refused by a test before 29
    pub in_order_refused : (a : Answer) (r : Refusal) → a ≡ taken_fault edges (X order) l → a ≡ Err r → decode_outcome (Err r) l ≡ decode_in_order edges (X order) l
    unfolding decode_in_order
    in_order_refused a r e d = let w : taken_fault edges (X order) l ≡ Err r = sym e ∙ d in rw (stores_last edges (X order) l ∙ or_first _ _ (ap is_done w) ∙ w)

    -- an order that is taken names checks
    pub in_order_told : (a : Answer) → a ≡ taken_fault edges (X order) l → a ≡ Ok tt → Passed edges checks mechanisms t flat syndrome prior cv co vm vo order l
    unfolding shot_fault
    in_order_told a e d =
        let w = or_done _ _ (sym (fault_joined edges (X order) l) ∙ sym e ∙ d) in
        passed w.0 (names_entries checks order (or_done _ _ w.1).0)

    -- let through: what 29 and the legs leave
    pub in_order_ran : (a : Answer) (o : DecodeOutcome) → a ≡ taken_fault edges (X order) l → a ≡ Ok tt
        → o ≡ taken_leaves (length cv) (shot_of t flat seed syndrome prior cv co vm vo order) l → o ≡ decode_in_order edges (X order) l
    in_order_ran a o e d q =
        let w = in_order_told a e d in
        legs_read_four t flat seed syndrome prior cv co vc vm vo order edges (length cv) checks mechanisms l o w.edges_many w.checks_many w.mechanisms_many q
        ∙ taken_leaves_lem edges (X order) l (sym e ∙ d)

  -- ---- in index order

  module _ (l : DecodeLists) where
    -- the index order passes 23 and 24
    index_fault : shot_fault edges (X []) l ≡ taken_fault edges (X (upto checks)) l
    unfolding shot_fault decode_lists_fit
    index_fault = sym (fault_joined edges (X (upto checks)) l ∙ ap (or_else _) (index_passes t.schedule (graph checks mechanisms cv co vc vm vo)) ∙ or_none _)

    -- refused by a test
    pub index_refused : (a : Answer) (r : Refusal) → a ≡ shot_fault edges (X []) l → a ≡ Err r → decode_outcome (Err r) l ≡ decode edges (X []) l
    unfolding decode
    index_refused a r e d = in_order_refused (upto checks) l a r (e ∙ index_fault) d

    -- what the tests tell
    index_told_at : (a : Answer) → a ≡ shot_fault edges (X []) l → a ≡ Ok tt → Passed edges checks mechanisms t flat syndrome prior cv co vm vo (upto checks) l
    index_told_at a e d = in_order_told (upto checks) l a (e ∙ index_fault) d

    -- in as many checks as there are bytes of the syndrome
    along : (n : ℕ) → n ≡ checks → Passed edges checks mechanisms t flat syndrome prior cv co vm vo (upto checks) l → Passed edges checks mechanisms t flat syndrome prior cv co vm vo (upto n) l
    along n e w = rw e w

    -- what the tests tell, in those terms
    pub index_told : (a : Answer) → a ≡ shot_fault edges (X []) l → a ≡ Ok tt → Passed edges checks mechanisms t flat syndrome prior cv co vm vo (upto (length syndrome)) l
    index_told a e d = let w = index_told_at a e d in along (length syndrome) w.checks_many w

    -- let through: what 29 and the legs leave
    pub index_ran : (a : Answer) (o : DecodeOutcome) → a ≡ shot_fault edges (X []) l → a ≡ Ok tt
        → o ≡ taken_leaves (length cv) (shot_of t flat seed syndrome prior cv co vm vo (upto (length syndrome))) l → o ≡ decode edges (X []) l
    unfolding decode
    index_ran a o e d q =
        let w = index_told_at a e d in
        in_order_ran (upto checks) l a o (e ∙ index_fault) d (along_order t flat seed syndrome prior cv co vm vo _ _ (length cv) l o (ap upto w.checks_many) q)
