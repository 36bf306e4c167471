-- What a reader may rely on of the two layouts of a graph: five lists, and the Rust's six, in which a check's entry carries its message number besides. Each
-- theorem has the sentence above it that it makes good. Assumes nothing.
use Prim.Native.Nat.{ℕ, ◌<◌}
use mathlib.Core.Path.{◌≡◌, refl, sym, ◌∙◌, ap}
use mathlib.Core.Bool.{Bool, true, ◌&&◌}
use mathlib.Core.List.{List}
use mathlib.Core.Logic.{◌↔◌}
use lib.Dec.{eqb}
use lib.Ieee.{Float}
use lib.ListN.{length, get_or}
use borrow.Author.Tests.{eqb-true}
use Rattle.numbers.specs.Loops.{upto}
use Rattle.numbers.proofs.Cases.{and_both}
use Rattle.refusals.specs.declared.Refusal.{Refusal}
use Rattle.refusals.specs.declared.Refusal.TheVariants.{ModelListLength, NoSuchGraph, LentListLength}
use Rattle.refusals.specs.Refusal.{Answer}
use Rattle.std.specs.Prelude.{Ok, Err}
use Rattle.refusals.specs.Tests.{or_else, first_of}
use Rattle.refusals.proofs.Tests.{or_done, unless_done}
use Rattle.graph_lists.specs.Graph.{Graph, graph_of, own_incidence}
use Rattle.graph_lists.specs.Messages.{by_place}
use Rattle.graph_lists.specs.Model.{sizes_good, prior_fault, is_graph, graph_fault}
use Rattle.graph_lists.proofs.GraphTests.{graph_told}
use Rattle.graph_lists.proofs.Sameness.{tells}
use Rattle.graph_lists.proofs.Sound.{Sound, passes_sound}
use Rattle.min_sum.specs.Beliefs.{BeliefsLists, beliefs_outcome, beliefs_rest, beliefs_fault, ran, beliefs_by, beliefs}
use Rattle.relay_settings.specs.declared.Clip.{Clip}
use Rattle.relay_settings.specs.declared.Schedule.{Schedule}
use Rattle.relay_stores.specs.Stores.{stores_each}
use Rattle.relay_stores.proofs.EachIteration.{by_place_full}
use Rattle.relay_calls.specs.Decode.{Shot, Ended}
use Rattle.relay_calls.specs.Calls.{StepLists, step_outcome, step_fits, step_rest, step_fault, stepped, iteration_by, iteration_call, DecodeLists, decode_outcome, decode_rest, decode_fault, after_legs, decode_by, decode_in_order, decode, with_order}
use Rattle.relay_calls.specs.Formula.{stores_in}
use Rattle.relay_calls.proofs.Named.{names_told}
use Rattle.relay_calls.proofs.LegStores.{formula_stands}
use Rattle.relay_orders.specs.Order.{NamesOnce}
use Rattle.relay_orders.proofs.Counts.{names_below}
use Rattle.relay.proofs.Exchange.{Sized}
use Rattle.graph_layouts.specs.Numbered.{Numbered, with_numbers, without_numbers, numbered_graph_of, numbered_incidence, numbered_fits, is_numbered, numbered_fault, numbered_beliefs, numbered_iteration, with_graph, numbered_decode_in_order, numbered_decode, OwnPlaces}
use Rattle.graph_layouts.proofs.Lists.{own}
use Rattle.graph_layouts.proofs.Tests.{is_agrees, tests_agree, back_again, seven_is, length_fault, number_fault}
use Rattle.graph_layouts.proofs.Beliefs.{beliefs_agree}
use Rattle.graph_layouts.proofs.Relay.{iteration_agrees, decode_agrees, own_full}

-- ---- "graphs in the old and new layout stand for the same incidences"

-- converted lists tell the incidences that they told
pub same_incidences : (g : Graph) (c m : ℕ) → numbered_incidence (with_numbers g) c m ≡ own_incidence g c m
unfolding numbered_incidence own_incidence
same_incidences g c m = refl

-- the other way too
pub same_incidences_back : (o : Numbered) (c m : ℕ) → own_incidence (without_numbers o) c m ≡ numbered_incidence o c m
unfolding numbered_incidence own_incidence
same_incidences_back o c m = refl

module _ (checks mechanisms : ℕ) (inc : ℕ → ℕ → Bool) where
  -- the graphs of one incidence are one another's conversions
  pub graphs_convert : (with_numbers (graph_of checks mechanisms inc) ≡ numbered_graph_of checks mechanisms inc)
      × (without_numbers (numbered_graph_of checks mechanisms inc) ≡ graph_of checks mechanisms inc)
  unfolding graph_of numbered_graph_of
  graphs_convert = (refl, refl)

  -- and tell it, within the counts
  pub graphs_tell : (c m : ℕ) → c < checks → m < mechanisms
      → (own_incidence (graph_of checks mechanisms inc) c m ≡ inc c m) × (numbered_incidence (numbered_graph_of checks mechanisms inc) c m ≡ inc c m)
  graphs_tell c m h k =
      let t = tells checks mechanisms inc c m h k in
      (t, ap (λ (o : Numbered). numbered_incidence o c m) (sym graphs_convert.0) ∙ same_incidences (graph_of checks mechanisms inc) c m ∙ t)

-- ---- "that each converts to the other"

-- five lists to six and back are the same, whether they pass 7 or not
pub there_and_back : (g : Graph) → without_numbers (with_numbers g) ≡ g
there_and_back g = refl

-- and pass 7 in the one layout where they do in the other
pub converted_seven : (g : Graph) → is_numbered (with_numbers g) ≡ is_graph g
converted_seven = is_agrees

-- six that pass 7 to five and back are the same
pub back_and_there : (o : Numbered) → is_numbered o ≡ true → with_numbers (without_numbers o) ≡ o
back_and_there = back_again

-- "the old 7 holds exactly when the new one does of the converted graph and each number is its place"
pub old_seven : (o : Numbered) → (is_numbered o ≡ true) ↔ ((is_graph (without_numbers o) ≡ true) × OwnPlaces o)
old_seven = seven_is

-- ---- "beliefs, decode and the single iteration give equal results on both": for every input, the answer and every list, refusals included

-- lists that pass are sound
sound_of : (edges : ℕ) (priors : List Float) (g : Graph) → graph_fault edges priors g ≡ Ok tt → Sound g
sound_of edges priors g h = passes_sound g (graph_told edges priors g h).is_graph_lem

-- 1, 2, 4 and 7, as `check_graph` answers them
pub check_graph_equal : (edges : ℕ) (priors : List Float) (g : Graph) → graph_fault edges priors g ≡ numbered_fault edges priors (with_numbers g)
check_graph_equal edges priors g = sym (tests_agree g edges priors)

module _ (edges : ℕ) (priors : List Float) (g : Graph) (syndrome : List ℕ) (iterations : ℕ) (scale : Float) (serial : Bool) (l : BeliefsLists) where
  -- whatever the tests answer
  beliefs_past : (a : Answer) → beliefs_fault edges priors g syndrome iterations l ≡ a
      → beliefs_by by_place a edges priors g syndrome iterations scale serial l ≡ beliefs_by (own g) a edges priors g syndrome iterations scale serial l
  unfolding beliefs_fault
  beliefs_past (Err r) h = refl
  beliefs_past (Ok _) h = ap (ran edges g) (beliefs_agree g (sound_of edges priors g (or_done _ _ h).0) scale syndrome priors serial iterations)

  -- `beliefs`
  pub beliefs_equal : beliefs edges priors g syndrome iterations scale serial l ≡ numbered_beliefs edges priors (with_numbers g) syndrome iterations scale serial l
  unfolding beliefs numbered_beliefs beliefs_fault
  beliefs_equal =
      beliefs_past (beliefs_fault edges priors g syndrome iterations l) refl
      ∙ ap (λ (a : Answer). beliefs_by (own g) (or_else a (beliefs_rest edges g syndrome iterations l)) edges priors g syndrome iterations scale serial l) (check_graph_equal edges priors g)

module _ (edges : ℕ) (prior : List Float) (g : Graph) (schedule : Schedule) (alpha : Float) (clip : Clip) (gamma : List Float) (syndrome order : List ℕ) (l : StepLists) where
  -- lists that 22 takes have a message for each edge
  messages_fit : step_fits edges g gamma l ≡ true → (length l.now.c_to_v ≡ edges) × (length l.now.v_to_c ≡ edges)
  unfolding step_fits
  messages_fit h =
      let a = and_both (eqb (length gamma) g.mechanisms) _ h in
      let b = and_both (eqb (length l.now.c_to_v) edges) _ a.1 in
      let c = and_both (eqb (length l.now.v_to_c) edges) _ b.1 in
      (eqb-true _ _ b.0, eqb-true _ _ c.0)

  -- what the tests tell of the state and the order, where they refuse nothing
  step_told : step_fault edges prior g alpha clip gamma syndrome order l ≡ Ok tt → Sound g × Sized g l.now × NamesOnce g.checks order
  unfolding step_fault
  step_told h =
      let a = or_done _ _ h in
      let d = or_done _ _ (or_done _ _ (or_done _ _ (or_done _ _ a.1).1).1).1 in
      let f = messages_fit (unless_done _ LentListLength d.0) in
      let t = graph_told edges prior g a.0 in
      let many : length g.check_var ≡ edges = t.long.check_var in (
        sound_of edges prior g a.0,
        record { out = f.0 ∙ sym many; back = f.1 ∙ sym many },
        names_told g.checks order (or_done _ _ d.1).0,
      )

  -- whatever they answer
  iteration_past : (a : Answer) → step_fault edges prior g alpha clip gamma syndrome order l ≡ a
      → iteration_by by_place a edges prior g schedule alpha clip gamma syndrome order l ≡ iteration_by (own g) a edges prior g schedule alpha clip gamma syndrome order l
  iteration_past (Err r) h = refl
  iteration_past (Ok _) h =
      let t = step_told h in
      ap (stepped edges g) (iteration_agrees g t.0 alpha clip syndrome prior gamma order (names_below t.2) l.now t.1 schedule)

  -- `iteration`
  pub iteration_equal : iteration_call edges prior g schedule alpha clip gamma syndrome order l ≡ numbered_iteration edges prior (with_numbers g) schedule alpha clip gamma syndrome order l
  unfolding iteration_call numbered_iteration step_fault
  iteration_equal =
      iteration_past (step_fault edges prior g alpha clip gamma syndrome order l) refl
      ∙ ap (λ (a : Answer). iteration_by (own g) (or_else a (step_rest edges g alpha clip gamma syndrome order l)) edges prior g schedule alpha clip gamma syndrome order l)
      (check_graph_equal edges prior g)

module _ (edges : ℕ) (x : Shot) (l : DecodeLists) where
  -- whatever the tests answer
  decode_past : (a : Answer) → decode_fault edges x l ≡ a → decode_by by_place a edges x l ≡ decode_by (own x.graph) a edges x l
  unfolding decode_fault
  decode_past (Err r) h = refl
  decode_past (Ok _) h =
      let a = or_done _ _ h in
      let d = or_done _ _ (or_done _ _ (or_done _ _ (or_done _ _ a.1).1).1).1 in
      let sound = sound_of edges x.prior x.graph a.0 in
      let names = names_told x.graph.checks x.order (or_done _ _ d.1).0 in
      formula_stands by_place x sound (by_place_full x.graph sound) names edges l
      ∙ ap (λ (e : Ended). after_legs edges x e (stores_in (stores_each x.settings.schedule x.graph) e) l) (decode_agrees x sound names)
      ∙ sym (formula_stands (own x.graph) x sound (own_full x.graph sound) names edges l)

  -- `decode_in_order`
  pub decode_in_order_equal : decode_in_order edges x l ≡ numbered_decode_in_order edges (with_numbers x.graph) x l
  unfolding decode_in_order numbered_decode_in_order decode_fault
  decode_in_order_equal =
      decode_past (decode_fault edges x l) refl
      ∙ ap (λ (a : Answer). decode_by (own x.graph) (or_else a (decode_rest edges x l)) edges x l) (check_graph_equal edges x.prior x.graph)

-- `decode`
pub decode_equal : (edges : ℕ) (x : Shot) (l : DecodeLists) → decode edges x l ≡ numbered_decode edges (with_numbers x.graph) x l
unfolding decode numbered_decode
decode_equal edges x l = decode_in_order_equal edges (with_order x (upto x.graph.checks)) l

-- ---- "For an old graph that passes, the other way round too"

module _ (o : Numbered) (passes : is_numbered o ≡ true) where
  pub numbered_check_equal : (edges : ℕ) (priors : List Float) → numbered_fault edges priors o ≡ graph_fault edges priors (without_numbers o)
  numbered_check_equal edges priors = sym (check_graph_equal edges priors (without_numbers o) ∙ ap (numbered_fault edges priors) (back_again o passes))

  pub numbered_beliefs_equal : (edges : ℕ) (priors : List Float) (syndrome : List ℕ) (iterations : ℕ) (scale : Float) (serial : Bool) (l : BeliefsLists)
      → numbered_beliefs edges priors o syndrome iterations scale serial l ≡ beliefs edges priors (without_numbers o) syndrome iterations scale serial l
  numbered_beliefs_equal edges priors syndrome iterations scale serial l =
      sym (beliefs_equal edges priors (without_numbers o) syndrome iterations scale serial l
      ∙ ap (λ (p : Numbered). numbered_beliefs edges priors p syndrome iterations scale serial l) (back_again o passes))

  pub numbered_iteration_equal : (edges : ℕ) (prior : List Float) (schedule : Schedule) (alpha : Float) (clip : Clip) (gamma : List Float) (syndrome order : List ℕ) (l : StepLists)
      → numbered_iteration edges prior o schedule alpha clip gamma syndrome order l ≡ iteration_call edges prior (without_numbers o) schedule alpha clip gamma syndrome order l
  numbered_iteration_equal edges prior schedule alpha clip gamma syndrome order l =
      sym (iteration_equal edges prior (without_numbers o) schedule alpha clip gamma syndrome order l
      ∙ ap (λ (p : Numbered). numbered_iteration edges prior p schedule alpha clip gamma syndrome order l) (back_again o passes))

  module _ (edges : ℕ) (x : Shot) (l : DecodeLists) where
    pub numbered_decode_in_order_equal : numbered_decode_in_order edges o x l ≡ decode_in_order edges (with_graph x (without_numbers o)) l
    unfolding numbered_decode_in_order
    numbered_decode_in_order_equal =
        sym (decode_in_order_equal edges (with_graph x (without_numbers o)) l ∙ ap (λ (p : Numbered). numbered_decode_in_order edges p x l) (back_again o passes))

    pub numbered_decode_equal : numbered_decode edges o x l ≡ decode edges (with_graph x (without_numbers o)) l
    unfolding numbered_decode numbered_decode_in_order
    numbered_decode_equal =
        sym (decode_equal edges (with_graph x (without_numbers o)) l ∙ ap (λ (p : Numbered). numbered_decode edges p x l) (back_again o passes))

-- ---- "Where the old list is of wrong length or has another number": what each call over six lists answers

-- every call over these lists is refused with r and writes nothing
pub record AllRefuse (r : Refusal) (edges : ℕ) (priors : List Float) (o : Numbered) : Type 0 where
  pub check_graph : numbered_fault edges priors o ≡ Err r
  pub beliefs : (syndrome : List ℕ) (iterations : ℕ) (scale : Float) (serial : Bool) (l : BeliefsLists)
      → numbered_beliefs edges priors o syndrome iterations scale serial l ≡ beliefs_outcome (Err r) l
  pub iteration : (schedule : Schedule) (alpha : Float) (clip : Clip) (gamma : List Float) (syndrome order : List ℕ) (l : StepLists)
      → numbered_iteration edges priors o schedule alpha clip gamma syndrome order l ≡ step_outcome (Err r) l
  pub decode_in_order_lem : (x : Shot) (l : DecodeLists) → x.prior ≡ priors → numbered_decode_in_order edges o x l ≡ decode_outcome (Err r) l
  pub decode : (x : Shot) (l : DecodeLists) → x.prior ≡ priors → numbered_decode edges o x l ≡ decode_outcome (Err r) l

-- they are where the graph's own tests are
all_refuse : (r : Refusal) (edges : ℕ) (priors : List Float) (o : Numbered) → numbered_fault edges priors o ≡ Err r → AllRefuse r edges priors o
unfolding numbered_beliefs numbered_iteration numbered_decode_in_order numbered_decode or_else
all_refuse r edges priors o h =
    record {
      check_graph = h;
      beliefs = λ syndrome iterations scale serial l. rw h;
      iteration = λ schedule alpha clip gamma syndrome order l. rw h;
      decode_in_order_lem = λ x l e. rw (e, h);
      decode = λ x l e. rw (e, h);
    }

module _ (edges : ℕ) (priors : List Float) (o : Numbered) (sizes : sizes_good o.checks o.mechanisms edges ≡ true) where
  -- past 1, a list of numbers of another length than the edges: 2
  pub wrong_length : (length o.check_message ≡ edges → ⊥) → AllRefuse ModelListLength edges priors o
  wrong_length h = all_refuse ModelListLength edges priors o (length_fault edges priors o sizes h)

  -- past 1, 2 and 4, a number that is not its place: 7
  pub another_number : (eqb (length priors) o.mechanisms && numbered_fits edges o) ≡ true → first_of o.mechanisms (prior_fault priors) ≡ Ok tt
      → (i : ℕ) → i < edges → (get_or o.check_message i 0 ≡ i → ⊥) → AllRefuse NoSuchGraph edges priors o
  another_number fit good i l h = all_refuse NoSuchGraph edges priors o (number_fault edges priors o sizes fit good i l h)
