-- What can refuse a shot over a model and settings that were accepted: its syndrome, its seed, or a posterior that is not finite. Assumes nothing.
use Prim.Native.Nat.{ℕ, zero, suc, ◌*◌, ◌≤◌}
use mathlib.Core.Path.{◌≡◌, refl, sym, ap, subst, ◌∙◌}
use mathlib.Core.Bool.{Bool, true, false, true≢false}
use mathlib.Core.List.{List, []}
use mathlib.Core.Option.{Option, none, some}
use native.Mathlib.Nat.{mul-le-mul}
use native.Mathlib.Omega.{arith}
use lib.Ieee.{Float}
use lib.ListN.{length, take, replicate, length-replicate}
use lib.Seq.{length-take-le}
use borrow.Author.Tests.{le-leb, eq-eqb}
use Rattle.numbers.specs.Floats.{zero⁺}
use Rattle.numbers.specs.Loops.{upto}
use Rattle.refusals.specs.declared.Refusal.{Refusal}
use Rattle.refusals.specs.declared.Refusal.TheVariants.{SyndromeLength, SyndromeNotBinary, LentListLength, ShotTooLarge, NonFinite}
use Rattle.refusals.specs.Refusal.{Answer}
use Rattle.std.specs.Prelude.{Ok, Err}
use Rattle.refusals.specs.Refusal.{number_of}
use Rattle.refusals.specs.Tests.{is_done, unless, or_else, first_of, unless_refused}
use Rattle.refusals.proofs.Tests.{or_second, or_done, unless_done}
use Rattle.graph_lists.specs.Graph.{Graph, graph_of}
use Rattle.graph_lists.specs.Messages.{by_place, value_fault, posterior_fault}
use Rattle.graph_lists.specs.Model.{built, build_sparse, graph_fault}
use Rattle.graph_lists.proofs.GraphTests.{GraphTold, graph_told}
use Rattle.graph_lists.proofs.Sound.{Sound, passes_sound}
use Rattle.graph.proofs.Theorems.{sparse_checked}
use Rattle.relay_settings.specs.declared.Schedule.{Schedule}
use Rattle.relay_settings.specs.declared.Schedule.TheVariants.{Flooding, CheckSerial}
use Rattle.relay_settings.specs.declared.GammaSource.{GammaSource}
use Rattle.relay_settings.specs.declared.Settings.{Settings}
use Rattle.relay_settings.proofs.Told.{settings_told}
use Rattle.relay_stores.specs.Stores.{degree, squared_degrees, stores_each, most_iterations, max_stores, stores_fault}
use Rattle.relay_stores.proofs.Squares.{squares_few}
use Rattle.relay_settings.specs.Settings.{source_fault, settings_fault, check_settings}
use Rattle.relay_gammas.specs.Gammas.{seed_fault}
use Rattle.relay_calls.specs.Decode.{Shot, Run, Ended, decoded, refused, Progress, running, finished, leg_judged, after_leg, legs_from, decode_legs, decode_stores}
use Rattle.relay_calls.specs.Calls.{byte_fault, syndrome_fault, DecodeLists, decode_lists_fit, decode_fault, answered, after_legs, after_decode_tests, decode_in_order, with_order, decode}
use Rattle.relay_calls.proofs.Named.{index_passes}
use Rattle.relay_calls.proofs.LastTests.{or_joined}
use Rattle.stream_grammar.specs.declared.Counts.{Counts}
use Rattle.stream_grammar.specs.Stream.{Rec, is_of_shot, legs, mechanisms}
use Rattle.stream_grammar.specs.Fields.{counts_read, model_read, settings_read}
use Rattle.stream_table.specs.Table.{lent_numbers, model_room, graph_room, shot_room, within, built_from, model_fault, settings_answer, decoded_from, found, shot_decoded}
use Rattle.stream_table.proofs.Laws.{counts_fit_lem}
use Rattle.stream_session.specs.Text.{settings_of}

-- ---- answers that a shot's line can say

-- whatever an answer refuses with is 20, 21, 27 or 30
abbrev OfShot : Answer → Type 0
OfShot a = (r : Refusal) → a ≡ Err r → is_of_shot (number_of r) ≡ true

-- one test
unless_of_lem : (b : Bool) (x : Refusal) → is_of_shot (number_of x) ≡ true → OfShot (unless b x)
unfolding unless
unless_of_lem true x h r e = absurd (true≢false (ap is_done e))
unless_of_lem false x h r e = let q : x ≡ r = cc in subst (λ (y : Refusal). is_of_shot (number_of y) ≡ true) q h

-- two tests
or_of : (a b : Answer) → OfShot a → OfShot b → OfShot (or_else a b)
unfolding or_else
or_of (Ok _) b f g = g
or_of (Err x) b f g = f

-- and a loop of them
first_of_lem : (n : ℕ) (f : ℕ → Answer) → ((i : ℕ) → OfShot (f i)) → OfShot (first_of n f)
unfolding first_of
first_of_lem zero f h r e = absurd (true≢false (ap is_done e))
first_of_lem (suc n) f h r e = or_of (first_of n f) (f n) (first_of_lem n f h) (h n) r e

-- a syndrome is refused with 20 or 21
syndrome_of : (checks : ℕ) (xs : List ℕ) → OfShot (syndrome_fault checks xs)
unfolding syndrome_fault byte_fault is_of_shot
syndrome_of checks xs = or_of _ _ (unless_of_lem _ SyndromeLength refl) (first_of_lem checks _ (λ i. unless_of_lem _ (SyndromeNotBinary i) refl))

-- a seed with 27
seed_of_lem : (source : GammaSource) (seed : ℕ) → OfShot (seed_fault source seed)
unfolding seed_fault is_of_shot
seed_of_lem source seed = unless_of_lem _ ShotTooLarge refl

-- a posterior with 30
posterior_of : (g : Graph) (xs : List Float) → OfShot (posterior_fault g xs)
unfolding posterior_fault value_fault is_of_shot
posterior_of g xs = first_of_lem g.mechanisms _ (λ i. unless_of_lem _ (NonFinite i) refl)

-- ---- legs

-- whatever a leg is refused with
leg_of_lem : (a : Answer) (enough : Bool) (run : Run) → OfShot a → (r : Refusal) → leg_judged a enough run ≡ finished (refused r) → is_of_shot (number_of r) ≡ true
leg_of_lem (Err x) enough run f r e = let q : x ≡ r = cc in f r (ap Err q)
leg_of_lem (Ok _) true run f r e = let z : ◌≡◌ {A = ℕ} 0 1 = cc in absurd (omega arith)
leg_of_lem (Ok _) false run f r e = let z : ◌≡◌ {A = ℕ} 0 1 = cc in absurd (omega arith)

-- what some legs, and those behind them, are refused with
legs_of_lem : (x : Shot) (n : ℕ) (p : Progress) (k : ℕ) → ((r : Refusal) → p ≡ finished (refused r) → is_of_shot (number_of r) ≡ true)
    → (r : Refusal) → legs_from by_place x n p k ≡ refused r → is_of_shot (number_of r) ≡ true
unfolding legs_from after_leg
legs_of_lem x zero (running run) k f r e = let z : ◌≡◌ {A = ℕ} 0 1 = cc in absurd (omega arith)
legs_of_lem x zero (finished w) k f r e = f r (ap finished e)
legs_of_lem x (suc n) (running run) k f r e = legs_of_lem x n (after_leg by_place x k run) (suc k) (leg_of_lem _ _ _ (posterior_of x.graph _)) r e
legs_of_lem x (suc n) (finished w) k f r e = f r (ap finished e)

-- all legs
decode_of_lem : (x : Shot) (r : Refusal) → decode_legs by_place x ≡ refused r → is_of_shot (number_of r) ≡ true
unfolding decode_legs
decode_of_lem x r e = legs_of_lem x _ (running _) 0 (λ y q. let z : ◌≡◌ {A = ℕ} 0 1 = cc in absurd (omega arith)) r e

-- what is answered past the tests
ran_of_lem : (edges : ℕ) (x : Shot) (w : Ended) (stores : ℕ) (l : DecodeLists) → ((r : Refusal) → w ≡ refused r → is_of_shot (number_of r) ≡ true)
    → (r : Refusal) → (after_legs edges x w stores l).answer ≡ Err r → is_of_shot (number_of r) ≡ true
ran_of_lem edges x (decoded run) stores l f r e = answered_not run.best_weight e
  where
    answered_not : (w : Option Float) → answered run stores w ≡ Err r → is_of_shot (number_of r) ≡ true
    answered_not none q = let z : ◌≡◌ {A = ℕ} 0 1 = cc in absurd (omega arith)
    answered_not (some weight) q = let z : ◌≡◌ {A = ℕ} 0 1 = cc in absurd (omega arith)
ran_of_lem edges x (refused y) stores l f r e = let q : y ≡ r = cc in f r (ap refused q)

-- a decode, whose tests refuse with those alone
tested_of : (edges : ℕ) (x : Shot) (l : DecodeLists) → OfShot (decode_fault edges x l) → (r : Refusal) → (decode_in_order edges x l).answer ≡ Err r → is_of_shot (number_of r) ≡ true
unfolding decode_in_order
tested_of edges x l f r e = by (decode_fault edges x l) f e
  where
    by : (a : Answer) → OfShot a → (after_decode_tests a (after_legs edges x (decode_legs by_place x) (decode_stores by_place x) l) l).answer ≡ Err r → is_of_shot (number_of r) ≡ true
    by (Ok _) g q = ran_of_lem edges x (decode_legs by_place x) (decode_stores by_place x) l (decode_of_lem x) r q
    by (Err y) g q = let h : y ≡ r = cc in g r (ap Err h)

-- ---- the tests of a shot over what was accepted

-- settings with a seeded source are judged alike, whatever the mechanisms
settings_good_lem : (q : Rec) (m : ℕ) → settings_answer q.kind q.payload ≡ Ok tt → settings_fault (settings_of q) m [] ≡ Ok tt
unfolding settings_answer check_settings settings_fault source_fault settings_read
settings_good_lem q m e = (or_done _ _ e).1

-- a graph that was built has the counts of its lists
built_counts : (a : Answer) (inc : ℕ → ℕ → Bool) (g : Graph) → (built a inc g).lists.mechanisms ≡ g.mechanisms
unfolding built unless_refused graph_of
built_counts (Ok _) inc g = refl
built_counts (Err r) inc g = refl

-- of a sparse model
sparse_counts : (edges : ℕ) (priors : List Float) (off dets : List ℕ) (g : Graph) → (build_sparse edges priors off dets g).lists.mechanisms ≡ g.mechanisms
unfolding build_sparse
sparse_counts edges priors off dets g = built_counts _ _ g

-- the front of a list that is filled with one value
lent_length : {A : Type 0} (a : A) (room n : ℕ) → n ≤ room → length (take n (replicate room a)) ≡ n
lent_length a room n h = length-take-le n (replicate room a) (omega (arith, length-replicate room a))

-- the lists lent for a shot fit
lists_fit : (x : Shot) (c : Counts) → x.settings.num_legs ≤ 16 → c.mechanisms ≤ 256 → c.edges ≤ 512 → x.graph.mechanisms ≡ c.mechanisms
    → decode_lists_fit c.edges x (shot_room c (lent_numbers 256 c.mechanisms)) ≡ true
unfolding decode_lists_fit
lists_fit x c l m e same =
    let n = suc x.settings.num_legs in
    let k = x.graph.mechanisms in
    let z : ℕ = 0 in
    let rows : n * k ≤ length (replicate (17 * 256) z) = omega (arith, length-replicate (17 * 256) z, mul-le-mul {n₁ = n} {m₁ = k} {n₂ = 17} {m₂ = 256} (omega arith) (omega arith)) in
    rw (
      le-leb n 17 (omega arith),
      le-leb (n * k) (length (replicate (17 * 256) z)) rows,
      eq-eqb (length (take c.mechanisms (replicate 256 z))) k (lent_length z 256 c.mechanisms m ∙ sym same),
      eq-eqb (length (take c.mechanisms (replicate 256 zero⁺))) k (lent_length zero⁺ 256 c.mechanisms m ∙ sym same),
      eq-eqb (length (take c.edges (replicate 512 zero⁺))) c.edges (lent_length zero⁺ 512 c.edges e),
    )

-- nothing is refused
none_of : (a : Answer) → a ≡ Ok tt → OfShot a
none_of a d r e = absurd (true≢false (ap is_done (sym d ∙ e)))

-- a test that is passed
past : (a b : Answer) → a ≡ Ok tt → OfShot b → OfShot (or_else a b)
past a b d f = subst (λ (x : Answer). OfShot x) (sym (or_second a b d)) f

-- lists that fit pass
fit_done : (b : Bool) → b ≡ true → unless b LentListLength ≡ Ok tt
unfolding unless
fit_done b e = rw e

-- what an iteration writes over so few edges
each_few : (schedule : Schedule) (g : Graph) → Sound g → length g.check_var ≤ 512 → stores_each schedule g ≤ 262656
unfolding squared_degrees degree
each_few Flooding g sound e = omega arith
each_few CheckSerial g sound e =
    let many = sound.long.var_message in
    omega (arith, squares_few g.mechanisms g.var_message g.var_offset (rw many sound.var_parts) 512 (omega (arith, many)) g.mechanisms (omega arith))

-- so no decode within the room is refused with 29
stores_done : (t : Settings) (m : ℕ) (flat : List Float) (g : Graph) → settings_fault t m flat ≡ Ok tt → Sound g → length g.check_var ≤ 512 → t.num_legs ≤ 16
    → stores_fault t g ≡ Ok tt
unfolding stores_fault unless
stores_done t m flat g s sound e l =
    let told = settings_told t m flat s in
    let relayed = mul-le-mul {n₁ = t.num_legs} {m₁ = t.leg_iterations} {n₂ = 16} {m₂ = 65535} l told.leg_few in
    let most : most_iterations t ≤ 1114095 = omega (arith, relayed, told.pre_few) in
    let all = mul-le-mul {n₁ = most_iterations t} {m₁ = stores_each t.schedule g} {n₂ = 1114095} {m₂ = 262656} most (each_few t.schedule g sound e) in
    rw (le-leb (most_iterations t * stores_each t.schedule g) max_stores (omega (arith, all)))

module _ (edges : ℕ) (x : Shot) (l : DecodeLists) (few : edges ≤ 512) (legs_few : x.settings.num_legs ≤ 16) (g : graph_fault edges x.prior x.graph ≡ Ok tt) (s : settings_fault x.settings x.graph.mechanisms x.gammas ≡ Ok tt) where
  -- a good graph, good settings, lists that fit and the index order leave the syndrome
  tests_of : decode_lists_fit edges x l ≡ true → OfShot (decode_fault edges (with_order x (upto x.graph.checks)) l)
  unfolding decode_fault decode_lists_fit
  tests_of fits =
      past _ _ g
      (past _ _ s
      (or_of _ _ (syndrome_of x.graph.checks x.syndrome)
      (or_of _ _ (seed_of_lem x.settings.gamma_source x.seed)
      (past _ _ (fit_done _ fits)
      (none_of _
      (sym (or_joined _ _ _)
      ∙ or_second _ _ (index_passes x.settings.schedule x.graph)
      ∙ stores_done x.settings x.graph.mechanisms x.gammas x.graph s (passes_sound x.graph told.is_graph_lem) (omega (arith, told.long.check_var)) legs_few))))))
    where
      told : GraphTold edges x.prior x.graph
      told = graph_told edges x.prior x.graph g

  -- so a decode in index order is refused with 20, 21, 27 or 30
  decoded_of : decode_lists_fit edges x l ≡ true → (r : Refusal) → (decode edges x l).answer ≡ Err r → is_of_shot (number_of r) ≡ true
  unfolding decode
  decoded_of fits = tested_of edges (with_order x (upto x.graph.checks)) l (tests_of fits)

-- a shot over a model and settings that the table accepts, whose legs find room
pub shot_refused : (model : List ℕ) (q : Rec) (p : List ℕ) (r : Refusal) → model_fault model ≡ Ok tt → settings_answer q.kind q.payload ≡ Ok tt → legs q.payload ≤ 16
    → (shot_decoded model (settings_of q) p (lent_numbers 256 (mechanisms model))).answer ≡ Err r → is_of_shot (number_of r) ≡ true
unfolding shot_decoded model_fault found decoded_from built_from counts_read settings_read
shot_refused model q p r m s l e =
    let c = counts_read model in
    let t = or_done _ _ m in
    let w : within c ≡ true = unless_done _ _ t.0 in
    let few = counts_fit_lem c true (sym w) refl in
    let lists = model_read model (model_room c) in
    let b = sparse_checked c.edges lists.priors lists.detector_offsets lists.detectors (graph_room c) t.1 in
    decoded_of c.edges _ (shot_room c (lent_numbers 256 c.mechanisms)) few.2 l b (settings_good_lem q _ s)
    (lists_fit _ c l few.1 few.2 (sparse_counts c.edges lists.priors lists.detector_offsets lists.detectors (graph_room c))) r (rw w at e)
