-- With a clip that is on: what the check messages of a leg are like, and what keeps a decode from refusal 30. Posteriors start at priors, which are within 30, and an
-- iteration adds at most 60 + d * c to their size (`relay_step` `Bounds`) where gammas are within 1, the clip is within c, and a mechanism has at most d edges.
-- Assumes nothing.
use Prim.Native.Nat.{ℕ, zero, suc, ◌+◌, ◌-◌, ◌*◌, ◌%◌, ◌^◌, ◌<◌, ◌≤◌}
use mathlib.Core.Path.{◌≡◌, refl, sym, ap, ◌∙◌, subst}
use mathlib.Core.Bool.{Bool, true, false, ◌&&◌}
use mathlib.Core.List.{List}
use mathlib.Core.Option.{Option, none, some}
use native.Mathlib.Nat.{mul-le-mul}
use native.Mathlib.Omega.{arith}
use lib.Ieee.{Float, nan, binary64, le, fits}
use lib.ListN.{length, get_or, get_or-replicate}
use Rattle.numbers.specs.Floats.{◌-ᶠ◌, is_finite}
use Rattle.numbers.specs.Loops.{row}
use Rattle.numbers.proofs.Cases.{and_both}
use Rattle.numbers.proofs.Loops.{get_d_part}
use Rattle.numbers.proofs.Sizes.{Within}
use Rattle.refusals.specs.Refusal.{Answer}
use Rattle.std.specs.Prelude.{Ok}
use Rattle.refusals.proofs.Tests.{or_done, unless_done}
use Rattle.graph_lists.specs.Graph.{Graph, var_entries, own_incidence}
use Rattle.graph_lists.specs.Messages.{by_place}
use Rattle.graph_lists.specs.Model.{is_graph}
use Rattle.graph_lists.proofs.GraphTests.{GraphTold, graph_told}
use Rattle.graph_lists.proofs.Passes.{Passes, lengths_agree}
use Rattle.graph_lists.proofs.Passing.{length_below}
use Rattle.graph_lists.proofs.QuickTests.{all_long, all_pass}
use Rattle.graph_lists.proofs.Rising.{few}
use Rattle.graph_lists.proofs.Sameness.{is_graph_told}
use Rattle.graph_lists.proofs.Sound.{Sound, passes_sound}
use Rattle.relay_settings.specs.declared.Clip.{Clip}
use Rattle.relay_settings.specs.declared.Clip.TheVariants.{On}
use Rattle.relay_settings.specs.declared.GammaSource.{GammaSource}
use Rattle.relay_settings.specs.declared.GammaSource.TheVariants.{Explicit, Seeded}
use Rattle.relay_settings.specs.declared.Settings.{Settings}
use Rattle.relay_settings.specs.Settings.{clip_good, alpha_good, interval_good, settings_fault}
use Rattle.relay_settings.proofs.Told.{settings_told}
use Rattle.relay_gammas.specs.Gammas.{start_of, relay_gamma, gamma_of}
use Rattle.relay_gammas.proofs.Draws.{set_within}
use Rattle.relay_step.specs.Step.{iteration}
use Rattle.relay_step.specs.Leg.{Leg, start_leg, run_leg, satisfied}
use Rattle.relay_step.proofs.Tame.{Tame, left_tame}
use Rattle.relay_step.proofs.Weights.{prior_within}
use Rattle.relay_step.proofs.Bounds.{Small, Bounded, bounded_passes, start_bounded, leg_bounded}
use Rattle.relay_stores.specs.Stores.{most_iterations}
use Rattle.relay_calls.specs.Decode.{Shot, iteration_limit, step_of, executed_leg, Run, start_run, recorded, Ended, decoded, running, leg_judged, after_leg, legs_from}
use Rattle.relay_calls.specs.Decode.{decode_legs, decode_stores}
use Rattle.relay_calls.specs.Calls.{DecodeLists, decode_fault, answered, after_legs, after_decode_tests, decode_in_order, summary_of}
use Rattle.relay_calls.proofs.Calls.{legs_over}
use Rattle.relay_laws.proofs.Drawn.{drawn_within}

-- ---- legs that end with a run

-- they are not refused
data EndsWell : Ended → Type 0 where
  ends_well : (run : Run) → EndsWell (decoded run)

-- so neither is what a decode of them answers
well_answered : (edges : ℕ) (x : Shot) (e : Ended) (stores : ℕ) (l : DecodeLists) → EndsWell e → (summary_of (after_legs edges x e stores l).answer).refusal ≡ Ok tt
well_answered edges x _ stores l (ends_well run) = go run.best_weight
  where
    go : (w : Option Float) → (summary_of (answered run stores w)).refusal ≡ Ok tt
    go none = refl
    go (some weight) = refl

-- ---- settings that pass 9 and 10

-- the clip and alpha are good
clip_told : (t : Settings) (m : ℕ) (flat : List Float) → settings_fault t m flat ≡ Ok tt → (clip_good t.clip ≡ true) × (alpha_good t.alpha ≡ true)
unfolding settings_fault
clip_told t m flat h = let a = or_done _ _ h in (unless_done _ _ a.0, unless_done _ _ (or_done _ _ a.1).0)

module _ (x : Shot) (limit : Float) (on : x.settings.clip ≡ On limit) (fit : fits binary64 x.settings.alpha ≡ true)
    (told : settings_fault x.settings x.graph.mechanisms x.gammas ≡ Ok tt) where
  -- 9
  good : clip_good (On limit) ≡ true
  good = subst (λ (c : Clip). clip_good c ≡ true) on (clip_told _ _ _ told).0

  -- and 10
  able : alpha_good x.settings.alpha ≡ true
  able = (clip_told _ _ _ told).1

  -- the gammas of the leg r
  abbrev gammas_of : ℕ → List Float
  gammas_of r = gamma_of x.settings x.gammas x.graph.mechanisms x.seed r

  -- the leg r with the clip written out
  abbrev leg_with : Clip → ℕ → List Float → Leg
  leg_with clip r posterior =
      run_leg (iteration x.settings.schedule by_place x.graph x.settings.alpha clip x.syndrome x.prior (gammas_of r) x.order)
      (satisfied x.graph x.syndrome) (iteration_limit x.settings r) false 0 (start_leg x.graph x.prior posterior)

  -- is the leg r
  leg_with_lem : (r : ℕ) (posterior : List Float) → leg_with (On limit) r posterior ≡ executed_leg by_place x r posterior
  unfolding executed_leg step_of
  leg_with_lem r posterior = ap (λ (c : Clip). leg_with c r posterior) (sym on)

  -- the check messages that a leg leaves are tame
  pub executed_tame : (r : ℕ) (posterior : List Float) → Tame limit (executed_leg by_place x r posterior).left.c_to_v
  executed_tame r posterior =
      subst (λ (l : Leg). Tame limit l.left.c_to_v) (leg_with_lem r posterior)
      (left_tame x.settings.alpha limit able fit good x.graph x.syndrome x.settings.schedule x.prior (gammas_of r) x.order
      (satisfied x.graph x.syndrome) (iteration_limit x.settings r) false 0 posterior)

  -- ---- leg after leg

  module _ (sound : Sound x.graph) (c d : ℕ) (small : (r : ℕ) → r ≤ x.settings.num_legs → Small limit x.graph x.prior (gammas_of r) 30 c d) where
    -- what an iteration adds at most
    abbrev more : ℕ
    more = 60 + d * c

    -- a posterior within b
    abbrev Near : ℕ → List Float → Type 0
    Near b posterior = (v : ℕ) → v < x.graph.mechanisms → Within (get_or posterior v nan) b

    -- a leg
    executed_bounded : (r b : ℕ) (posterior : List Float) → r ≤ x.settings.num_legs → b + iteration_limit x.settings r * more < 2 ^ 53 → Near b posterior
        → Bounded limit x.graph (b + iteration_limit x.settings r * more) (executed_leg by_place x r posterior).left
    executed_bounded r b posterior h room near =
        subst (λ (l : Leg). Bounded limit x.graph (b + iteration_limit x.settings r * more) l.left) (leg_with_lem r posterior)
        (leg_bounded x.settings.alpha limit able fit good x.graph sound x.syndrome x.prior (gammas_of r) 30 c d (small r h) x.settings.schedule x.order
        (satisfied x.graph x.syndrome) (iteration_limit x.settings r) b room false 0 (start_leg x.graph x.prior posterior)
        (start_bounded limit good x.graph x.prior posterior b near))

    -- after a leg that is not refused: it is the last, or `next` is told of the legs that are left
    judged_well : (n r : ℕ) (a : Answer) (enough : Bool) (run : Run) → a ≡ Ok tt → EndsWell (legs_from by_place x n (running run) r)
        → EndsWell (legs_from by_place x n (leg_judged a enough run) r)
    judged_well n r a true run e next = rw (e, legs_over by_place x n (decoded run) r) (ends_well run)
    judged_well n r a false run e next = rw e next

    -- the leg r, and then n legs
    after_well : (n r b : ℕ) (before : Run) → r ≤ x.settings.num_legs → b + iteration_limit x.settings r * more < 2 ^ 53 → Near b before.posterior
        → ((run : Run) → Near (b + iteration_limit x.settings r * more) run.posterior → EndsWell (legs_from by_place x n (running run) (suc r)))
        → EndsWell (legs_from by_place x (suc n) (running before) r)
    unfolding legs_from after_leg recorded
    after_well n r b before h room near next =
        let w = executed_bounded r b before.posterior h room near in
        judged_well n (suc r) _ _ _ (bounded_passes limit x.graph (b + iteration_limit x.settings r * more) (executed_leg by_place x r before.posterior).left w)
        (next (recorded x before r (executed_leg by_place x r before.posterior)) w.posteriors)

    -- n relayed legs
    legs_well : (n r b : ℕ) (before : Run) → r + n ≤ x.settings.num_legs → b + n * x.settings.leg_iterations * more < 2 ^ 53 → Near b before.posterior
        → EndsWell (legs_from by_place x n (running before) (suc r))
    unfolding legs_from iteration_limit
    legs_well zero r b before h room near = ends_well before
    legs_well (suc n) r b before h room near =
        after_well n (suc r) b before (omega arith) (omega arith) near
        (λ run k. legs_well n (suc r) (b + x.settings.leg_iterations * more) run (omega arith) (omega arith) k)

    -- all legs
    decode_well : 30 + most_iterations x.settings * more < 2 ^ 53 → EndsWell (decode_legs by_place x)
    unfolding decode_legs start_run iteration_limit
    decode_well room =
        after_well x.settings.num_legs 0 30 (start_run x) (omega arith) (omega arith) (small 0 (omega arith)).priors
        (λ run k. legs_well x.settings.num_legs 0 (30 + x.settings.pre_iterations * more) run (omega arith) (omega arith) k)

-- ---- degrees

-- a mechanism of a graph that passes 7 has at most as many edges as there are checks
degree_few : (g : Graph) → is_graph g ≡ true → (v : ℕ) → v < g.mechanisms → length (var_entries g v) ≤ g.checks
degree_few g is v h =
    let edges = length g.check_var in
    let e = is_graph_told g is in
    let passes : Passes edges g = all_pass g.checks g.mechanisms edges g (own_incidence g) refl e in
    let long = all_long g.checks g.mechanisms edges g (own_incidence g) refl e in
    let rising = few (λ c. true) g.checks (row g.var_offset v g.var_check) (passes.var_rises v h) (λ q k. refl) in
    omega (arith, lengths_agree edges g long passes v h, rising, length_below (λ c. true) g.checks)

-- ---- gammas

-- every gamma that a leg of the shot may use is within k
abbrev pub GammasWithin : Shot → ℕ → Type 0
GammasWithin x k =
    (r v : ℕ) → r ≤ x.settings.num_legs → v < x.graph.mechanisms → Within (get_or (gamma_of x.settings x.gammas x.graph.mechanisms x.seed r) v nan) k

-- what a source draws from is within 1: the ends of its interval, or each gamma of the flat list
abbrev pub SourceWithin : GammaSource → Float → Float → List Float → Type 0
SourceWithin (Seeded rule) least most flat = Within least 1 × Within most 1
SourceWithin (Explicit sets) least most flat = (i : ℕ) → i < length flat → Within (get_or flat i nan) 1

-- an interval that passes 15 rises
interval_rises : (least most : Float) → interval_good least most ≡ true → le least most ≡ true
unfolding interval_good
interval_rises least most h =
    let spans = is_finite (most -ᶠ least) && le least most in
    (and_both (is_finite (most -ᶠ least)) (le least most) (and_both (is_finite most) spans (and_both (is_finite least) (is_finite most && spans) h).1).1).1

-- as the settings' does
interval_told : (t : Settings) (m : ℕ) (flat : List Float) → settings_fault t m flat ≡ Ok tt → le t.gamma_low t.gamma_high ≡ true
unfolding settings_fault
interval_told t m flat h =
    let a = or_done _ _ (or_done _ _ (or_done _ _ (or_done _ _ (or_done _ _ (or_done _ _ (or_done _ _ h).1).1).1).1).1).1 in
    interval_rises t.gamma_low t.gamma_high (unless_done _ _ a.0)

-- so where gamma0 and the source are within 1, every gamma is
pub gammas_within : (x : Shot) → settings_fault x.settings x.graph.mechanisms x.gammas ≡ Ok tt → Within x.settings.gamma0 1
    → SourceWithin x.settings.gamma_source x.settings.gamma_low x.settings.gamma_high x.gammas → GammasWithin x 1
unfolding gamma_of relay_gamma
gammas_within x told first source zero v h k = rw (get_or-replicate x.graph.mechanisms v x.settings.gamma0 nan k) first
gammas_within x told first source (suc r) v h k = go x.settings.gamma_source refl source
  where
    t : Settings
    t = x.settings

    m : ℕ
    m = x.graph.mechanisms

    go : (s : GammaSource) → t.gamma_source ≡ s → SourceWithin s t.gamma_low t.gamma_high x.gammas
        → Within (get_or (relay_gamma s t.gamma_low t.gamma_high x.gammas m x.seed (suc r)) v nan) 1
    go (Seeded rule) e w = drawn_within t.gamma_low t.gamma_high w.0 w.1 (interval_told t m x.gammas told) (start_of rule x.seed (suc r)) m v k
    go (Explicit sets) e w =
        let n = (suc r - 1) % sets in
        let many = (settings_told t m x.gammas told).sets_many (omega arith) sets e in
        rw (get_d_part (n * m) (n * m + m) x.gammas v nan (omega arith))
        (w (n * m + v) (omega (arith, set_within n (suc r - 1) sets m (length x.gammas) refl many.0 many.1)))

-- ---- a decode

module _ (edges : ℕ) (x : Shot) (l : DecodeLists) (passed : decode_fault edges x l ≡ Ok tt) where
  -- what its tests tell of the model
  model : GraphTold edges x.prior x.graph
  unfolding decode_fault
  model = graph_told edges x.prior x.graph (or_done _ _ passed).0

  -- and of the settings
  pub settled : settings_fault x.settings x.graph.mechanisms x.gammas ≡ Ok tt
  unfolding decode_fault
  settled = (or_done _ _ (or_done _ _ passed).1).0

  module _ (limit : Float) (on : x.settings.clip ≡ On limit) (fit : fits binary64 x.settings.alpha ≡ true) (gammas : GammasWithin x 1) where
    -- it is not refused where 30 + iterations * (60 + degree * clip) is below 2 ^ 53
    pub bounded_answered : (c d : ℕ) → Within limit c → ((v : ℕ) → v < x.graph.mechanisms → length (var_entries x.graph v) ≤ d)
        → 30 + most_iterations x.settings * (60 + d * c) < 2 ^ 53 → (summary_of (decode_in_order edges x l).answer).refusal ≡ Ok tt
    unfolding decode_in_order
    bounded_answered c d clip degrees room =
        let o = after_legs edges x (decode_legs by_place x) (decode_stores by_place x) l in
        let small : (r : ℕ) → r ≤ x.settings.num_legs → Small limit x.graph x.prior (gammas_of x limit on fit settled r) 30 c d =
        λ r h.
        record {
          priors = λ v k. prior_within (get_or x.prior v nan) (model.priors_good v k);
          gammas = λ v k. gammas r v h k;
          clip = clip;
          degrees = degrees;
        } in
        ap (λ (a : Answer). (summary_of (after_decode_tests a o l).answer).refusal) passed
        ∙ well_answered edges x (decode_legs by_place x) (decode_stores by_place x) l
        (decode_well x limit on fit settled (passes_sound x.graph model.is_graph_lem) c d small room)

    -- and so, by the limits of models and settings, where the clip is within 31
    pub always_answered : Within limit 31 → (summary_of (decode_in_order edges x l).answer).refusal ≡ Ok tt
    always_answered clip =
        let t = settings_told x.settings x.graph.mechanisms x.gammas settled in
        let most : x.settings.num_legs * x.settings.leg_iterations ≤ 65535 * 65535 = mul-le-mul t.legs_few t.leg_few in
        bounded_answered 31 65536 clip (λ v h. omega (arith, degree_few x.graph model.is_graph_lem v h, model.few.checks_few)) (omega (arith, most, t.pre_few))
