-- How far posteriors get with a clip. Where priors are within p, gammas within 1, the clip within c and a mechanism has at most d messages, an iteration takes posteriors
-- that are within b to such within b + 2 * p + d * c, while that is below 2 ^ 53: so they stay finite, and n iterations of a leg add n times as much. Assumes nothing.
use Prim.Native.Nat.{ℕ, zero, suc, ◌+◌, ◌*◌, ◌^◌, ◌<◌, ◌≤◌}
use mathlib.Core.Path.{◌≡◌, subst}
use mathlib.Core.Bool.{Bool, true, false, not, false≢true}
use mathlib.Core.List.{List, [], ◌∷◌, foldl}
use mathlib.Core.Logic.{⊎_elim}
use native.Mathlib.Nat.{le_trans, mul-le-mul_right}
use native.Mathlib.Omega.{arith}
use lib.Dec.{eqb}
use lib.Ieee.{Float, nan, inf, fin, binary64, up, down, neg, sub, lt, fits}
use lib.Ieee.Fits.{down_pos}
use lib.Ieee.Positive.{through}
use lib.ListN.{length, get_or, set, length-append, length-drop, length-replicate, length-map, get_or-eq_default}
use lib.Seq.{length-take-le, set_out, get_or-set_same, get_or-set_other}
use borrow.Author.Tests.{ltb-false}
use Rattle.numbers.specs.Floats.{◌+ᶠ◌, ◌-ᶠ◌, ◌*ᶠ◌, zero⁺, zero⁻, abs, is_finite}
use Rattle.numbers.specs.Loops.{part, spliced}
use Rattle.numbers.proofs.Cases.{less_or_not, equal_or_not}
use Rattle.numbers.proofs.Loops.{get_or_table, length_part}
use Rattle.numbers.proofs.Sizes.{Within, within_finite, add_within, mul_within}
use Rattle.std.specs.Prelude.{Ok}
use Rattle.refusals.specs.Tests.{unless}
use Rattle.refusals.proofs.Tests.{first_none}
use Rattle.graph_lists.specs.Graph.{Graph, check_entries, var_entries}
use Rattle.graph_lists.specs.Messages.{by_place, from_variables, cleared, total, value_fault, posterior_fault}
use Rattle.graph_lists.specs.Sound.{Offsets}
use Rattle.graph_lists.proofs.Cuts.{offsets_rise}
use Rattle.graph_lists.proofs.Sound.{Sound}
use Rattle.relay_settings.specs.declared.Clip.TheVariants.{On}
use Rattle.relay_settings.specs.declared.Schedule.{Schedule}
use Rattle.relay_settings.specs.declared.Schedule.TheVariants.{Flooding, CheckSerial}
use Rattle.relay_settings.specs.Settings.{clip_good, alpha_good}
use Rattle.relay_check.specs.Check.{check_messages}
use Rattle.relay_step.specs.Step.{State, update_check, update_variable, bias_of, biases_to, compute_bias, check_pass, variable_pass, flooding_iteration}
use Rattle.relay_step.specs.Step.{serial_check, serial_pass, check_serial_iteration, iteration}
use Rattle.relay_step.specs.Leg.{start_leg, run_leg}
use Rattle.relay_step.proofs.Lengths.{length_sent, written_length}
use Rattle.relay_step.proofs.Tame.{Tame, start_tame, check_tame, fold_holds, turns_hold}

-- ---- sizes

-- a greater bound
pub within_more : (x : Float) (a b : ℕ) → a ≤ b → Within x a → Within x b
within_more nan a b l h = h
within_more (inf s) a b l h = h
within_more (fin s m e) a b l h = le_trans h (mul-le-mul_right (down e) l)

-- the other sign
neg_within : (x : Float) (a : ℕ) → Within x a → Within (neg x) a
unfolding neg
neg_within nan a h = h
neg_within (inf s) a h = h
neg_within (fin s m e) a h = h

-- a difference
sub_within : (x y : Float) (a b : ℕ) → Within x a → Within y b → a + b < 2 ^ 53 → Within (x -ᶠ y) (a + b)
unfolding sub
sub_within x y a b h k few = add_within x (neg y) a b h (neg_within y b k) few

-- what is finite and not beyond a clip is within each bound of it
pub clip_within : (limit x : Float) (c : ℕ) → Within limit c → is_finite x ≡ true → lt limit (abs x) ≡ false → Within x c
unfolding is_finite lt abs
clip_within nan x c w f h = absurd w
clip_within (inf t) x c w f h = absurd w
clip_within (fin t n d) nan c w f h = absurd (false≢true f)
clip_within (fin t n d) (inf s) c w f h = absurd (false≢true f)
clip_within (fin t n d) (fin s m e) c w f h =
    let r : m * up e * 1 ≤ c * down e = through (m * up e) (n * up d) c (down e) (down d) 1 (down_pos d) (size t h) (omega arith) in omega arith
  where
    size : (t : Bool) → lt (fin t n d) (fin false m e) ≡ false → m * up e * down d ≤ n * up d * down e
    size false k = ltb-false (n * up d * down e) (m * up e * down d) k
    size true k = omega (arith, ltb-false 0 (n * up d * down e + m * up e * down d) k)

-- ---- a mechanism

-- what is within a bound stands in its list
within_place : (xs : List Float) (v a : ℕ) → Within (get_or xs v nan) a → v < length xs
within_place xs v a h =
    ⊎_elim (λ (l : v < length xs). l) (λ (l : length xs ≤ v). absurd (subst (λ (x : Float). Within x a) (get_or-eq_default xs nan l) h)) (less_or_not v (length xs))

-- the bias of one mechanism
bias_within : (prior gamma posterior : Float) (p b : ℕ) → Within prior p → Within gamma 1 → Within posterior b → b + 2 * p < 2 ^ 53
    → Within (bias_of prior gamma posterior) (b + 2 * p)
unfolding bias_of
bias_within prior gamma posterior p b hp hg hb few =
    let e : p + 1 * (b + p) ≡ b + 2 * p = omega arith in
    subst (λ (k : ℕ). Within (prior +ᶠ gamma *ᶠ (posterior -ᶠ prior)) k) e
    (add_within prior (gamma *ᶠ (posterior -ᶠ prior)) p (1 * (b + p)) hp
    (mul_within gamma (posterior -ᶠ prior) 1 (b + p) hg (sub_within posterior prior b p hb hp (omega arith)) (omega arith)) (omega arith))

-- and of the mechanism v among all
biases_within : (prior gamma posterior : List Float) (v p b : ℕ) → Within (get_or prior v nan) p → Within (get_or gamma v nan) 1 → Within (get_or posterior v nan) b
    → b + 2 * p < 2 ^ 53 → Within (get_or (compute_bias prior gamma posterior) v nan) (b + 2 * p)
unfolding compute_bias biases_to
biases_within prior gamma posterior v p b hp hg hb few =
    rw (get_or_table (length prior) (λ u. bias_of (get_or prior u nan) (get_or gamma u nan) (get_or posterior u nan)) v nan (within_place prior v p hp))
    (bias_within (get_or prior v nan) (get_or gamma v nan) (get_or posterior v nan) p b hp hg hb few)

-- the sum of messages, onto a number
sum_within : (c_to_v : List Float) (c : ℕ) (entries : List ℕ) (t : Float) (a : ℕ) → Within t a
    → ((j : ℕ) → j < length entries → Within (get_or c_to_v (get_or entries j 0) nan) c) → a + length entries * c < 2 ^ 53
    → Within (foldl (λ (t : Float) (message : ℕ). t +ᶠ get_or c_to_v message nan) t entries) (a + length entries * c)
sum_within c_to_v c [] t a h k few = within_more t a (a + 0 * c) (omega arith) h
sum_within c_to_v c (m ∷ ms) t a h k few =
    let e : a + c + length ms * c ≡ a + suc (length ms) * c = omega arith in
    subst (λ (n : ℕ). Within (foldl (λ (t : Float) (message : ℕ). t +ᶠ get_or c_to_v message nan) t (m ∷ ms)) n) e
    (sum_within c_to_v c ms (t +ᶠ get_or c_to_v m nan) (a + c) (add_within t (get_or c_to_v m nan) a c h (k 0 (omega arith)) (omega arith))
    (λ j l. k (suc j) (omega arith)) (omega arith))

-- and of all that a mechanism has
total_within : (c_to_v : List Float) (c d : ℕ) (entries : List ℕ) → ((j : ℕ) → j < length entries → Within (get_or c_to_v (get_or entries j 0) nan) c)
    → length entries ≤ d → d * c < 2 ^ 53 → Within (total c_to_v entries) (d * c)
unfolding total
total_within c_to_v c d entries k l few =
    let most : length entries * c ≤ d * c = mul-le-mul_right c l in
    within_more (total c_to_v entries) (0 + length entries * c) (d * c) (omega arith) (sum_within c_to_v c entries zero⁻ 0 (omega arith) k (omega arith))

-- a value that is put among others, all of which are within a bound
put_within : (xs : List Float) (v u b : ℕ) (x : Float) → (u ≡ v → Within x b) → Within (get_or xs u nan) b → Within (get_or (set xs v x) u nan) b
put_within xs v u b x new old = ⊎_elim here (λ (n : u ≡ v → ⊥). rw (get_or-set_other xs v u x nan n) old) (equal_or_not u v)
  where
    here : u ≡ v → Within (get_or (set xs v x) u nan) b
    here e =
        ⊎_elim
        (λ (l : v < length xs). rw (e, get_or-set_same xs v x nan l) (new e))
        (λ (l : length xs ≤ v). rw (set_out xs v x l) old)
        (less_or_not v (length xs))

-- ---- a state

-- priors within p, gammas within 1, a clip within c, and at most d messages of each mechanism
pub record Small (limit : Float) (g : Graph) (prior gamma : List Float) (p c d : ℕ) : Type 0 where
  pub priors : (v : ℕ) → v < g.mechanisms → Within (get_or prior v nan) p
  pub gammas : (v : ℕ) → v < g.mechanisms → Within (get_or gamma v nan) 1
  pub clip : Within limit c
  pub degrees : (v : ℕ) → v < g.mechanisms → length (var_entries g v) ≤ d

-- a state with a message for each edge, whose check messages are tame and whose posteriors are within b
pub record Bounded (limit : Float) (g : Graph) (b : ℕ) (s : State) : Type 0 where
  pub to_variables : length g.check_var ≤ length s.c_to_v
  pub to_checks : length g.check_var ≤ length s.v_to_c
  pub tame : Tame limit s.c_to_v
  pub posteriors : (v : ℕ) → v < g.mechanisms → Within (get_or s.posterior v nan) b

-- a greater bound
bounded_more : (limit : Float) (g : Graph) (a b : ℕ) (s : State) → a ≤ b → Bounded limit g a s → Bounded limit g b s
bounded_more limit g a b s l h =
    record {
      to_variables = h.to_variables;
      to_checks = h.to_checks;
      tame = h.tame;
      posteriors = λ v k. within_more (get_or s.posterior v nan) a b l (h.posteriors v k);
    }

-- such a state is not refused with 30
pub bounded_passes : (limit : Float) (g : Graph) (b : ℕ) (s : State) → Bounded limit g b s → posterior_fault g s.posterior ≡ Ok tt
unfolding posterior_fault value_fault unless
bounded_passes limit g b s h =
    first_none (value_fault s.posterior) g.mechanisms (λ v l. rw (within_finite (get_or s.posterior v nan) b (h.posteriors v l)))

-- the start of a leg is such, where the posterior that it is handed is
pub start_bounded : (limit : Float) → clip_good (On limit) ≡ true → (g : Graph) (prior posterior : List Float) (b : ℕ)
    → ((v : ℕ) → v < g.mechanisms → Within (get_or posterior v nan) b) → Bounded limit g b (start_leg g prior posterior)
unfolding start_leg cleared from_variables
start_bounded limit good g prior posterior b h =
    record {
      to_variables = omega (arith, length-replicate {A = Float} (length g.check_var) zero⁺);
      to_checks = omega (arith, length-map g.check_var (λ v. get_or prior v nan));
      tame = start_tame limit good g prior posterior;
      posteriors = h;
    }

-- a list of n or more, with a part of the first n replaced, has still n or more
spliced_long : (xs ys new : List Float) (a e n : ℕ) → a ≤ n → e ≤ n → n ≤ length xs → n ≤ length ys → length new ≡ length (part a e ys) → n ≤ length (spliced xs a e new)
spliced_long xs ys new a e n ha he hx hy l =
    simp (length-append, length-drop) (omega (arith, length-take-le a xs (omega arith), length_part a e ys (omega arith)))

-- no offset is past the edges
offset_within : (rows n : ℕ) (off : List ℕ) → Offsets rows n off → (r : ℕ) → get_or off r 0 ≤ n
offset_within rows n off o r =
    ⊎_elim
    (λ (l : rows < r). let z : get_or off r 0 ≡ 0 = get_or-eq_default off 0 (omega (arith, o.many)) in omega arith)
    (λ (l : r ≤ rows). omega (arith, o.ends, offsets_rise rows n off o r rows l (omega arith)))
    (less_or_not rows r)

-- ---- Relay's steps

module _ (alpha limit : Float) (able : alpha_good alpha ≡ true) (fit : fits binary64 alpha ≡ true) (good : clip_good (On limit) ≡ true)
    (g : Graph) (sound : Sound g) (syndrome : List ℕ) where
  -- a check leaves the posteriors as they are, and as many messages
  check_bounded : (b : ℕ) (s : State) (x : ℕ) → Bounded limit g b s → Bounded limit g b (update_check by_place g alpha (On limit) syndrome s x)
  unfolding update_check
  check_bounded b s x h =
      let from = get_or g.check_offset x 0 in
      let to = get_or g.check_offset (suc x) 0 in
      let odd = not (eqb (get_or syndrome x 0) 0) in
      let messages = part from to s.v_to_c in
      let some = offset_within g.checks (length g.check_var) g.check_offset sound.check_parts in
      record {
        to_variables =
            spliced_long s.c_to_v s.v_to_c (check_messages alpha (On limit) odd (check_entries g x) messages) from to (length g.check_var) (some x) (some (suc x))
            h.to_variables h.to_checks (length_sent alpha (On limit) odd (check_entries g x) messages);
        to_checks = h.to_checks;
        tame = check_tame alpha limit able fit good g syndrome s x h.tame;
        posteriors = h.posteriors;
      }

  module _ (prior gamma : List Float) (p c d : ℕ) (small : Small limit g prior gamma p c d) where
    -- a variable's posterior, of a bias that is within q
    variable_bounded : (bias : List Float) (q b : ℕ) → ((v : ℕ) → v < g.mechanisms → Within (get_or bias v nan) q) → q + d * c ≤ b → b < 2 ^ 53
        → (s : State) (v : ℕ) → Bounded limit g b s → Bounded limit g b (update_variable g bias s v)
    unfolding update_variable
    variable_bounded bias q b biases most few s v h =
        record {
          to_variables = h.to_variables;
          to_checks = rw (written_length _ s.c_to_v s.v_to_c (var_entries g v)) h.to_checks;
          tame = h.tame;
          posteriors = λ u l. put_within s.posterior v u b _ (λ e. new (rw e at l)) (h.posteriors u l);
        }
      where
        new : v < g.mechanisms → Within (get_or bias v nan +ᶠ total s.c_to_v (var_entries g v)) b
        new l =
            let each : (j : ℕ) → j < length (var_entries g v) → Within (get_or s.c_to_v (get_or (var_entries g v) j 0) nan) c =
            λ j k.
            let m = get_or (var_entries g v) j 0 in
            let inside : m < length s.c_to_v = omega (arith, (sound.messages_rise v l).below j k, h.to_variables) in
            clip_within limit (get_or s.c_to_v m nan) c small.clip (h.tame.finite m inside) (h.tame.within m inside) in
            within_more (get_or bias v nan +ᶠ total s.c_to_v (var_entries g v)) (q + d * c) b most
            (add_within (get_or bias v nan) (total s.c_to_v (var_entries g v)) q (d * c) (biases v l)
            (total_within s.c_to_v c d (var_entries g v) each (small.degrees v l) (omega arith)) (omega arith))

    -- a check with its variables
    serial_bounded : (bias : List Float) (q b : ℕ) → ((v : ℕ) → v < g.mechanisms → Within (get_or bias v nan) q) → q + d * c ≤ b → b < 2 ^ 53
        → (s : State) (x : ℕ) → Bounded limit g b s → Bounded limit g b (serial_check by_place g alpha (On limit) syndrome bias s x)
    unfolding serial_check
    serial_bounded bias q b biases most few s x h =
        fold_holds (Bounded limit g b) (update_variable g bias) (variable_bounded bias q b biases most few) (check_entries g x) _ (check_bounded b s x h)

    -- an iteration of either schedule, in any order
    pub iteration_bounded : (schedule : Schedule) (order : List ℕ) (b : ℕ) → b + (2 * p + d * c) < 2 ^ 53 → (s : State) → Bounded limit g b s
        → Bounded limit g (b + (2 * p + d * c)) (iteration schedule by_place g alpha (On limit) syndrome prior gamma order s)
    unfolding flooding_iteration check_serial_iteration check_pass variable_pass serial_pass
    iteration_bounded Flooding order b few s h =
        let t = check_pass by_place g alpha (On limit) syndrome order s in
        let k : Bounded limit g b t = fold_holds (Bounded limit g b) (update_check by_place g alpha (On limit) syndrome) (check_bounded b) order s h in
        turns_hold (Bounded limit g (b + (2 * p + d * c))) (update_variable g (compute_bias prior gamma t.posterior))
        (variable_bounded _ (b + 2 * p) (b + (2 * p + d * c))
        (λ v l. biases_within prior gamma t.posterior v p b (small.priors v l) (small.gammas v l) (k.posteriors v l) (omega arith)) (omega arith) few)
        g.mechanisms t (bounded_more limit g b (b + (2 * p + d * c)) t (omega arith) k)
    iteration_bounded CheckSerial order b few s h =
        fold_holds (Bounded limit g (b + (2 * p + d * c))) (serial_check by_place g alpha (On limit) syndrome (compute_bias prior gamma s.posterior))
        (serial_bounded _ (b + 2 * p) (b + (2 * p + d * c))
        (λ v l. biases_within prior gamma s.posterior v p b (small.priors v l) (small.gammas v l) (h.posteriors v l) (omega arith)) (omega arith) few)
        order s (bounded_more limit g b (b + (2 * p + d * c)) s (omega arith) h)

    -- a leg of at most n iterations
    pub leg_bounded : (schedule : Schedule) (order : List ℕ) (test : List Float → Bool) (n b : ℕ) → b + n * (2 * p + d * c) < 2 ^ 53
        → (ok : Bool) (k : ℕ) (s : State) → Bounded limit g b s
        → Bounded limit g (b + n * (2 * p + d * c)) (run_leg (iteration schedule by_place g alpha (On limit) syndrome prior gamma order) test n ok k s).left
    leg_bounded schedule order test zero b few ok k s h = bounded_more limit g b (b + 0 * (2 * p + d * c)) s (omega arith) h
    leg_bounded schedule order test (suc n) b few true k s h = bounded_more limit g b (b + suc n * (2 * p + d * c)) s (omega arith) h
    leg_bounded schedule order test (suc n) b few false k s h =
        let more = 2 * p + d * c in
        let step = iteration schedule by_place g alpha (On limit) syndrome prior gamma order in
        let e : b + more + n * more ≡ b + suc n * more = omega arith in
        subst (λ (a : ℕ). Bounded limit g a (run_leg step test (suc n) false k s).left) e
        (leg_bounded schedule order test n (b + more) (omega arith) (test (step s).posterior) (suc k) (step s) (iteration_bounded schedule order b (omega arith) s h))
