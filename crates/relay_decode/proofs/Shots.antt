-- A decode past its tests, as the code has it: the lists that are zeroed, and the leg lists with their surplus. Assumes nothing.
use mathlib.Core.Path.{◌≡◌, refl, sym, ap, ◌∙◌}
use mathlib.Core.Bool.{Bool, true, false, not, cond, false≢true}
use mathlib.Core.List.{List, ◌++◌}
use mathlib.Core.Logic.{◌⊎◌, inl, inr}
use mathlib.Core.Option.{Option, none, some}
use Prim.Native.Nat.{ℕ, suc, ◌-◌, ◌*◌, ◌≤◌}
use native.Mathlib.Nat.{sub-zero}
use lib.Dec.{leb}
use lib.Ieee.{Float}
use lib.ListN.{length, replicate, take, drop}
use lib.Seq.{length-take-le}
use borrow.Author.Tests.{not-true, not-false}
use Rattle.numbers.specs.Floats.{zero⁺}
use Rattle.numbers.proofs.Cases.{either}
use Rattle.refusals.specs.declared.Refusal.TheVariants.{TooManyStores}
use Rattle.std.specs.Prelude.{Ok, Err}
use Rattle.refusals.specs.Tests.{unless}
use Rattle.graph_lists.specs.Messages.{by_place}
use Rattle.relay_settings.specs.declared.Settings.{Settings}
use Rattle.relay_stores.specs.Stores.{stores_each, most_iterations, max_stores, stores_fault}
use Rattle.relay_calls.specs.Answers.{DecodeAnswer}
use Rattle.relay_calls.specs.Decode.{Shot, Run, Ended, decoded, refused, decode_legs, correction_of}
use Rattle.relay_calls.specs.Calls.{DecodeLists, DecodeOutcome, decode_outcome, answered, left_by, zeroed, after_legs, after_decode_tests}
use Rattle.relay_calls.specs.Formula.{stores_in, legs_leave, taken_leaves}
use Rattle.relay_record.specs.Kept.{shot_of, answer_of, is_refused, Results, results, results_of, started}

-- a run that has ended is not refused
not_refused : (run : Run) (stores : ℕ) (best : Option Float) → is_refused (answered run stores best) ≡ false
not_refused run stores none = refl
not_refused run stores (some w) = refl

-- ---- the start and the end of the legs

module _ (x : Shot) (ss is : List ℕ) (ws : List Float) (rows cor : List ℕ)
    (p : List Float) (hs : length ss ≡ suc x.settings.num_legs)
    (hi : length is ≡ suc x.settings.num_legs) (hw : length ws ≡ suc
    x.settings.num_legs) (hr : length rows ≡ suc x.settings.num_legs * x.graph.mechanisms) (hc : length cor ≡ x.graph.mechanisms) where
  -- cleared records, and the posterior at the priors
  pub starts_at : (ss' is' : List ℕ) (ws' : List Float) (rows' cor' : List ℕ) (p' : List Float)
      → (ss' ≡ replicate (length ss) 0) × (is' ≡ replicate (length is) 0) × (ws' ≡ replicate (length ws) zero⁺) × (rows' ≡ replicate (length rows) 0) × (cor' ≡ replicate (length cor) 0)
      → p' ≡ x.prior → results ss' is' ws' rows' cor' p' ≡ started x
  starts_at ss' is' ws' rows' cor' p' z q = rw (z.0, z.1, z.2, z.3, z.4, q, hs, hi, hw, hr, hc)

  -- what the lists hold after the end
  pub ends_at : (each : ℕ) (e : Ended) (d : DecodeAnswer) (r' : Results) → length p ≡ x.graph.mechanisms → d ≡ answer_of each e → (is_refused d ≡ false → results ss is ws rows cor p ≡ results_of x e)
      → r' ≡ cond (is_refused d) (results (replicate (length ss) 0) (replicate (length is) 0) (replicate (length ws) zero⁺) (replicate (length rows) 0)
      (replicate (length cor) 0) (replicate (length p) zero⁺)) (results ss is ws rows cor p)
      → r' ≡ results_of x e
  ends_at each e d r' hp q f z = go e q (either (is_refused d)) f
    where
      go : (e : Ended) → d ≡ answer_of each e → (is_refused d ≡ true) ⊎ (is_refused d ≡ false) → (is_refused d ≡ false → results ss is ws rows cor p ≡ results_of x e) → r' ≡ results_of x e
      go e q (inr h) f = z ∙ rw h (f h)
      go (decoded run) q (inl h) f = absurd (false≢true (sym (not_refused run (stores_in each (decoded run)) run.best_weight) ∙ ap is_refused (sym q) ∙ h))
      go (refused y) q (inl h) f = z ∙ rw (h, hs, hi, hw, hr, hc, hp)

-- ---- the leg lists with their surplus

module _ (x : Shot) (edges : ℕ) (l : DecodeLists) (ss is : List ℕ) (ws : List Float) (rows cor : List ℕ) (p gamma bias c v : List Float) (t1 t2 : List ℕ) (t3 : List Float) (t4 : List ℕ) where
  -- the answer, the result lists before their surplus, and the zeroed work lists are what the definition leaves
  pub shot_is : (each : ℕ) (e : Ended) (d : DecodeAnswer) → d ≡ answer_of each e → results ss is ws rows cor p ≡ results_of x e
      → (t1 ≡ drop (length ss) l.leg_state) × (t2 ≡ drop (length is) l.leg_iterations) × (t3 ≡ drop (length ws) l.leg_weight) × (t4 ≡ drop (length rows) l.rows)
      → (gamma ≡ replicate x.graph.mechanisms zero⁺) × (bias ≡ replicate x.graph.mechanisms zero⁺) × (c ≡ replicate edges zero⁺) × (v ≡ replicate edges zero⁺)
      → decode_outcome d (record {
        leg_state = ss ++ t1;
        leg_iterations = is ++ t2;
        leg_weight = ws ++ t3;
        rows = rows ++ t4;
        correction = cor;
        posterior = p;
        gamma
            = gamma;
        bias = bias;
        c_to_v = c;
        v_to_c = v;
      })
      ≡ after_legs edges x e (stores_in each e) l
  unfolding left_by zeroed
  shot_is each (decoded run) d q h t w =
      let a1 : ss ≡ run.leg_state = ap (λ (z : Results). z.leg_state) h in
      let a2 : is ≡ run.leg_iterations = ap (λ (z : Results). z.leg_iterations) h in
      let a3 : ws ≡ run.leg_weight = ap (λ (z : Results). z.leg_weight) h in
      let a4 : rows ≡ run.rows = ap (λ (z : Results). z.rows) h in
      let a5 : cor ≡ correction_of run run.best_weight = ap (λ (z : Results). z.correction) h in
      let a6 : p ≡ run.posterior = ap (λ (z : Results). z.posterior) h in
      rw (q, t.0, t.1, t.2, t.3, w.0, w.1, w.2, w.3, a1, a2, a3, a4, a5, a6)
  shot_is each (refused y) d q h t w =
      let n = suc x.settings.num_legs in
      let m = x.graph.mechanisms in
      let a1 : ss ≡ replicate n 0 = ap (λ (z : Results). z.leg_state) h in
      let a2 : is ≡ replicate n 0 = ap (λ (z : Results). z.leg_iterations) h in
      let a3 : ws ≡ replicate n zero⁺ = ap (λ (z : Results). z.leg_weight) h in
      let a4 : rows ≡ replicate (n * m) 0 = ap (λ (z : Results). z.rows) h in
      let a5 : cor ≡ replicate m 0 = ap (λ (z : Results). z.correction) h in
      let a6 : p ≡ replicate m zero⁺ = ap (λ (z : Results). z.posterior) h in
      rw (q, t.0, t.1, t.2, t.3, w.0, w.1, w.2, w.3, a1, a2, a3, a4, a5, a6)

-- ---- 29

module _ (x : Shot) (edges : ℕ) (l : DecodeLists) (each : ℕ) (fit : Bool) (is : each ≡ stores_each x.settings.schedule x.graph)
    (e : fit ≡ leb (most_iterations x.settings * each) max_stores) where
  -- what the test said, of the formula
  said : fit ≡ leb (most_iterations x.settings * stores_each x.settings.schedule x.graph) max_stores
  said = e ∙ ap (λ n. leb (most_iterations x.settings * n) max_stores) is

  -- refused
  pub taken_refused : not fit ≡ true → decode_outcome (Err TooManyStores) l ≡ taken_leaves edges x l
  unfolding stores_fault unless
  taken_refused h = let b = sym said ∙ not-true fit h in ap (λ f. after_decode_tests (cond f (Ok tt) (Err TooManyStores)) (legs_leave edges x l) l) (sym b)

  -- or what the legs leave
  pub taken_ran : (o : DecodeOutcome) → not fit ≡ false → o ≡ after_legs edges x (decode_legs by_place x) (stores_in each (decode_legs by_place x)) l → o ≡ taken_leaves edges x l
  unfolding stores_fault unless
  taken_ran o h q =
      let b = sym said ∙ not-false fit h in
      q
      ∙ ap (λ n. after_legs edges x (decode_legs by_place x) (stores_in n (decode_legs by_place x)) l) is
      ∙ ap (λ f. after_decode_tests (cond f (Ok tt) (Err TooManyStores)) (legs_leave edges x l) l) (sym b)

-- ---- an order that was counted up

module _ (t : Settings) (flat : List Float) (seed : ℕ) (syndrome : List ℕ) (prior : List Float) (cv co vm vo : List ℕ) where
  -- the same decode in an order that is the same
  pub along_order : (o o' : List ℕ) (n : ℕ) (l : DecodeLists) (r : DecodeOutcome) → o ≡ o'
      → r ≡ taken_leaves n (shot_of t flat seed syndrome prior cv co vm vo o) l → r ≡ taken_leaves n (shot_of t flat seed syndrome prior cv co vm vo o') l
  along_order o o' n l r e q = rw e at q

module _ {A : Type 0} where
  -- what lies after the front of a leg list, as it is lent, by the length of what came back
  pub front_tail : (k : ℕ) (xs ys : List A) → length ys ≡ length (take (k - 0) xs) → k ≤ length xs → drop (k - 0) xs ≡ drop (length ys) xs
  front_tail k xs ys e h = let q : length ys ≡ k = e ∙ rw sub-zero (length-take-le k xs h) in rw (q, sub-zero)
