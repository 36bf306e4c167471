-- What a stream has heard was accepted, so no shot past 41 to 45 ends a run. Assumes nothing.
use Prim.Native.Nat.{ℕ, ◌+◌, ◌%◌, ◌^◌, ◌≤◌}
use mathlib.Core.Path.{◌≡◌, refl, subst}
use mathlib.Core.Bool.{true, false, false≢true}
use mathlib.Core.List.{List}
use mathlib.Core.Logic.{⊎_elim}
use mathlib.Core.Option.{Option, none, some}
use native.Mathlib.Omega.{arith}
use lib.Dec.{eqb}
use Rattle.numbers.proofs.Cases.{either}
use Rattle.refusals.specs.Refusal.{Answer}
use Rattle.std.specs.Prelude.{Ok, Err}
use Rattle.refusals.specs.Refusal.{number_of}
use Rattle.relay_calls.specs.declared.Decoded.{Decoded}
use Rattle.relay_calls.specs.Answers.{DecodeAnswer}
use Rattle.stream_grammar.specs.Stream.{Rec, rec, is_settings, is_of_shot, legs, judge}
use Rattle.stream_table.specs.Table.{model_fault, settings_answer}
use Rattle.stream_session.specs.Text.{Heard, heard, nothing_heard, is_there, the_one, the_payload, the_record, ends_run, model_said, settings_said, line_said, shot_said, decode_of, payload_said, judged_said, record_said}
use Rattle.stream_laws.proofs.Theorems.{settings_let_through, shot_let_through}
use Rattle.stream_laws.proofs.Refusing.{shot_refused}

-- the model was accepted by the table, and the settings by it and by 44
pub record Accepted (h : Heard) : Type 0 where
  pub model : (p : List ℕ) → h.model ≡ some p → model_fault p ≡ Ok tt
  pub settings : (q : Rec) → h.settings ≡ some q → (settings_answer q.kind q.payload ≡ Ok tt) × (legs q.payload ≤ 16)

-- before the first record
pub nothing_accepted : Accepted nothing_heard
nothing_accepted =
    record {
      model = λ p e. let z : ◌≡◌ {A = ℕ} 0 1 = cc in absurd (omega arith);
      settings = λ q e. let z : ◌≡◌ {A = ℕ} 0 1 = cc in absurd (omega arith);
    }

-- ---- a record keeps it so

module _ (h : Heard) (a : Accepted h) (offset : ℕ) (p : List ℕ) (k : Heard) where
  -- a model
  after_model : (answer : Answer) → model_fault p ≡ answer → (model_said h offset p answer).next ≡ some k → Accepted k
  unfolding ends_run
  after_model (Ok _) m e =
      let q : heard (some p) h.settings h.shots ≡ k = cc in
      subst Accepted q
      (record {
        model = λ x s. let same : p ≡ x = cc in subst (λ (y : List ℕ). model_fault y ≡ Ok tt) same m;
        settings = a.settings;
      })
  after_model (Err r) m e = let z : ◌≡◌ {A = ℕ} 0 1 = cc in absurd (omega arith)

  -- settings
  after_settings : (kind : ℕ) (answer : Answer) → settings_answer kind p ≡ answer → legs p ≤ 16 → (settings_said h offset (rec kind p) answer).next ≡ some k → Accepted k
  unfolding ends_run
  after_settings kind (Ok _) m l e =
      let q : heard h.model (some (rec kind p)) h.shots ≡ k = cc in
      subst Accepted q
      (record {
        model = a.model;
        settings = λ x s. let same : rec kind p ≡ x = cc in subst (λ (y : Rec). (settings_answer y.kind y.payload ≡ Ok tt) × (legs y.payload ≤ 16)) same (m, l);
      })
  after_settings kind (Err r) m l e = let z : ◌≡◌ {A = ℕ} 0 1 = cc in absurd (omega arith)

  -- a shot's line
  after_line : (line : List ℕ) → (line_said h line).next ≡ some k → Accepted k
  unfolding line_said
  after_line line e = let q : heard h.model h.settings ((h.shots + 1) % 2 ^ 64) ≡ k = cc in subst Accepted q (record { model = a.model; settings = a.settings })

  -- a shot
  after_shot_lem : (d : DecodeAnswer) (bits : List ℕ) → (shot_said h offset d bits).next ≡ some k → Accepted k
  unfolding ends_run
  after_shot_lem (Ok (Decoded.Converged n t stores w)) bits e = after_line _ e
  after_shot_lem (Ok (Decoded.NotConverged n t stores)) bits e = after_line _ e
  after_shot_lem (Err r) bits e =
      ⊎_elim
      (λ (t : is_of_shot (number_of r) ≡ true). after_line _ (rw t at e))
      (λ (f : is_of_shot (number_of r) ≡ false). let n : none ≡ some k = rw f at e in let z : ◌≡◌ {A = ℕ} 0 1 = cc in absurd (omega arith))
      (either (is_of_shot (number_of r)))

  -- a record past 41 to 45
  after_kind : (kind : ℕ) → (is_settings kind ≡ true → legs p ≤ 16) → (payload_said h offset kind p).next ≡ some k → Accepted k
  unfolding payload_said
  after_kind kind l e =
      let d = decode_of (the_payload h.model) (the_record h.settings) p in
      ⊎_elim
      (λ (m : eqb kind 1 ≡ true). after_model (model_fault p) refl (rw m at e))
      (λ (m : eqb kind 1 ≡ false).
      ⊎_elim
      (λ (s : is_settings kind ≡ true). after_settings kind (settings_answer kind p) refl (l s) (rw (m, s) at e))
      (λ (s : is_settings kind ≡ false). after_shot_lem d.answer d.correction (rw (m, s) at e))
      (either (is_settings kind)))
      (either (eqb kind 1))

  -- a record
  after_judged : (kind : ℕ) (answer : Answer) → judge (is_there h.model) (is_there h.settings) kind p ≡ answer → (judged_said h offset kind p answer).next ≡ some k → Accepted k
  unfolding ends_run
  after_judged kind (Ok _) j e =
      after_kind kind
      (λ (s : is_settings kind ≡ true). (settings_let_through (is_there h.model) (is_there h.settings) p kind s j).1)
      e
  after_judged kind (Err r) j e = let z : ◌≡◌ {A = ℕ} 0 1 = cc in absurd (omega arith)

  pub stays_accepted : (kind : ℕ) → (record_said h offset kind p).next ≡ some k → Accepted k
  unfolding record_said
  stays_accepted kind e = after_judged kind (judge (is_there h.model) (is_there h.settings) kind p) refl e

-- ---- a shot goes on

-- what is there
pub there : {A : Type 0} (other : A) (o : Option A) → is_there o ≡ true → o ≡ some (the_one other o)
there other none e = absurd (false≢true e)
there other (some a) e = refl

module _ (h : Heard) (a : Accepted h) (offset : ℕ) (p : List ℕ) where
  -- what is known behind a shot
  abbrev pub after_shot : Heard
  after_shot = heard h.model h.settings ((h.shots + 1) % 2 ^ 64)

  shot_on : is_there h.model ≡ true → is_there h.settings ≡ true → (d : DecodeAnswer) (bits : List ℕ)
      → (decode_of (the_payload h.model) (the_record h.settings) p).answer ≡ d → (shot_said h offset d bits).next ≡ some after_shot
  unfolding line_said decode_of
  shot_on m s (Ok (Decoded.Converged n t stores w)) bits e = refl
  shot_on m s (Ok (Decoded.NotConverged n t stores)) bits e = refl
  shot_on m s (Err r) bits e =
      let t = a.settings (the_record h.settings) (there _ h.settings s) in
      rw (shot_refused (the_payload h.model) (the_record h.settings) p r (a.model (the_payload h.model) (there _ h.model m)) t.0 t.1 e)

  -- one that 41 to 45 let through
  pub shot_goes_on : judge (is_there h.model) (is_there h.settings) 3 p ≡ Ok tt → (record_said h offset 3 p).next ≡ some after_shot
  unfolding record_said payload_said is_settings
  shot_goes_on j =
      let t = shot_let_through (is_there h.model) (is_there h.settings) p j in
      rw j (shot_on t.2 t.3 _ _ refl)
