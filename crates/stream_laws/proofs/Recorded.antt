-- A record that is met is told as the grammar and the table say, and it leaves the reader where it was. Assumes nothing.
use Prim.Native.Nat.{ℕ, ◌≤◌}
use mathlib.Core.Path.{◌≡◌, refl, ap, ◌∙◌}
use mathlib.Core.Bool.{Bool, true, false, cond}
use mathlib.Core.List.{List}
use mathlib.Core.Logic.{⊎_elim}
use native.Mathlib.Omega.{arith}
use lib.Dec.{eqb, leb}
use lib.ListN.{length, take, drop, replicate}
use lib.Seq.{take-append_seam}
use borrow.Author.Tests.{leb-true, eqb-true, ne_eqb}
use Rattle.numbers.proofs.Cases.{either, equal_or_not}
use Rattle.refusals.specs.declared.Refusal.{Refusal}
use Rattle.refusals.specs.Refusal.{Answer}
use Rattle.std.specs.Prelude.{Ok, Err}
use Rattle.refusals.specs.Refusal.{number_of}
use Rattle.relay_calls.specs.declared.Decoded.{Decoded}
use Rattle.relay_calls.specs.Answers.{DecodeAnswer}
use Rattle.stream_reader.specs.declared.Reader.{Reader}
use Rattle.stream_grammar.specs.Stream.{Rec, Sayable, length_said, mechanisms, is_settings, is_of_shot, length_good, room_good, judge}
use Rattle.stream_reader.specs.Reading.{holding, payload_kept, verdict}
use Rattle.stream_laws.proofs.Accepted.{passed, model_within}
use Rattle.stream_laws.proofs.Kept.{kept_front}
use Rattle.stream_laws.proofs.Along.{said}
use Rattle.stream_laws.proofs.Encoding.{encoded}
use Rattle.stream_laws.proofs.Theorems.{judges}
use Rattle.stream_table.specs.Table.{model_fault, settings_answer, shot_decoded}
use Rattle.stream_session.specs.declared.Session.{Session}
use Rattle.stream_session.specs.Shots.{Told, Taken, taken, stops, says, refuses, finds, answers, tells, shot_taken, goes_on, settings_taken, model_taken, kind_taken, record_judged, record_taken, reads}

-- ---- the reader stays

-- of two that leave it
either_stays : {A : Type 0} (f : A → Reader) (b : Bool) (x y : A) (r : Reader) → f x ≡ r → f y ≡ r → f (cond b x y) ≡ r
either_stays f true x y r h k = h
either_stays f false x y r h k = k

-- a refusal that ends the run
stops_stays : (s : Session) (r : Refusal) (line : List ℕ) → (stops s r line).session.reader ≡ s.reader
unfolding stops
stops_stays s r line = refl

-- what a decode answered
answers_stays : (s : Session) (d : DecodeAnswer) (bits line : List ℕ) → (answers s d bits line).session.reader ≡ s.reader
unfolding finds says refuses
answers_stays s (Ok (Decoded.Converged legs total stores weight)) bits line = refl
answers_stays s (Ok (Decoded.NotConverged legs total stores)) bits line = refl
answers_stays s (Err r) bits line = either_stays (λ (t : Told). t.session.reader) (is_of_shot (number_of r)) _ _ s.reader refl (stops_stays s r line)

-- settings
settings_stays : (s : Session) (a : Answer) (p line : List ℕ) → (settings_taken s a p line).session.reader ≡ s.reader
unfolding goes_on
settings_stays s (Ok _) p line = refl
settings_stays s (Err r) p line = stops_stays s r line

-- a model
model_stays : (s : Session) (a : Answer) (p model line : List ℕ) → (model_taken s a p model line).now.session.reader ≡ s.reader
unfolding goes_on
model_stays s (Ok _) p model line = refl
model_stays s (Err r) p model line = stops_stays s r line

-- a shot
shot_stays : (s : Session) (model p line : List ℕ) → (shot_taken s model p line).session.reader ≡ s.reader
unfolding shot_taken tells
shot_stays s model p line =
    let d = shot_decoded model s.known.settings p (take (mechanisms model) (replicate 256 0)) in
    answers_stays s d.answer d.correction line

-- a record of any kind, past 41 to 45 or not
judged_stays : (s : Session) (a : Answer) (p model line : List ℕ) → (record_judged s a p model line).now.session.reader ≡ s.reader
unfolding kind_taken
judged_stays s (Ok _) p model line =
    let x = model_taken s (model_fault p) p model line in
    let y = taken (settings_taken s (settings_answer s.reader.kind p) p line) model in
    let m = take s.known.model_length model in
    let z = taken (shot_taken s m p line) model in
    let reader : Taken → Reader = λ t. t.now.session.reader in
    either_stays reader (eqb s.reader.kind 1) x (cond (is_settings s.reader.kind) y z) s.reader (model_stays s (model_fault p) p model line)
    (either_stays reader (is_settings s.reader.kind) y z s.reader (settings_stays s (settings_answer s.reader.kind p) p line) (shot_stays s m p line))
judged_stays s (Err r) p model line = stops_stays s r line

-- a record that is met
pub record_stays : (s : Session) (kept model line : List ℕ) → (record_taken s kept model line).now.session.reader ≡ s.reader
unfolding record_taken
record_stays s kept model line =
    judged_stays s (verdict s.known.has_model s.known.has_settings s.reader kept) (take s.reader.length kept) model line

-- ---- the payload finds room, where 41 to 45 let it through

-- by its kind
pub fits_room : (kind size c m e sum l : ℕ) → length_good kind size m e sum ≡ true → room_good kind size c m e l ≡ true → size ≤ 5132
unfolding length_good room_good
fits_room kind size c m e sum l h k = ⊎_elim one (λ n. ⊎_elim (two n) (three n) (either (is_settings kind))) (equal_or_not kind 1)
  where
    one : kind ≡ 1 → size ≤ 5132
    one q = let w = model_within size c m e sum l (rw q at h) (rw q at k) in omega (arith, w.size_fits, w.mechanisms_fit, w.edges_fit)

    two : (kind ≡ 1 → ⊥) → is_settings kind ≡ true → size ≤ 5132
    two n q = let e : (eqb size 49 ≡ true) = rw (ne_eqb kind 1 n, q) at h in omega (arith, eqb-true size 49 e)

    three : (kind ≡ 1 → ⊥) → is_settings kind ≡ false → size ≤ 5132
    three n q = let e : (leb size 136 ≡ true) = rw (ne_eqb kind 1 n, q) at k in omega (arith, leb-true size 136 e)

-- ---- a record that is met

-- a record at an offset: as the grammar and the table answer, with what was known before it and the lists that keep
unfoldable pub record_kept : Session → ℕ → Rec → List ℕ → List ℕ → Taken
record_kept s offset r model line =
    record_judged
    (reads s (holding offset (encoded r)))
    (judge s.known.has_model s.known.has_settings r.kind r.payload)
    r.payload
    model
    line

-- a refused payload is not looked at
same_payload : (s : Session) (a : Answer) (q p model line : List ℕ) → (a ≡ Ok tt → q ≡ p) → record_judged s a q model line ≡ record_judged s a p model line
same_payload s (Ok _) q p model line h = ap (λ x. kind_taken s x model line) (h refl)
same_payload s (Err r) q p model line h = refl

module _ (r : Rec) (sayable : Sayable r) (offset : ℕ) (room : List ℕ) (large : 5132 ≤ length room) where
  -- what 41 to 45 let through is kept whole
  kept_whole : (hasModel hasSettings : Bool) → verdict hasModel hasSettings (holding offset (encoded r)) (payload_kept r.payload room) ≡ Ok tt
      → take (length_said (encoded r)) (payload_kept r.payload room) ≡ r.payload
  unfolding verdict
  kept_whole hasModel hasSettings d =
      let p = passed hasModel hasSettings _ d in
      let l = fits_room _ _ _ _ _ _ _ p.size_good p.room_good_lem in
      let n = said r sayable offset room in
      rw (n, kept_front r.payload room (omega (arith, l, n, large))) (take-append_seam r.payload (drop (length r.payload) room))

  -- it is told as the grammar and the table say
  pub record_told : (s : Session) (model line : List ℕ) → record_taken (reads s (holding offset (encoded r))) (payload_kept r.payload room) model line ≡ record_kept s offset r model line
  unfolding record_taken record_kept reads
  record_told s model line =
      same_payload _ _ _ _ model line (kept_whole s.known.has_model s.known.has_settings)
      ∙ ap (λ a. record_judged (reads s (holding offset (encoded r))) a r.payload model line) (judges s.known.has_model s.known.has_settings r offset room sayable (omega (arith, large)))
