-- A session that keeps the model's bytes and the settings says what the payloads accepted last say. Assumes nothing.
use Prim.Native.Nat.{ℕ, ◌+◌, ◌%◌, ◌^◌, ◌≤◌}
use mathlib.Core.Path.{◌≡◌, refl, sym, ap, subst, ◌∙◌}
use mathlib.Core.Bool.{Bool, true, false, cond}
use mathlib.Core.List.{List, [], ◌∷◌, ◌++◌, append-nil}
use mathlib.Core.Option.{Option, none, some}
use native.Mathlib.Omega.{arith}
use lib.Dec.{eqb, leb}
use lib.ListN.{length, take, drop, replicate}
use lib.Seq.{take-append_seam}
use borrow.Author.Tests.{leb-true, eqb-false}
use Rattle.numbers.proofs.Cases.{and_both}
use Rattle.refusals.specs.declared.Refusal.{Refusal}
use Rattle.refusals.specs.Refusal.{Answer}
use Rattle.std.specs.Prelude.{Ok, Err}
use Rattle.refusals.specs.Refusal.{number_of}
use Rattle.relay_settings.specs.declared.Settings.{Settings}
use Rattle.relay_calls.specs.declared.Decoded.{Decoded}
use Rattle.relay_calls.specs.Answers.{DecodeAnswer}
use Rattle.stream_grammar.specs.Stream.{Rec, rec, Sayable, AllSayable, more, mechanisms, is_settings, is_of_shot, kind_said, kind_good, time_good, claims_of, judge, left_over}
use Rattle.stream_lines.specs.Lines.{shot_line, refused_line, stopped_line, unless_too_long}
use Rattle.stream_reader.specs.Reading.{holding, payload_kept}
use Rattle.stream_table.specs.Table.{model_fault, settings_answer, Decoding, shot_decoded}
use Rattle.stream_session.specs.declared.Session.{Session}
use Rattle.stream_session.specs.Shots.{Told, Taken, taken, goes_on, stops, says, refuses, finds, answers, tells, shot_taken, settings_taken, model_taken, kind_taken, record_judged, reads, last_text, text_of}
use Rattle.stream_session.specs.Text.{Heard, is_there, the_payload, the_record, settings_of, Said, ends_run, model_said, settings_said, line_said, shot_said, decode_of, payload_said, judged_said, record_said, records_text}
use Rattle.stream_session.proofs.Cases.{chosen, other}
use Rattle.stream_laws.proofs.Accepted.{no_settings_kind, passed}
use Rattle.stream_laws.proofs.Encoding.{encoded, kind_said_lem}
use Rattle.stream_laws.proofs.Kept.{kept_front}
use Rattle.stream_laws.proofs.Whole.{length_kept}
use Rattle.stream_laws.proofs.Recorded.{fits_room, record_kept}
use Rattle.stream_laws.proofs.Ended.{kept_text}

-- ---- a session, and what has been accepted

-- a session and the list that keeps its model agree with what has been accepted
pub record Agrees (s : Session) (model : List ℕ) (h : Heard) : Type 0 where
  pub goes : s.stopped ≡ false
  pub number : s.shots ≡ h.shots
  pub model_there : s.known.has_model ≡ is_there h.model
  pub settings_there : s.known.has_settings ≡ is_there h.settings
  pub model_kept : is_there h.model ≡ true → take s.known.model_length model ≡ the_payload h.model
  pub settings_kept : is_there h.settings ≡ true → s.known.settings ≡ settings_of (the_record h.settings)
  pub room : 5132 ≤ length model

-- after a record: the run has ended for both, or they agree
pub data Follows (s : Session) (model : List ℕ) : Option Heard → Type 0 where
  ended : s.stopped ≡ true → Follows s model none
  onward : {h : Heard} → Agrees s model h → Follows s model (some h)

-- what is told of a record is what is said of it
pub record Tells (t : Taken) (a : Said) : Type 0 where
  pub text : text_of t.now ≡ a.text
  pub next : Follows t.now.session t.model a.next

-- of two, by a test
by_test : (b : Bool) (x y : Taken) (u v : Said) → (b ≡ true → Tells x u) → (b ≡ false → Tells y v) → Tells (cond b x y) (cond b u v)
by_test true x y u v f g = f refl
by_test false x y u v f g = g refl

-- and of what is told, beside the same list
told_by_test : (b : Bool) (x y : Told) (u v : Said) (model : List ℕ) → Tells (taken x model) u → Tells (taken y model) v → Tells (taken (cond b x y) model) (cond b u v)
told_by_test true x y u v model f g = f
told_by_test false x y u v model f g = g

-- a model that finds room is kept whole
pub kept_model : (p model : List ℕ) → length p ≤ length model → take (length p) (payload_kept p model) ≡ p
kept_model p model h = rw (kept_front p model h) (take-append_seam p (drop (length p) model))

-- ---- each kind of answer

-- a refusal that ends the run
stops_tells : (s : Session) (r : Refusal) (model line : List ℕ) → Tells (taken (stops s r line) model) (ends_run s.reader.offset r)
unfolding stops ends_run
stops_tells s r model line =
    let text = stopped_line (number_of r) s.reader.offset in
    record { text = take-append_seam text (drop (length text) line); next = ended refl }

module _ (s : Session) (model : List ℕ) (h : Heard) (a : Agrees s model h) where
  -- a shot's line
  says_tells : (text line : List ℕ) → Tells (taken (says s text line) model) (line_said h text)
  unfolding says line_said
  says_tells text line =
      record {
        text = take-append_seam text (drop (length text) line);
        next = onward (record {
          goes = a.goes;
          number = ap (λ n. (n + 1) % 2 ^ 64) a.number;
          model_there = a.model_there;
          settings_there = a.settings_there;
          model_kept = a.model_kept;
          settings_kept = a.settings_kept;
          room = a.room;
        });
      }

  -- with its number
  numbered_tells : (text : ℕ → List ℕ) (line : List ℕ) → Tells (taken (says s (text s.shots) line) model) (line_said h (text h.shots))
  numbered_tells text line =
      subst (λ (n : ℕ). Tells (taken (says s (text s.shots) line) model) (line_said h (text n))) a.number (says_tells (text s.shots) line)

  -- what a decode answered
  answers_tells : (d : DecodeAnswer) (bits line : List ℕ) → Tells (taken (answers s d bits line) model) (shot_said h s.reader.offset d bits)
  unfolding finds refuses
  answers_tells (Ok (Decoded.Converged legs total stores weight)) bits line = numbered_tells (λ n. unless_too_long bits (shot_line n true total legs bits)) line
  answers_tells (Ok (Decoded.NotConverged legs total stores)) bits line = numbered_tells (λ n. unless_too_long bits (shot_line n false total legs bits)) line
  answers_tells (Err r) bits line =
      told_by_test (is_of_shot (number_of r)) _ _ _ _ model (numbered_tells (λ n. refused_line n (number_of r)) line) (stops_tells s r model line)

  -- a model
  model_tells : (answer : Answer) (p line : List ℕ) → length p ≤ 5132 → Tells (model_taken s answer p model line) (model_said h s.reader.offset p answer)
  unfolding goes_on
  model_tells (Ok _) p line l =
      record {
        text = refl;
        next = onward (record {
          goes = a.goes;
          number = a.number;
          model_there = refl;
          settings_there = a.settings_there;
          model_kept = λ _. kept_model p model (omega (arith, a.room));
          settings_kept = a.settings_kept;
          room = omega (arith, a.room, length_kept p model);
        });
      }
  model_tells (Err r) p line l = stops_tells s r model line

  -- settings
  settings_tells : (answer : Answer) (p line : List ℕ) → Tells (taken (settings_taken s answer p line) model) (settings_said h s.reader.offset (rec s.reader.kind p) answer)
  unfolding goes_on
  settings_tells (Ok _) p line =
      record {
        text = refl;
        next = onward (record {
          goes = a.goes;
          number = a.number;
          model_there = a.model_there;
          settings_there = refl;
          model_kept = a.model_kept;
          settings_kept = λ _. refl;
          room = a.room;
        });
      }
  settings_tells (Err r) p line = stops_tells s r model line

  -- a shot's decode is that over the payloads accepted
  same_decode : (p : List ℕ) → is_there h.model ≡ true → is_there h.settings ≡ true
      → (let m = take s.known.model_length model in shot_decoded m s.known.settings p (take (mechanisms m) (replicate 256 0)))
      ≡ decode_of (the_payload h.model) (the_record h.settings) p
  unfolding decode_of
  same_decode p f g =
      ap (λ (m : List ℕ). shot_decoded m s.known.settings p (take (mechanisms m) (replicate 256 0))) (a.model_kept f)
      ∙ ap (λ (t : Settings). shot_decoded (the_payload h.model) t p (take (mechanisms (the_payload h.model)) (replicate 256 0))) (a.settings_kept g)

  -- so a shot is told as it is said
  shot_tells : (p line : List ℕ) → is_there h.model ≡ true → is_there h.settings ≡ true
      → (let d = decode_of (the_payload h.model) (the_record h.settings) p in
      Tells (taken (shot_taken s (take s.known.model_length model) p line) model) (shot_said h s.reader.offset d.answer d.correction))
  unfolding shot_taken tells
  shot_tells p line f g =
      let m = take s.known.model_length model in
      let d = shot_decoded m s.known.settings p (take (mechanisms m) (replicate 256 0)) in
      subst
      (λ (x : Decoding). Tells (taken (answers s d.answer d.correction line) model) (shot_said h s.reader.offset x.answer x.correction))
      (same_decode p f g)
      (answers_tells d.answer d.correction line)

  -- a record past 41 to 45, by its kind: no shot comes without a model and settings
  kind_tells : (p line : List ℕ) → length p ≤ 5132
      → (eqb s.reader.kind 1 ≡ false → is_settings s.reader.kind ≡ false → (is_there h.model ≡ true) × (is_there h.settings ≡ true))
      → Tells (kind_taken s p model line) (payload_said h s.reader.offset s.reader.kind p)
  unfolding kind_taken payload_said
  kind_tells p line l f =
      by_test (eqb s.reader.kind 1) _ _ _ _ (λ _. model_tells (model_fault p) p line l)
      (λ n. by_test (is_settings s.reader.kind) _ _ _ _ (λ _. settings_tells (settings_answer s.reader.kind p) p line) (λ m. shot_tells p line (f n m).0 (f n m).1))

  -- a record, which 41 to 45 answer so
  judged_tells : (answer : Answer) (p line : List ℕ) → (answer ≡ Ok tt → length p ≤ 5132)
      → (answer ≡ Ok tt → eqb s.reader.kind 1 ≡ false → is_settings s.reader.kind ≡ false → (is_there h.model ≡ true) × (is_there h.settings ≡ true))
      → Tells (record_judged s answer p model line) (judged_said h s.reader.offset s.reader.kind p answer)
  judged_tells (Ok _) p line l f = kind_tells p line (l refl) (f refl)
  judged_tells (Err r) p line l f = stops_tells s r model line

-- ---- a record

-- what 41 to 45 let through finds room
room_for : (a b : Bool) (kind : ℕ) (p : List ℕ) → judge a b kind p ≡ Ok tt → length p ≤ 5132
unfolding judge
room_for a b kind p d = let t = passed a b (claims_of kind p) d in fits_room _ _ _ _ _ _ _ t.size_good t.room_good_lem

-- and what is neither a model nor settings has both before it
both_before : (a b : Bool) (kind : ℕ) (p : List ℕ) → judge a b kind p ≡ Ok tt → eqb kind 1 ≡ false → is_settings kind ≡ false → (a ≡ true) × (b ≡ true)
unfolding judge kind_good time_good
both_before a b kind p d n m =
    let t = passed a b (claims_of kind p) d in
    let k = and_both (leb 1 kind) (leb kind 4) t.kind_good_lem in
    let others = no_settings_kind kind m in
    let third : kind ≡ 3 = omega (arith, leb-true 1 kind k.0, leb-true kind 4 k.1, eqb-false kind 1 n, others.0, others.1) in
    and_both a b (subst (λ (x : ℕ). time_good x a b ≡ true) third t.time_good_lem)

-- a record is told as it is said
record_tells : (r : Rec) (offset : ℕ) (s : Session) (model line : List ℕ) (h : Heard) → Sayable r → Agrees s model h
    → Tells (record_kept s offset r model line) (record_said h offset r.kind r.payload)
unfolding record_kept record_said reads
record_tells r offset s model line h y a =
    let p = r.payload in
    let x = reads s (holding offset (encoded r)) in
    let b : Agrees x model h = record { goes = a.goes; number = a.number; model_there = a.model_there; settings_there = a.settings_there; model_kept = a.model_kept; settings_kept = a.settings_kept; room = a.room } in
    let k : kind_said (encoded r) ≡ r.kind = ap kind_said (sym (append-nil (encoded r))) ∙ kind_said_lem r.kind p [] y.kind in
    let j = judge (is_there h.model) (is_there h.settings) r.kind p in
    let same : judge s.known.has_model s.known.has_settings r.kind p ≡ j =
    ap (λ v. judge v s.known.has_settings r.kind p) a.model_there ∙ ap (λ v. judge (is_there h.model) v r.kind p) a.settings_there in
    subst (λ (q : Answer). Tells (record_judged x q p model line) (judged_said h offset r.kind p j)) (sym same)
    (subst (λ (n : ℕ). Tells (record_judged x j p model line) (judged_said h offset n p j)) k
    (judged_tells x model h b j p line (λ d. room_for _ _ r.kind p d)
    (λ d n m. both_before _ _ r.kind p d (ap (λ i. eqb i 1) (sym k) ∙ n) (ap is_settings (sym k) ∙ m))))

-- ---- a stream

-- nothing is said after the run's end
over_text : (rs : List Rec) (offset : ℕ) (rest : List ℕ) → records_text rs offset rest none ≡ []
unfolding records_text
over_text [] offset rest = refl
over_text (r ∷ rs) offset rest = refl

-- the records behind one, once they are told as they are said
behind : (rs : List Rec) (offset : ℕ) (rest : List ℕ) (t : Taken) (next : Option Heard) → Follows t.now.session t.model next
    → ((h : Heard) → Agrees t.now.session t.model h → kept_text rs offset rest t.now.session t.model t.now.line ≡ records_text rs offset rest (some h))
    → cond t.now.session.stopped [] (kept_text rs offset rest t.now.session t.model t.now.line) ≡ records_text rs offset rest next
behind rs offset rest t none (ended e) f = chosen t.now.session.stopped _ _ e ∙ sym (over_text rs offset rest)
behind rs offset rest t (some h) (onward a) f = other t.now.session.stopped _ _ a.goes ∙ f h a

-- what a session that keeps lists says is what the payloads accepted say
pub kept_said : (rs : List Rec) (offset : ℕ) (rest : List ℕ) (s : Session) (model line : List ℕ) (h : Heard) → AllSayable rs → Agrees s model h
    → kept_text rs offset rest s model line ≡ records_text rs offset rest (some h)
unfolding kept_text records_text
kept_said [] offset rest s model line h y a = ap (λ n. last_text n offset (left_over rest)) a.number
kept_said (r ∷ rs) offset rest s model line h (more y ys) a =
    let o = (offset + (6 + length r.payload)) % 2 ^ 64 in
    let t = record_kept s offset r model line in
    let u = record_said h offset r.kind r.payload in
    let w = record_tells r offset s model line h y a in
    ap (λ (x : List ℕ). x ++ cond t.now.session.stopped [] (kept_text rs o rest t.now.session t.model t.now.line)) w.text
    ∙ ap (λ (x : List ℕ). u.text ++ x)
    (behind rs o rest t u.next w.next (λ k b. kept_said rs o rest t.now.session t.model t.now.line k ys b))
