-- What a session says, case by case. Assumes nothing.
use Rattle.std.proofs.Common.{◌≡◌, ℕ, Bool, true, false, cond, List, length, take, sym, ap, ◌∙◌, eq-eqb, ne_eqb}
use Rattle.numbers.specs.Loops.{over}
use Rattle.refusals.specs.declared.Refusal.{Refusal}
use Rattle.refusals.specs.Refusal.{Answer}
use Rattle.std.specs.Prelude.{Ok, Err}
use Rattle.refusals.specs.Refusal.{number_of}
use Rattle.stream_grammar.specs.Stream.{is_settings, is_of_shot}
use Rattle.stream_reader.specs.declared.Reader.{Reader}
use Rattle.stream_reader.specs.Reading.{Held, held, pushed, is_whole, at_end}
use Rattle.stream_lines.specs.Lines.{stopped_line, end_line}
use Rattle.stream_session.specs.declared.Session.{Session}
use Rattle.stream_table.specs.Table.{model_fault, settings_answer}
use Rattle.stream_session.specs.Shots.{told, shot_taken, settings_taken, Taken, taken, model_taken, kind_taken, record_taken, Left, left, reads, byte_taken, end_text}

-- an arm of a match tells what the definition says of its case
pub by_case : {A B : Type 0} (f : A → B) {x y : A} {z : B} → z ≡ f y → x ≡ y → z ≡ f x
by_case f e q = e ∙ sym (ap f q)

-- the refusal's number decides whether it is said of a shot
pub of_shot : (r : Refusal) (code : ℕ) (x b : Bool) → code ≡ number_of r → x ≡ is_of_shot code → x ≡ b → is_of_shot (number_of r) ≡ b
of_shot r code x b e f h = sym (ap is_of_shot e) ∙ sym f ∙ h

-- a text that was written is the last one
pub text_written : (s : Session) (text line after : List ℕ) (n : ℕ) → end_text s ≡ text → n ≡ length text → after ≡ over text line
    → (n ≡ length (end_text s)) × (after ≡ over (end_text s) line)
text_written s text line after n e f g = (rw (f, e), rw (g, e))

-- 40 is the last text, or the shots are
pub cut_text : (s : Session) (a : Answer) (r : Refusal) (code : ℕ) → s.stopped ≡ false → a ≡ at_end s.reader → a ≡ Err r → code ≡ number_of r
    → end_text s ≡ stopped_line code s.reader.offset
unfolding end_text
cut_text s a r code h e q k = rw (h, sym e, q, k)

pub shots_text : (s : Session) (a : Answer) → s.stopped ≡ false → a ≡ at_end s.reader → a ≡ Ok tt → end_text s ≡ end_line s.shots
unfolding end_text
shots_text s a h e q = rw (h, sym e, q)

-- ---- a record by its kind

module _ (s : Session) (p model line : List ℕ) (x : Taken) where
  pub kind_model : s.reader.kind ≡ 1 → x ≡ model_taken s (model_fault p) p model line → x ≡ kind_taken s p model line
  unfolding kind_taken
  kind_model h e = rw (eq-eqb _ _ h, e)

  pub kind_settings : ¬ (s.reader.kind ≡ 1) → is_settings s.reader.kind ≡ true
      → x ≡ taken (settings_taken s (settings_answer s.reader.kind p) p line) model → x ≡ kind_taken s p model line
  unfolding kind_taken
  kind_settings k h e = rw (ne_eqb _ _ k, h, e)

  pub kind_shot : ¬ (s.reader.kind ≡ 1) → is_settings s.reader.kind ≡ false
      → x ≡ taken (shot_taken s (take s.known.model_length model) p line) model → x ≡ kind_taken s p model line
  unfolding kind_taken
  kind_shot k h e = rw (ne_eqb _ _ k, h, e)

-- ---- a byte

-- one of two, told which
pub chosen : {A : Type 0} (b : Bool) (x y : A) → b ≡ true → cond b x y ≡ x
chosen b x y h = rw h

pub other : {A : Type 0} (b : Bool) (x y : A) → b ≡ false → cond b x y ≡ y
other b x y h = rw h

-- a run that has ended says nothing more
pub byte_after : (s : Session) (b : ℕ) (kept model line : List ℕ) (next : Session) → s.stopped ≡ true → next ≡ reads s s.reader
    → left (taken (told next line) model) kept ≡ byte_taken s b kept model line
unfolding byte_taken
byte_after s b kept model line next h n = ap (λ (k : Session). left (taken (told k line) model) kept) n ∙ sym (chosen s.stopped _ _ h)

module _ (s : Session) (b : ℕ) (kept model line : List ℕ) (r : Reader) (after : List ℕ) (next : Session) where
  -- what a byte leads to that was read
  abbrev reading : Held → Left
  reading h =
      left (cond (is_whole h.reader) (record_taken (reads s h.reader) h.kept model line) (taken (told (reads s h.reader) line) model)) h.kept

  goes : s.stopped ≡ false → held r after ≡ pushed (held s.reader kept) b → reading (held r after) ≡ byte_taken s b kept model line
  unfolding byte_taken
  goes h e = ap reading e ∙ sym (other s.stopped _ _ h)

  -- with it the record is whole
  pub byte_whole : (t : Taken) → s.stopped ≡ false → held r after ≡ pushed (held s.reader kept) b → next ≡ reads s r → is_whole r ≡ true → t ≡ record_taken next after model line
      → left t after ≡ byte_taken s b kept model line
  byte_whole t h e n w q = ap (λ (k : Taken). left k after) (q ∙ ap (λ (k : Session). record_taken k after model line) n ∙ sym (chosen (is_whole r) _ _ w)) ∙ goes h e

  -- or there is more to come
  pub byte_more : s.stopped ≡ false → held r after ≡ pushed (held s.reader kept) b → next ≡ reads s r → is_whole r ≡ false
      → left (taken (told next line) model) after ≡ byte_taken s b kept model line
  byte_more h e n w = ap (λ (k : Taken). left k after) (ap (λ (k : Session). taken (told k line) model) n ∙ sym (other (is_whole r) _ _ w)) ∙ goes h e
