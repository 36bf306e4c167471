-- What is written byte by byte is what the records that the reader meets say, and then the end. Assumes nothing.
use Prim.Native.Nat.{ℕ}
use mathlib.Core.Path.{◌≡◌, refl, sym, ap, ◌∙◌}
use mathlib.Core.Bool.{true, false, cond}
use mathlib.Core.List.{List, [], ◌∷◌, ◌++◌}
use mathlib.Core.Logic.{⊎_elim}
use Rattle.numbers.proofs.Cases.{either}
use Rattle.stream_reader.specs.declared.Reader.{Reader}
use Rattle.stream_reader.specs.Reading.{Held, held, pushed, fed, met, is_whole}
use Rattle.stream_session.specs.declared.Session.{Session}
use Rattle.stream_session.specs.Shots.{told, Taken, taken, record_taken, Left, left, reads, byte_taken, end_text, text_of, session_text}
use Rattle.stream_session.proofs.Cases.{chosen, other, byte_after, byte_whole, byte_more}
use Rattle.stream_laws.proofs.Recorded.{record_stays}

-- the text of the records that a reader meets, until one ends the run; then the end, with what the reader holds there
unfoldable pub met_text : List Held → Reader → Session → List ℕ → List ℕ → List ℕ
met_text [] final s model line = end_text (reads s final)
met_text (h ∷ hs) final s model line =
    let t = record_taken (reads s h.reader) h.kept model line in
    text_of t.now ++ cond t.now.session.stopped [] (met_text hs final t.now.session t.model t.now.line)

-- what was read last of a session makes no difference to it
met_reads : (hs : List Held) (final r : Reader) (s : Session) (model line : List ℕ) → met_text hs final (reads s r) model line ≡ met_text hs final s model line
unfolding met_text reads
met_reads [] final r s model line = refl
met_reads (h ∷ hs) final r s model line = refl

-- a run that has ended writes nothing more
silent : (xs : List ℕ) (s : Session) (kept model line : List ℕ) → s.stopped ≡ true → session_text xs s kept model line ≡ []
unfolding session_text end_text reads
silent [] s kept model line h = chosen s.stopped _ _ h
silent (x ∷ xs) s kept model line h =
    let e : (left (taken (told (reads s s.reader) line) model) kept ≡ byte_taken s x kept model line) = byte_after s x kept model line _ h refl in
    ap (λ (l : Left). text_of l.taken.now ++ session_text xs l.taken.now.session l.kept l.taken.model l.taken.now.line) (sym e)
    ∙ silent xs (reads s s.reader) kept model line h

-- what is written of the bytes behind a record, once it is told what is of those behind a session that goes on
behind : (xs : List ℕ) (t : Taken) (h : Held) → t.now.session.reader ≡ h.reader
    → (t.now.session.stopped ≡ false
    → session_text xs t.now.session h.kept t.model t.now.line
    ≡ met_text (met xs (held t.now.session.reader h.kept)) (fed xs (held t.now.session.reader h.kept)).reader t.now.session t.model t.now.line)
    → session_text xs t.now.session h.kept t.model t.now.line ≡ cond t.now.session.stopped [] (met_text (met xs h) (fed xs h).reader t.now.session t.model t.now.line)
behind xs t h e f =
    ⊎_elim
    (λ (w : t.now.session.stopped ≡ true). silent xs t.now.session h.kept t.model t.now.line w ∙ sym (chosen t.now.session.stopped _ _ w))
    (λ (w : t.now.session.stopped ≡ false).
    f w
    ∙ ap (λ (r : Reader). met_text (met xs (held r h.kept)) (fed xs (held r h.kept)).reader t.now.session t.model t.now.line) e
    ∙ sym (other t.now.session.stopped _ _ w))
    (either t.now.session.stopped)

-- a byte that makes a record whole, and one that does not
module _ (x : ℕ) (xs : List ℕ) (s : Session) (kept model line : List ℕ) (goes : s.stopped ≡ false) where
  abbrev now : Held
  now = pushed (held s.reader kept) x

  abbrev record_of : Taken
  record_of = record_taken (reads s now.reader) now.kept model line

  abbrev of_left : Left → List ℕ
  of_left l = text_of l.taken.now ++ session_text xs l.taken.now.session l.kept l.taken.model l.taken.now.line

  abbrev of_met : List Held → List ℕ
  of_met hs = met_text hs (fed xs now).reader s model line

  ends_record : is_whole now.reader ≡ true
      → session_text xs record_of.now.session now.kept record_of.model record_of.now.line
      ≡ cond record_of.now.session.stopped [] (met_text (met xs now) (fed xs now).reader record_of.now.session record_of.model record_of.now.line)
      → session_text (x ∷ xs) s kept model line ≡ met_text (met (x ∷ xs) (held s.reader kept)) (fed (x ∷ xs) (held s.reader kept)).reader s model line
  unfolding session_text met fed met_text
  ends_record w e =
      ap of_left (sym (byte_whole s x kept model line now.reader now.kept (reads s now.reader) record_of goes refl refl w refl))
      ∙ ap (λ (ys : List ℕ). text_of record_of.now ++ ys) e
      ∙ ap of_met (sym (chosen (is_whole now.reader) (now ∷ met xs now) (met xs now) w))

  goes_on : is_whole now.reader ≡ false
      → session_text xs (reads s now.reader) now.kept model line ≡ met_text (met xs now) (fed xs now).reader (reads s now.reader) model line
      → session_text (x ∷ xs) s kept model line ≡ met_text (met (x ∷ xs) (held s.reader kept)) (fed (x ∷ xs) (held s.reader kept)).reader s model line
  unfolding session_text met fed reads
  goes_on w e =
      ap of_left (sym (byte_more s x kept model line now.reader now.kept (reads s now.reader) goes refl refl w))
      ∙ e
      ∙ met_reads (met xs now) (fed xs now).reader now.reader s model line
      ∙ ap of_met (sym (other (is_whole now.reader) (now ∷ met xs now) (met xs now) w))

-- the lines of an input are those of the records that are met in it, and the end
pub written_met : (xs : List ℕ) (s : Session) (kept model line : List ℕ) → s.stopped ≡ false
    → session_text xs s kept model line ≡ met_text (met xs (held s.reader kept)) (fed xs (held s.reader kept)).reader s model line
unfolding session_text met fed met_text end_text reads
written_met [] s kept model line h = refl
written_met (x ∷ xs) s kept model line h =
    let n = now x xs s kept model line h in
    let t = record_of x xs s kept model line h in
    ⊎_elim
    (λ (w : is_whole n.reader ≡ true).
    ends_record x xs s kept model line h w
    (behind xs t n (record_stays (reads s n.reader) n.kept model line) (λ g. written_met xs t.now.session n.kept t.model t.now.line g)))
    (λ (w : is_whole n.reader ≡ false). goes_on x xs s kept model line h w (written_met xs (reads s n.reader) n.kept model line h))
    (either (is_whole n.reader))
