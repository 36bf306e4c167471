-- What a reader may rely on of `shots`: what its session says, byte by byte, is what the grammar and the table say of the records, on every input. Assumes nothing.
use Prim.Native.Nat.{ℕ, ◌+◌, ◌%◌, ◌^◌, ◌≤◌}
use mathlib.Core.Path.{◌≡◌, refl, sym, ap, ◌∙◌}
use mathlib.Core.Bool.{Bool, true, false, false≢true}
use mathlib.Core.List.{List, [], ◌∷◌, ◌++◌, append_assoc, foldl-append}
use mathlib.Core.Logic.{◌⊎◌}
use mathlib.Core.Option.{some}
use lib.ListN.{length, take}
use Rattle.refusals.specs.declared.Refusal.{Refusal}
use Rattle.std.specs.Prelude.{Ok}
use Rattle.refusals.specs.Refusal.{number_of}
use Rattle.std.specs.Prelude.{Err}
use Rattle.stream_grammar.specs.Stream.{AreBytes, Rec, AllSayable, stream, is_complete, is_settings, judge, is_of_shot}
use Rattle.stream_grammar.specs.Fields.{settings_read}
use Rattle.relay_settings.specs.Settings.{source_fault, settings_fault, check_settings}
use Rattle.stream_reader.specs.Reading.{fresh, held, fed, payload_kept}
use Rattle.stream_lines.specs.Lines.{refused_line}
use Rattle.stream_table.specs.Table.{model_fault, settings_answer}
use Rattle.stream_session.specs.declared.Session.{Session}
use Rattle.stream_session.specs.Shots.{Left, start_session, byte_taken, last_text, end_text, text_of, session_text}
use Rattle.stream_session.specs.Pieces.{next_byte, piece_taken, piece_text, rest_text}
use Rattle.stream_session.specs.Text.{Heard, heard, nothing_heard, is_there, the_payload, the_record, decode_of, record_said, records_text}
use Rattle.stream_laws.proofs.Theorems.{Apart, told_apart, meets, ends_at, settings_let_through}
use Rattle.stream_laws.proofs.Written.{met_text, written_met}
use Rattle.stream_laws.proofs.Ended.{met_told}
use Rattle.stream_laws.proofs.Accepting.{kept_model, kept_said}
use Rattle.stream_laws.proofs.Refusing.{shot_refused}
use Rattle.stream_laws.proofs.Going.{Accepted, nothing_accepted, stays_accepted, shot_goes_on}
use Rattle.stream_laws.specs.Lines.{LineHolds}
use Rattle.stream_laws.proofs.Lines.{shot_line_lem}

-- "`shots` reads standard input": of records and what is left over it writes what the grammar and the table say, with each refusal's number and offset, each shot over the
-- very payload of the last model and record of the last settings accepted, where the lists that keep a payload and a model have 5,132 bytes, the longest within the room
pub writes : (rs : List Rec) (rest room model line : List ℕ) → AllSayable rs → AreBytes rest → is_complete rest ≡ false → 5132 ≤ length room → 5132 ≤ length model
    → session_text (stream rs ++ rest) start_session room model line ≡ records_text rs 0 rest (some nothing_heard)
writes rs rest room model line s f c l m =
    let final = (fed (stream rs ++ rest) (held (fresh 0) room)).reader in
    written_met (stream rs ++ rest) start_session room model line refl
    ∙ ap (λ hs. met_text hs final start_session model line) (meets rs rest 0 room s f c)
    ∙ met_told rs rest 0 room final start_session model line s l refl (λ n. ends_at (last_text n) (λ a b. refl) rs rest 0 room s f c)
    ∙ kept_said rs 0 rest start_session model line nothing_heard s
    (record {
      goes = refl;
      number = refl;
      model_there = refl;
      settings_there = refl;
      model_kept = λ e. absurd (false≢true e);
      settings_kept = λ e. absurd (false≢true e);
      room = m;
    })

-- every input is such a stream
pub record Written (xs room model line : List ℕ) : Type 0 where
  pub parts : Apart xs
  pub text : session_text xs start_session room model line ≡ records_text parts.records 0 parts.rest (some nothing_heard)

-- and what is written of it
pub every_input : (xs room model line : List ℕ) → AreBytes xs → 5132 ≤ length room → 5132 ≤ length model → Written xs room model line
every_input xs room model line f l m =
    let t = told_apart xs f in
    record {
      parts = t;
      text = ap (λ ys. session_text ys start_session room model line) t.same ∙ writes t.records t.rest room model line t.sayable t.bytes t.cut l m;
    }

-- "in pieces of any size": the text of two pieces is what is said while the first is taken, and then the text of the second from what the first leaves
pub pieces_text : (xs ys : List ℕ) (l : Left) → rest_text (xs ++ ys) l ≡ piece_text xs l ++ rest_text ys (piece_taken xs l)
unfolding session_text piece_text piece_taken
pieces_text [] ys l = refl
pieces_text (x ∷ xs) ys l =
    let n = next_byte l x in
    ap (λ (zs : List ℕ). text_of n.taken.now ++ zs) (pieces_text xs ys n) ∙ sym (append_assoc (text_of n.taken.now) (piece_text xs n) (rest_text ys (piece_taken xs n)))

-- and two pieces leave what the second leaves behind the first
pub pieces_left : (xs ys : List ℕ) (l : Left) → piece_taken (xs ++ ys) l ≡ piece_taken ys (piece_taken xs l)
unfolding piece_taken
pieces_left xs ys l = foldl-append next_byte l xs ys

-- "Later models and settings replace earlier ones": a model that finds room is kept whole, so the shots behind it are decoded over its very payload
pub keeps_the_model : (p model : List ℕ) → length p ≤ length model → take (length p) (payload_kept p model) ≡ p
keeps_the_model = kept_model

-- "Then a model by 1 to 6, settings by 10 to 16, a shot by 20, 21 and 30", with 27 after 21: over a model and settings, of either kind, that were accepted a shot is
-- refused with 20, 21, 27 or 30 alone
pub shot_refusals : (hasModel hasSettings : Bool) (model : List ℕ) (settings : Rec) (p : List ℕ) (r : Refusal) → model_fault model ≡ Ok tt
    → is_settings settings.kind ≡ true → judge hasModel hasSettings settings.kind settings.payload ≡ Ok tt → settings_answer settings.kind settings.payload ≡ Ok tt
    → (decode_of model settings p).answer ≡ Err r → is_of_shot (number_of r) ≡ true
unfolding decode_of
shot_refusals hasModel hasSettings model settings p r m k j s e =
    shot_refused model settings p r m s (settings_let_through hasModel hasSettings settings.payload settings.kind k j).1 e

-- 10 to 16 answer settings of either kind alike
pub kinds_answered : (p : List ℕ) → settings_answer 4 p ≡ settings_answer 2 p
unfolding settings_answer settings_read check_settings settings_fault source_fault
kinds_answered p = refl

-- and in a stream they always were, so no shot past 41 to 45 ends a run: the next shot has the next number
pub no_shot_ends : Accepted nothing_heard
    × ((h : Heard) (offset kind : ℕ) (p : List ℕ) (k : Heard) → Accepted h → (record_said h offset kind p).next ≡ some k → Accepted k)
    × ((h : Heard) (offset : ℕ) (p : List ℕ) → Accepted h → judge (is_there h.model) (is_there h.settings) 3 p ≡ Ok tt
    → (record_said h offset 3 p).next ≡ some (heard h.model h.settings ((h.shots + 1) % 2 ^ 64)))
no_shot_ends =
    (nothing_accepted, λ h offset kind p k a e. stays_accepted h a offset p k kind e, λ h offset p a j. shot_goes_on h a offset p j)

-- the archive's "least weight": over a model and settings that were accepted, a shot past 41 to 45 gets the line of a refusal, or one whose bits are the best of its decode's
-- legs: they satisfy every check where the line says converged, and fail at least one where it does not
pub line_holds : (h : Heard) (offset : ℕ) (p : List ℕ) → Accepted h → judge (is_there h.model) (is_there h.settings) 3 p ≡ Ok tt
    → LineHolds h.shots (the_payload h.model) (the_record h.settings) p (record_said h offset 3 p).text
    ⊎ ((code : ℕ) × ((record_said h offset 3 p).text ≡ refused_line h.shots code))
line_holds = shot_line_lem

-- ---- two results that a contract allows coincide

pub start_once : (x y : Session) → x ≡ start_session → y ≡ start_session → x ≡ y
start_once x y p q = p ∙ sym q

pub byte_once : (s : Session) (b : ℕ) (kept model line : List ℕ) (x y : Left) → x ≡ byte_taken s b kept model line → y ≡ byte_taken s b kept model line → x ≡ y
byte_once s b kept model line x y p q = p ∙ sym q

pub end_once : (s : Session) (x y : List ℕ) → x ≡ end_text s → y ≡ end_text s → x ≡ y
end_once s x y p q = p ∙ sym q
