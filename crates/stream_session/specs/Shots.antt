-- What `shots` says of a stream, byte by byte: each record judged by 40 to 45 (`stream_reader`), then by the table (`stream_table` `Table`), and the lines. Definitions only.
-- Assumes nothing.
use Rattle.std.specs.Prelude.{ℕ, ◌+◌, ◌%◌, ◌^◌, Bool, true, false, cond, List, [], ◌∷◌, ◌++◌, length, take, replicate, ◌==◌}
use Rattle.numbers.specs.Limits.{room_mechanisms}
use Rattle.numbers.specs.Loops.{over}
use Rattle.refusals.specs.declared.Refusal.{Refusal}
use Rattle.refusals.specs.Refusal.{Answer}
use Rattle.std.specs.Prelude.{Ok, Err}
use Rattle.refusals.specs.Refusal.{number_of}
use Rattle.relay_settings.specs.declared.Settings.{Settings}
use Rattle.relay_settings.specs.Settings.{published}
use Rattle.relay_calls.specs.declared.Decoded.{Decoded}
use Rattle.relay_calls.specs.Answers.{DecodeAnswer}
use Rattle.stream_reader.specs.declared.Reader.{Reader}
use Rattle.stream_grammar.specs.Stream.{mechanisms, is_settings, is_of_shot}
use Rattle.stream_reader.specs.Reading.{fresh, held, pushed, is_whole, verdict, at_end, payload_kept}
use Rattle.stream_grammar.specs.Fields.{settings_read}
use Rattle.stream_lines.specs.Lines.{shot_line, refused_line, stopped_line, end_line, unless_too_long}
use Rattle.stream_table.specs.Table.{model_fault, settings_answer, Decoding, shot_decoded}
use Rattle.stream_session.specs.declared.Known.{Known}
use Rattle.stream_session.specs.declared.Session.{Session}

-- ---- a session: the reader, what is known of model and settings, the number of the next shot, whether a refusal has ended it, and how long the line is that is
-- to be written now

abbrev pub known : ℕ → Bool → Settings → Bool → Known
known n hasModel settings hasSettings = record { model_length = n; has_model = hasModel; settings = settings; has_settings = hasSettings }

abbrev pub session : Reader → Known → ℕ → Bool → ℕ → Session
session reader k shots stopped said = record { reader = reader; known = k; shots = shots; stopped = stopped; said = said }

-- before the first byte
abbrev pub start_session : Session
start_session = session (fresh 0) (known 0 false published false) 0 false 0

-- what is told of a record: the session after it, and the line
pub record Told : Type 0 where
  pub session : Session
  pub line : List ℕ

abbrev pub told : Session → List ℕ → Told
told s line = record { session = s; line = line }

-- nothing is said, and this is known from now on
unfoldable pub goes_on : Session → Known → Session
goes_on s k = session s.reader k s.shots s.stopped 0

-- a refusal ends the run: its number and the record's offset are said
unfoldable pub stops : Session → Refusal → List ℕ → Told
stops s r line =
    let text = stopped_line (number_of r) s.reader.offset in
    told (session s.reader s.known s.shots true (length text)) (over text line)

-- a line is said of a shot, and the next shot has the next number
unfoldable pub says : Session → List ℕ → List ℕ → Told
says s text line = told (session s.reader s.known ((s.shots + 1) % 2 ^ 64) s.stopped (length text)) (over text line)

-- 20, 21, 27 and 30 are said of the shot, any other refusal ends the run
unfoldable pub refuses : Session → Refusal → List ℕ → Told
refuses s r line = cond (is_of_shot (number_of r)) (says s (refused_line s.shots (number_of r)) line) (stops s r line)

-- a decode's outcome is said
unfoldable pub finds : Session → Bool → ℕ → ℕ → List ℕ → List ℕ → Told
finds s converged total legs bits line = says s (unless_too_long bits (shot_line s.shots converged total legs bits)) line

-- what a decode answered, with its correction
abbrev pub answers : Session → DecodeAnswer → List ℕ → List ℕ → Told
answers s (Ok (Decoded.Converged legs total stores weight)) bits line = finds s true total legs bits line
answers s (Ok (Decoded.NotConverged legs total stores)) bits line = finds s false total legs bits line
answers s (Err r) bits line = refuses s r line

-- a shot's answer and its correction
unfoldable pub tells : Session → Decoding → List ℕ → Told
tells s d line = answers s d.answer d.correction line

-- a shot over a model, with a correction of its mechanisms out of the room
unfoldable pub shot_taken : Session → List ℕ → List ℕ → List ℕ → Told
shot_taken s model p line = tells s (shot_decoded model s.known.settings p (take (mechanisms model) (replicate room_mechanisms 0))) line

-- settings, which the table answers so: they replace earlier ones, of either kind, and the model stays
abbrev pub settings_taken : Session → Answer → List ℕ → List ℕ → Told
settings_taken s (Ok _) p line =
    told (goes_on s (known s.known.model_length s.known.has_model (settings_read s.reader.kind p) true)) line
settings_taken s (Err r) p line = stops s r line

-- ---- a record

-- what is told, and the model's bytes as they are kept
pub record Taken : Type 0 where
  pub now : Told
  pub model : List ℕ

abbrev pub taken : Told → List ℕ → Taken
taken t model = record { now = t; model = model }

-- a model, which the table answers so: it replaces an earlier one, and the settings stay
abbrev pub model_taken : Session → Answer → List ℕ → List ℕ → List ℕ → Taken
model_taken s (Ok _) p model line =
    taken (told (goes_on s (known (length p) true s.known.settings s.known.has_settings)) line) (payload_kept p model)
model_taken s (Err r) p model line = taken (stops s r line) model

-- a record past 41 to 45, by its kind
unfoldable pub kind_taken : Session → List ℕ → List ℕ → List ℕ → Taken
kind_taken s p model line =
    cond (s.reader.kind == 1) (model_taken s (model_fault p) p model line)
    (cond (is_settings s.reader.kind) (taken (settings_taken s (settings_answer s.reader.kind p) p line) model)
    (taken (shot_taken s (take s.known.model_length model) p line) model))

-- a record, which 41 to 45 answer so
abbrev pub record_judged : Session → Answer → List ℕ → List ℕ → List ℕ → Taken
record_judged s (Ok _) p model line = kind_taken s p model line
record_judged s (Err r) p model line = taken (stops s r line) model

-- a whole record: its payload is what was kept of it
unfoldable pub record_taken : Session → List ℕ → List ℕ → List ℕ → Taken
record_taken s kept model line =
    record_judged s (verdict s.known.has_model s.known.has_settings s.reader kept) (take s.reader.length kept) model line

-- ---- a byte

-- all that a byte leaves: what is told, the model's bytes and those of the record's payload
pub record Left : Type 0 where
  pub taken : Taken
  pub kept : List ℕ

abbrev pub left : Taken → List ℕ → Left
left t kept = record { taken = t; kept = kept }

-- a session that goes on reading
unfoldable pub reads : Session → Reader → Session
reads s r = session r s.known s.shots s.stopped 0

-- one byte of the stream. A run that has ended says nothing more
unfoldable pub byte_taken : Session → ℕ → List ℕ → List ℕ → List ℕ → Left
byte_taken s b kept model line =
    let h = pushed (held s.reader kept) b in
    let next = reads s h.reader in
    cond s.stopped (left (taken (told (reads s s.reader) line) model) kept)
    (left (cond (is_whole h.reader) (record_taken next h.kept model line) (taken (told next line) model)) h.kept)

-- ---- the end of the input

-- the last line: how many shots there were, or 40 for a record that was cut, with its offset
abbrev pub last_text : ℕ → ℕ → Answer → List ℕ
last_text shots offset (Ok _) = end_line shots
last_text shots offset (Err r) = stopped_line (number_of r) offset

-- nothing after a run that has ended
unfoldable pub end_text : Session → List ℕ
end_text s = cond s.stopped [] (last_text s.shots s.reader.offset (at_end s.reader))

-- ---- all that is written

-- what is written of what is told: the front of the line
abbrev pub text_of : Told → List ℕ
text_of t = take t.session.said t.line

-- the lines of the bytes of an input, one after the other, and the last one
unfoldable pub session_text : List ℕ → Session → List ℕ → List ℕ → List ℕ → List ℕ
session_text [] s kept model line = end_text s
session_text (b ∷ bs) s kept model line =
    let l = byte_taken s b kept model line in
    text_of l.taken.now ++ session_text bs l.taken.now.session l.kept l.taken.model l.taken.now.line
