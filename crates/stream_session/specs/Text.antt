-- What `shots` writes for a stream that the grammar tells apart into records and what is left over: record after record, each by 41 to 45 and the table, with the
-- payload of the last model and the record of the last settings that were accepted. No list that keeps bytes, and no room, is in it. That the session says this, byte by byte,
-- is proved (`stream_laws` `ShotsTheorems`). Definitions only. Assumes nothing.
use Rattle.std.specs.Prelude.{ℕ, ◌+◌, ◌%◌, ◌^◌, Bool, true, false, cond, List, [], ◌∷◌, ◌++◌, length, ◌==◌}
use Rattle.std.proofs.Math.Option.{Option, none, some}
use Rattle.numbers.specs.Limits.{room_mechanisms}
use Rattle.refusals.specs.declared.Refusal.{Refusal}
use Rattle.refusals.specs.Refusal.{Answer}
use Rattle.std.specs.Prelude.{Ok, Err}
use Rattle.refusals.specs.Refusal.{number_of}
use Rattle.relay_settings.specs.declared.Settings.{Settings}
use Rattle.relay_calls.specs.declared.Decoded.{Decoded}
use Rattle.relay_calls.specs.Answers.{DecodeAnswer}
use Rattle.stream_grammar.specs.Stream.{Rec, rec, mechanisms, is_settings, judge, left_over, is_of_shot}
use Rattle.stream_grammar.specs.Fields.{settings_read}
use Rattle.stream_lines.specs.Lines.{shot_line, refused_line, stopped_line, unless_too_long}
use Rattle.stream_table.specs.Table.{lent_numbers, model_fault, settings_answer, Decoding, shot_decoded}
use Rattle.stream_session.specs.Shots.{last_text}

-- ---- what is known between records

-- the payload of the last model that was accepted and the record of the last settings, of either kind, if any were, and the number of the next shot
pub record Heard : Type 0 where
  pub model : Option (List ℕ)
  pub settings : Option Rec
  pub shots : ℕ

abbrev pub heard : Option (List ℕ) → Option Rec → ℕ → Heard
heard model settings shots = record { model = model; settings = settings; shots = shots }

-- before the first record
abbrev pub nothing_heard : Heard
nothing_heard = heard none none 0

-- whether there is one
abbrev pub is_there : {A : Type 0} → Option A → Bool
is_there none = false
is_there (some a) = true

-- it, or another where there is none; 43 has refused all shots without a model or settings
abbrev pub the_one : {A : Type 0} → A → Option A → A
the_one other none = other
the_one other (some a) = a

-- the model's payload
abbrev pub the_payload : Option (List ℕ) → List ℕ
the_payload = the_one []

-- the settings' record
abbrev pub the_record : Option Rec → Rec
the_record = the_one (rec 0 [])

-- the settings of a record, by its kind and its payload
abbrev pub settings_of : Rec → Settings
settings_of r = settings_read r.kind r.payload

-- ---- a record

-- what is said of a record, and what is known after it: nothing where the run has ended
pub record Said : Type 0 where
  pub text : List ℕ
  pub next : Option Heard

abbrev pub said : List ℕ → Option Heard → Said
said text next = record { text = text; next = next }

-- a refusal that ends the run: its number, and the record's offset
unfoldable pub ends_run : ℕ → Refusal → Said
ends_run offset r = said (stopped_line (number_of r) offset) none

-- a model, which the table answers so: it replaces an earlier one, and the settings stay
abbrev pub model_said : Heard → ℕ → List ℕ → Answer → Said
model_said h offset p (Ok _) = said [] (some (heard (some p) h.settings h.shots))
model_said h offset p (Err r) = ends_run offset r

-- settings: they replace earlier ones, of either kind, and the model stays
abbrev pub settings_said : Heard → ℕ → Rec → Answer → Said
settings_said h offset q (Ok _) = said [] (some (heard h.model (some q) h.shots))
settings_said h offset q (Err r) = ends_run offset r

-- a shot's line, and the next shot has the next number
unfoldable pub line_said : Heard → List ℕ → Said
line_said h line = said line (some (heard h.model h.settings ((h.shots + 1) % 2 ^ 64)))

-- a shot, which the decode answers so, with these bits
abbrev pub shot_said : Heard → ℕ → DecodeAnswer → List ℕ → Said
shot_said h offset (Ok (Decoded.Converged legs total stores weight)) bits = line_said h (unless_too_long bits (shot_line h.shots true total legs bits))
shot_said h offset (Ok (Decoded.NotConverged legs total stores)) bits = line_said h (unless_too_long bits (shot_line h.shots false total legs bits))
shot_said h offset (Err r) bits = cond (is_of_shot (number_of r)) (line_said h (refused_line h.shots (number_of r))) (ends_run offset r)

-- the decode of a shot over a model, both by their payloads, with the settings of a record
unfoldable pub decode_of : List ℕ → Rec → List ℕ → Decoding
decode_of model settings p = shot_decoded model (settings_of settings) p (lent_numbers room_mechanisms (mechanisms model))

-- a record past 41 to 45, by its kind
unfoldable pub payload_said : Heard → ℕ → ℕ → List ℕ → Said
payload_said h offset kind p =
    let d = decode_of (the_payload h.model) (the_record h.settings) p in
    cond (kind == 1) (model_said h offset p (model_fault p))
    (cond (is_settings kind) (settings_said h offset (rec kind p) (settings_answer kind p)) (shot_said h offset d.answer d.correction))

-- a record, which 41 to 45 answer so
abbrev pub judged_said : Heard → ℕ → ℕ → List ℕ → Answer → Said
judged_said h offset kind p (Ok _) = payload_said h offset kind p
judged_said h offset kind p (Err r) = ends_run offset r

-- a record at an offset
unfoldable pub record_said : Heard → ℕ → ℕ → List ℕ → Said
record_said h offset kind p = judged_said h offset kind p (judge (is_there h.model) (is_there h.settings) kind p)

-- ---- a stream

-- records from an offset on, until a refusal ends the run; then what is left over
unfoldable pub records_text : List Rec → ℕ → List ℕ → Option Heard → List ℕ
records_text [] offset rest none = []
records_text [] offset rest (some h) = last_text h.shots offset (left_over rest)
records_text (r ∷ rs) offset rest none = []
records_text (r ∷ rs) offset rest (some h) =
    let s = record_said h offset r.kind r.payload in
    s.text ++ records_text rs ((offset + (6 + length r.payload)) % 2 ^ 64) rest s.next
