-- Records that are met are told as the grammar and the table say, and then the end. Assumes nothing.
use Prim.Native.Nat.{ℕ, ◌+◌, ◌%◌, ◌^◌, ◌≤◌}
use mathlib.Core.Path.{◌≡◌, refl, ap, ◌∙◌}
use mathlib.Core.Bool.{Bool, true, false, cond}
use mathlib.Core.List.{List, [], ◌∷◌, ◌++◌}
use native.Mathlib.Omega.{arith}
use lib.ListN.{length}
use Rattle.stream_reader.specs.declared.Reader.{Reader}
use Rattle.stream_grammar.specs.Stream.{Rec, AllSayable, more, left_over}
use Rattle.stream_reader.specs.Reading.{payload_kept, to_meet}
use Rattle.stream_laws.proofs.Whole.{length_kept}
use Rattle.stream_laws.proofs.Along.{end_of}
use Rattle.stream_laws.proofs.Theorems.{offset_after}
use Rattle.stream_session.specs.declared.Session.{Session}
use Rattle.stream_session.specs.Shots.{Taken, reads, last_text, end_text, text_of}
use Rattle.stream_session.proofs.Cases.{other}
use Rattle.stream_laws.proofs.Recorded.{record_kept, record_told}
use Rattle.stream_laws.proofs.Written.{met_text}

-- records from an offset on, with the lists that keep, until a refusal ends the run; then what is left over
unfoldable pub kept_text : List Rec → ℕ → List ℕ → Session → List ℕ → List ℕ → List ℕ
kept_text [] offset rest s model line = last_text s.shots offset (left_over rest)
kept_text (r ∷ rs) offset rest s model line =
    let t = record_kept s offset r model line in
    text_of t.now
    ++ cond t.now.session.stopped []
    (kept_text rs ((offset + (6 + length r.payload)) % 2 ^ 64) rest t.now.session t.model t.now.line)

-- two ways to go on that are the same where the run does go on
on : (b : Bool) (x y : List ℕ) → (b ≡ false → x ≡ y) → cond b [] x ≡ cond b [] y
on true x y f = refl
on false x y f = f refl

-- records that are met are told as the grammar and the table say
pub met_told : (rs : List Rec) (rest : List ℕ) (offset : ℕ) (room : List ℕ) (final : Reader) (s : Session) (model line : List ℕ)
    → AllSayable rs
    → 5132 ≤ length room
    → s.stopped ≡ false
    → ((n : ℕ) → end_of (last_text n) final ≡ last_text n (offset_after rs offset) (left_over rest))
    → met_text (to_meet rs offset room) final s model line ≡ kept_text rs offset rest s model line
unfolding met_text to_meet kept_text end_text reads
met_told [] rest offset room final s model line a l h e = other s.stopped _ _ h ∙ e s.shots
met_told (r ∷ rs) rest offset room final s model line (more a others) l h e =
    let o = (offset + (6 + length r.payload)) % 2 ^ 64 in
    let kept = payload_kept r.payload room in
    let t = record_kept s offset r model line in
    ap
    (λ (t : Taken). text_of t.now ++ cond t.now.session.stopped [] (met_text (to_meet rs o kept) final t.now.session t.model t.now.line))
    (record_told r a offset room l s model line)
    ∙ ap (λ (ys : List ℕ). text_of t.now ++ ys)
    (on t.now.session.stopped _ _
    (λ g. met_told rs rest o kept final t.now.session t.model t.now.line others (omega (arith, l, length_kept r.payload room)) g e))
