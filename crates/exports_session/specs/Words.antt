-- How a session of `shots` passes through the C calling convention: as words and floats in lists of fixed length. Definitions only. Assumes nothing.
use Rattle.std.specs.Prelude.{ℕ, Bool, not, List, [], ◌∷◌, eqb, Float, get_or}
use Rattle.std.specs.Float.{nan}
use Rattle.relay_settings.specs.declared.GammaSource.{GammaSource}
use Rattle.relay_settings.specs.declared.GammaSource.TheVariants.{Explicit, Seeded}
use Rattle.stream_reader.specs.declared.Reader.{Reader}
use Rattle.stream_session.specs.declared.Session.{Session}
use Rattle.stream_session.specs.Shots.{known, session}
use Rattle.exports_values.specs.Codes.{bit_of, byte_of, clip_byte, source_byte, settings_given, floats_in}

-- ---- a session: the reader's eight words; the model's length, whether there is a model, whether there are settings, the next shot, whether the run has ended, how
-- long the line is; then the settings' schedule, counts, source with its sets and whether their clip is on. Their floats stand beside them. A word that is not 0 is true

-- a word as a bool
abbrev pub is_set : ℕ → Bool
is_set word = not (eqb word 0)

-- how many sets a source has, as a word
abbrev pub sets_word : GammaSource → ℕ
sets_word (Seeded rule) = 0
sets_word (Explicit sets) = sets

-- a reader out of the first eight words, in the order of its fields
abbrev pub reader_of : List ℕ → Reader
reader_of w =
    record {
      offset = get_or w 0 0;
      taken = get_or w 1 0;
      length = get_or w 2 0;
      kind = get_or w 3 0;
      checks = get_or w 4 0;
      mechanisms = get_or w 5 0;
      edges = get_or w 6 0;
      degrees = get_or w 7 0;
    }

-- a session out of its words and its settings' floats
abbrev pub session_of : List ℕ → List Float → Session
session_of w f =
    let settings = settings_given (get_or w 14 0) (get_or f 0 nan) (get_or w 21 0) (get_or f 4 nan) (get_or f 1 nan) (get_or w 15 0) (get_or w 16 0) (get_or w 17 0) (get_or f 2 nan) (get_or f 3 nan) (get_or w 18 0) (get_or w 19 0) (get_or w 20 0) in
    session (reader_of w) (known (get_or w 8 0) (is_set (get_or w 9 0)) settings (is_set (get_or w 10 0))) (get_or w 11 0) (is_set (get_or w 12 0)) (get_or w 13 0)

-- a session's words
abbrev pub session_words : Session → List ℕ
session_words s =
    let r = s.reader in
    let k = s.known in
    let t = k.settings in
    r.offset ∷ (r.taken ∷ (r.length ∷ (r.kind ∷ (r.checks ∷ (r.mechanisms ∷ (r.edges ∷ (r.degrees ∷ (
    k.model_length ∷ (bit_of k.has_model ∷ (bit_of k.has_settings ∷ (s.shots ∷ (bit_of s.stopped ∷ (s.said ∷ (
    byte_of t.schedule ∷ (t.pre_iterations ∷ (t.num_legs ∷ (t.leg_iterations ∷ (t.stop_after_converged ∷ (source_byte t.gamma_source ∷ (sets_word t.gamma_source ∷ (clip_byte t.clip ∷ [])))))))))))))))))))))

-- the floats of its settings
abbrev pub session_floats : Session → List Float
session_floats s = floats_in s.known.settings
