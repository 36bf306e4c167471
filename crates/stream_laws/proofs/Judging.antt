-- A record that has been read to its end is judged as the grammar judges it: what is kept answers where the test looks at it. Assumes nothing.
use mathlib.Core.Path.{◌≡◌, refl}
use mathlib.Core.Bool.{Bool, true, false}
use mathlib.Core.List.{List}
use mathlib.Core.Logic.{⊎_elim}
use Prim.Native.Nat.{ℕ, ◌+◌, ◌≤◌}
use native.Mathlib.Omega.{arith}
use lib.ListN.{length, drop, length-drop}
use borrow.Author.Tests.{ne_eqb}
use Rattle.numbers.proofs.Cases.{equal_or_not, either}
use Rattle.refusals.specs.Refusal.{Answer}
use Rattle.refusals.specs.declared.Refusal.TheVariants.{UnknownKind, PayloadLength}
use Rattle.refusals.specs.Tests.{unless, or_else}
use Rattle.stream_grammar.specs.Stream.{length_said, kind_said, checks, mechanisms, edges, degrees, legs, schedule_byte, is_settings, kind_good, length_good, room_good, schedule_good, claims, tested, judge}
use Rattle.stream_reader.specs.Reading.{holding, payload_kept, verdict}
use Rattle.stream_laws.proofs.Accepted.{settings_no_model}
use Rattle.stream_laws.proofs.Kept.{kept_number, kept_byte}

-- 41, then a 42 that refuses: what comes after does not matter
refused_42 : (k : Bool) (a b : Answer) → or_else (unless k UnknownKind) (or_else (unless false PayloadLength) a) ≡ or_else (unless k UnknownKind) (or_else (unless false PayloadLength) b)
unfolding or_else unless
refused_42 true a b = refl
refused_42 false a b = refl

module _ (hasModel hasSettings : Bool) (kind : ℕ) (p room : List ℕ) (r : 49 ≤ length room) where
  -- 41 to 45 by what is kept
  abbrev by_kept : Answer
  by_kept =
      let q = payload_kept p room in
      tested hasModel hasSettings (claims kind (length p) (checks p) (mechanisms p) (edges p) (degrees (mechanisms p) p) (legs q) (schedule_byte q))

  -- a model or a shot: neither legs nor schedule are looked at
  others : is_settings kind ≡ false → by_kept ≡ judge hasModel hasSettings kind p
  unfolding judge tested room_good schedule_good
  others n = rw n

  -- settings of another length are refused before
  other_length : is_settings kind ≡ true → (length p ≡ 49 → ⊥) → by_kept ≡ judge hasModel hasSettings kind p
  unfolding judge tested length_good
  other_length e n = rw (settings_no_model kind e, e, ne_eqb (length p) 49 n) (refused_42 (kind_good kind) _ _)

  -- settings of 49 bytes are kept
  as_kept : length p ≡ 49 → by_kept ≡ judge hasModel hasSettings kind p
  unfolding judge legs schedule_byte
  as_kept e = rw (kept_number p room (omega arith) 4 21 (omega arith), kept_byte p room (omega arith) (omega arith))

  -- so what is kept answers as the payload does
  judged_kept : by_kept ≡ judge hasModel hasSettings kind p
  judged_kept =
      ⊎_elim
      (λ (e : is_settings kind ≡ true). ⊎_elim (λ (l : length p ≡ 49). as_kept l) (λ (n : length p ≡ 49 → ⊥). other_length e n) (equal_or_not (length p) 49))
      (λ (n : is_settings kind ≡ false). others n)
      (either (is_settings kind))

-- a whole record
pub judged : (hasModel hasSettings : Bool) (offset : ℕ) (xs room : List ℕ) → length xs ≡ 6 + length_said xs → 49 ≤ length room
    → verdict hasModel hasSettings (holding offset xs) (payload_kept (drop 6 xs) room) ≡ judge hasModel hasSettings (kind_said xs) (drop 6 xs)
unfolding verdict
judged hasModel hasSettings offset xs room e h =
    let l : length_said xs ≡ length (drop 6 xs) = omega (arith, length-drop 6 xs) in
    rw l (judged_kept hasModel hasSettings (kind_said xs) (drop 6 xs) room h)
