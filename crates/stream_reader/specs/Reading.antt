-- How a stream is read byte by byte: what a reader holds, one byte more, and a record judged by what the reader holds at its end. That this is what the grammar
-- says of the whole record is proved (`stream_laws` `Theorems`). Definitions only. Assumes nothing.
use Rattle.std.specs.Prelude.{ℕ, ◌+◌, ◌-◌, ◌*◌, ◌/◌, ◌%◌, ◌^◌, Bool, cond, ◌&&◌, List, [], ◌∷◌, ◌++◌, length, take, drop, ◌==◌, nat_le, nat_lt, slice_set}
use mathlib.Core.List.{foldl}
use Rattle.refusals.specs.declared.Refusal.TheVariants.{CutRecord}
use Rattle.refusals.specs.Refusal.{Answer}
use Rattle.refusals.specs.Tests.{unless}
use Rattle.stream_reader.specs.declared.Reader.{Reader}
use Rattle.stream_grammar.specs.Stream.{Rec, encode, length_said, kind_said, checks, mechanisms, edges, degrees, legs, schedule_byte, claims, tested}

-- a reader before the first byte of the record at an offset
abbrev pub fresh : ℕ → Reader
fresh offset = record { offset = offset; taken = 0; length = 0; kind = 0; checks = 0; mechanisms = 0; edges = 0; degrees = 0 }

-- what a reader holds after the bytes xs of a record: its offset and what they say so far
abbrev pub holding : ℕ → List ℕ → Reader
holding offset xs =
    let p = drop 6 xs in
    record {
      offset = offset;
      taken = length xs;
      length = length_said xs;
      kind = kind_said xs;
      checks = checks p;
      mechanisms = mechanisms p;
      edges = edges p;
      degrees = degrees (mechanisms p) p;
    }

-- a number of `size` bytes from place `from` on, after the byte b at place `at`
unfoldable pub grown : ℕ → ℕ → ℕ → ℕ → ℕ → ℕ
grown value from size at b = cond (nat_le from at && nat_lt at (from + size)) ((value + b * 256 ^ (at - from)) % 2 ^ 64) value

-- the sum of degrees after a byte: mechanism by mechanism, the last 4 of 12 bytes
unfoldable pub summed : ℕ → ℕ → ℕ → ℕ → ℕ
summed sum mechanisms at b = cond (nat_le 18 at && nat_lt ((at - 18) / 12) mechanisms) (grown sum 8 4 ((at - 18) % 12) b) sum

-- one byte more of the same record
unfoldable pub added : Reader → ℕ → Reader
added r b =
    record {
      offset = r.offset;
      taken = (r.taken + 1) % 2 ^ 64;
      length = grown r.length 0 4 r.taken b;
      kind = grown r.kind 4 2 r.taken b;
      checks = grown r.checks 6 4 r.taken b;
      mechanisms = grown r.mechanisms 10 4 r.taken b;
      edges = grown r.edges 14 4 r.taken b;
      degrees = summed r.degrees r.mechanisms r.taken b;
    }

-- the record has been read to its end
unfoldable pub is_whole : Reader → Bool
is_whole r = r.taken == 6 + r.length

-- a reader that takes the next byte: past a whole record the next one begins
unfoldable pub opened : Reader → Reader
opened r = cond (is_whole r) (fresh ((r.offset + r.taken) % 2 ^ 64)) r

-- what is kept, after the byte b at place `at` of the record: a byte of the head isn't kept, nor one that finds no room
unfoldable pub byte_kept : ℕ → ℕ → List ℕ → List ℕ
byte_kept at b kept = cond (nat_le 6 at) (slice_set kept (at - 6) b) kept

-- what is kept of a payload in a list that held `room`: its bytes as far as there is room
unfoldable pub payload_kept : List ℕ → List ℕ → List ℕ
payload_kept p room = take (length room) p ++ drop (length p) room

-- a reader, and what is kept of the payload
pub record Held : Type 0 where
  pub reader : Reader
  pub kept : List ℕ

abbrev pub held : Reader → List ℕ → Held
held r kept = record { reader = r; kept = kept }

-- one byte of the stream
unfoldable pub pushed : Held → ℕ → Held
pushed h b = let r = opened h.reader in held (added r b) (byte_kept r.taken b h.kept)

-- the bytes of a piece of the stream, one after the other
unfoldable pub fed : List ℕ → Held → Held
fed xs h = foldl pushed h xs

-- the whole records that a reader meets in a piece: what it holds and has kept at the end of each
unfoldable pub met : List ℕ → Held → List Held
met [] h = []
met (b ∷ bs) h = let now = pushed h b in cond (is_whole now.reader) (now ∷ met bs now) (met bs now)

-- what it has to meet: each record at its offset, one after the other
unfoldable pub to_meet : List Rec → ℕ → List ℕ → List Held
to_meet [] offset room = []
to_meet (r ∷ rs) offset room =
    let kept = payload_kept r.payload room in
    held (holding offset (encode r.kind r.payload)) kept ∷ to_meet rs ((offset + (6 + length r.payload)) % 2 ^ 64) kept

-- 41 to 45 of a record that has been read to its end
unfoldable pub verdict : Bool → Bool → Reader → List ℕ → Answer
verdict hasModel hasSettings r kept =
    tested hasModel hasSettings
    (claims r.kind r.length r.checks r.mechanisms r.edges r.degrees (legs kept) (schedule_byte kept))

-- at the end of the input: 40, unless it ends with a whole record or holds nothing
unfoldable pub at_end : Reader → Answer
at_end r = unless ((opened r).taken == 0) CutRecord
