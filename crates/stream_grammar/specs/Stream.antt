-- The record stream of docs/REFERENCE.md as a grammar of bytes: its numbers, a record, the fields of each payload, and refusals 40 to 45 in their order.
-- It says nothing of how a stream is read. A byte is a number below 256. Definitions only. Assumes nothing.
use Rattle.std.specs.Prelude.{ℕ, zero, suc, ◌+◌, ◌*◌, ◌/◌, ◌%◌, ◌<◌, Bool, cond, not, ◌&&◌, ◌||◌, List, [], ◌∷◌, ◌++◌, length, take, drop, ◌==◌, nat_le, slice_index}
use Rattle.numbers.specs.Limits.{room_checks, room_mechanisms, room_edges, room_legs, room_shot}
use Rattle.refusals.specs.declared.Refusal.TheVariants.{CutRecord, UnknownKind, PayloadLength, ShotTooEarly, BeyondRoom, BadSchedule}
use Rattle.refusals.specs.Refusal.{Answer}
use Rattle.refusals.specs.Tests.{unless, or_else}

-- all are bytes
abbrev pub AreBytes : List ℕ → Type 0
AreBytes xs = (i : ℕ) → slice_index xs i < 256

-- ---- numbers, all little-endian

-- the number that bytes stand for
unfoldable pub number : List ℕ → ℕ
number [] = 0
number (b ∷ bs) = b + 256 * number bs

-- the n bytes of a number
unfoldable pub bytes_of : ℕ → ℕ → List ℕ
bytes_of zero k = []
bytes_of (suc n) k = k % 256 ∷ bytes_of n (k / 256)

-- the number in the n bytes from a place on
unfoldable pub number_at : ℕ → ℕ → List ℕ → ℕ
number_at n at xs = number (take n (drop at xs))

-- ---- a record: u32 payload length, u16 kind, payload

-- the bytes of a record
unfoldable pub encode : ℕ → List ℕ → List ℕ
encode kind payload = bytes_of 4 (length payload) ++ (bytes_of 2 kind ++ payload)

-- a record
pub record Rec : Type 0 where
  pub kind : ℕ
  pub payload : List ℕ

abbrev pub rec : ℕ → List ℕ → Rec
rec kind payload = record { kind = kind; payload = payload }

-- a record that a stream can hold: a head can say its kind and its length, and its payload is bytes
pub record Sayable (r : Rec) : Type 0 where
  pub kind : r.kind < 65536
  pub size : length r.payload < 4294967296
  pub bytes : AreBytes r.payload

-- each of some records
pub data AllSayable : List Rec → Type 0 where
  none : AllSayable []
  more : {r : Rec} {rs : List Rec} → Sayable r → AllSayable rs → AllSayable (r ∷ rs)

-- the bytes of records, one after the other
unfoldable pub stream : List Rec → List ℕ
stream [] = []
stream (r ∷ rs) = encode r.kind r.payload ++ stream rs

-- the payload length that the head says
unfoldable pub length_said : List ℕ → ℕ
length_said xs = number_at 4 0 xs

-- the kind that the head says
unfoldable pub kind_said : List ℕ → ℕ
kind_said xs = number_at 2 4 xs

-- bytes begin with a whole record: a head, and a payload to its end
unfoldable pub is_complete : List ℕ → Bool
is_complete xs = nat_le (6 + length_said xs) (length xs)

-- ---- the payload of a model: u32 checks, mechanisms, edges; per mechanism f64 prior, u32 degree; then all the u32 detectors

unfoldable pub checks : List ℕ → ℕ
checks p = number_at 4 0 p

unfoldable pub mechanisms : List ℕ → ℕ
mechanisms p = number_at 4 4 p

unfoldable pub edges : List ℕ → ℕ
edges p = number_at 4 8 p

-- the bits of the mechanism m's prior
unfoldable pub prior_bits : List ℕ → ℕ → ℕ
prior_bits p m = number_at 8 (12 + 12 * m) p

-- how many detectors the mechanism m has
unfoldable pub degree : List ℕ → ℕ → ℕ
degree p m = number_at 4 (20 + 12 * m) p

-- how many the first n mechanisms have
unfoldable pub degrees : ℕ → List ℕ → ℕ
degrees zero p = 0
degrees (suc n) p = degrees n p + degree p n

-- the i-th of all the detectors, behind n mechanisms
unfoldable pub detector : ℕ → List ℕ → ℕ → ℕ
detector n p i = number_at 4 (12 + 12 * n + 4 * i) p

-- ---- the payload of settings: u8 schedule, f64 alpha, gamma0, u32 pre, legs, leg iterations, f64 low, high, u32 stop

unfoldable pub schedule_byte : List ℕ → ℕ
schedule_byte p = slice_index p 0

unfoldable pub alpha_bits : List ℕ → ℕ
alpha_bits p = number_at 8 1 p

unfoldable pub gamma0_bits : List ℕ → ℕ
gamma0_bits p = number_at 8 9 p

unfoldable pub pre_iterations : List ℕ → ℕ
pre_iterations p = number_at 4 17 p

unfoldable pub legs : List ℕ → ℕ
legs p = number_at 4 21 p

unfoldable pub leg_iterations : List ℕ → ℕ
leg_iterations p = number_at 4 25 p

unfoldable pub low_bits : List ℕ → ℕ
low_bits p = number_at 8 29 p

unfoldable pub high_bits : List ℕ → ℕ
high_bits p = number_at 8 37 p

unfoldable pub stop : List ℕ → ℕ
stop p = number_at 4 45 p

-- ---- the payload of a shot: u64 seed, syndrome bytes

unfoldable pub seed : List ℕ → ℕ
seed p = number_at 8 0 p

unfoldable pub syndrome : List ℕ → List ℕ
syndrome p = drop 8 p

-- ---- 40 to 45, in this order. Kind 1 is a model, 2 and 4 are settings, 3 a shot

-- settings: 2 and 4 have the same bytes, and differ in the draw that they mean (`Fields`: `rule_read`)
unfoldable pub is_settings : ℕ → Bool
is_settings kind = kind == 2 || kind == 4

-- 41: the kind is known
unfoldable pub kind_good : ℕ → Bool
kind_good kind = nat_le 1 kind && nat_le kind 4

-- a model's payload is as long as its counts say, exactly
unfoldable pub counts_fit : ℕ → ℕ → ℕ → Bool
counts_fit size mechanisms edges = size == 12 + (12 * mechanisms + 4 * edges)

-- 42: the payload length is right for the kind. Size is the payload's, and sum that of the degrees
unfoldable pub length_good : ℕ → ℕ → ℕ → ℕ → ℕ → Bool
length_good kind size mechanisms edges sum =
    cond (kind == 1) (nat_le 12 size && (counts_fit size mechanisms edges && sum == edges)) (cond (is_settings kind) (size == 49) (nat_le 8 size))

-- 43: no shot before model or settings
unfoldable pub time_good : ℕ → Bool → Bool → Bool
time_good kind hasModel hasSettings = not (kind == 3) || (hasModel && hasSettings)

-- the room for a model: 128 checks, 256 mechanisms, 512 edges
abbrev pub counts_within : ℕ → ℕ → ℕ → Bool
counts_within checks mechanisms edges = nat_le checks room_checks && (nat_le mechanisms room_mechanisms && nat_le edges room_edges)

-- 44: within the room for a model, of 16 relayed legs, of 136 bytes for a shot
unfoldable pub room_good : ℕ → ℕ → ℕ → ℕ → ℕ → ℕ → Bool
room_good kind size checks mechanisms edges legs =
    cond (kind == 1) (counts_within checks mechanisms edges) (cond (is_settings kind) (nat_le legs room_legs) (nat_le size room_shot))

-- 45: the schedule byte of settings
unfoldable pub schedule_good : ℕ → ℕ → Bool
schedule_good kind schedule = not (is_settings kind) || nat_le schedule 1

-- what a record says of itself, as far as 41 to 45 look: size is its payload's, and degrees their sum
pub record Claims : Type 0 where
  pub kind : ℕ
  pub size : ℕ
  pub checks : ℕ
  pub mechanisms : ℕ
  pub edges : ℕ
  pub degrees : ℕ
  pub legs : ℕ
  pub schedule : ℕ

abbrev pub claims : ℕ → ℕ → ℕ → ℕ → ℕ → ℕ → ℕ → ℕ → Claims
claims kind size checks mechanisms edges degrees legs schedule =
    record {
      kind = kind;
      size = size;
      checks = checks;
      mechanisms = mechanisms;
      edges = edges;
      degrees = degrees;
      legs = legs;
      schedule = schedule;
    }

-- 41 to 45, one after the other
unfoldable pub tested : Bool → Bool → Claims → Answer
tested hasModel hasSettings x =
    or_else (unless (kind_good x.kind) UnknownKind)
    (or_else (unless (length_good x.kind x.size x.mechanisms x.edges x.degrees) PayloadLength)
    (or_else (unless (time_good x.kind hasModel hasSettings) ShotTooEarly)
    (or_else (unless (room_good x.kind x.size x.checks x.mechanisms x.edges x.legs) BeyondRoom)
    (unless (schedule_good x.kind x.schedule) BadSchedule))))

-- what a whole record says
abbrev pub claims_of : ℕ → List ℕ → Claims
claims_of kind p = claims kind (length p) (checks p) (mechanisms p) (edges p) (degrees (mechanisms p) p) (legs p) (schedule_byte p)

-- 41 to 45 of it
unfoldable pub judge : Bool → Bool → ℕ → List ℕ → Answer
judge hasModel hasSettings kind p = tested hasModel hasSettings (claims_of kind p)

-- 40: bytes that are left over, from 1 on, are a cut record
unfoldable pub left_over : List ℕ → Answer
left_over xs = unless (length xs == 0) CutRecord

-- the refusals that a shot's line has, 20, 21, 27 and 30; any other ends the run
unfoldable pub is_of_shot : ℕ → Bool
is_of_shot code = code == 20 || (code == 21 || (code == 27 || code == 30))
