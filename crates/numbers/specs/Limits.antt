-- The limits, each said once: of the library, and of the room that `shots` has. The constants of src/limits.rt are these. Definitions only. Assumes nothing.
use Rattle.std.specs.Prelude.{ℕ}

-- ---- of the library

-- checks
abbrev pub max_checks : ℕ
max_checks = 65536

-- mechanisms
abbrev pub max_mechanisms : ℕ
max_mechanisms = 65536

-- edges
abbrev pub max_edges : ℕ
max_edges = 1048576

-- relayed legs, iterations of min-sum, of leg zero and of a relayed leg, and explicit sets of gammas, each
abbrev pub max_count : ℕ
max_count = 65535

-- ---- of the room that `shots` has

-- checks
abbrev pub room_checks : ℕ
room_checks = 128

-- mechanisms
abbrev pub room_mechanisms : ℕ
room_mechanisms = 256

-- edges
abbrev pub room_edges : ℕ
room_edges = 512

-- relayed legs
abbrev pub room_legs : ℕ
room_legs = 16

-- the bytes of a shot's payload: a seed, and a syndrome
abbrev pub room_shot : ℕ
room_shot = 136

-- the bytes of a model's payload, the longest within the room: 12 of counts, 12 a mechanism and 4 an edge
abbrev pub room_payload : ℕ
room_payload = 5132
