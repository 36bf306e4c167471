-- The payloads as they are encoded, field after field. What is encoded so is read back (`stream_laws` `Theorems`). Definitions only. Assumes nothing.
use Rattle.std.specs.Prelude.{ℕ, List, [], ◌∷◌, ◌++◌, length}
use Rattle.stream_grammar.specs.Stream.{bytes_of}

-- ---- a shot: its seed, and the syndrome's bytes

unfoldable pub encode_shot : ℕ → List ℕ → List ℕ
encode_shot seed syndrome = bytes_of 8 seed ++ syndrome

-- ---- settings

-- the fields in their order, floats by their bits
pub record SettingsFields : Type 0 where
  pub schedule : ℕ
  pub alpha : ℕ
  pub gamma0 : ℕ
  pub pre_iterations : ℕ
  pub legs : ℕ
  pub leg_iterations : ℕ
  pub low : ℕ
  pub high : ℕ
  pub stop : ℕ

-- one after the other, 49 bytes
unfoldable pub encode_settings : SettingsFields → List ℕ
encode_settings s =
    s.schedule ∷ (bytes_of 8 s.alpha
    ++ (bytes_of 8 s.gamma0
    ++ (bytes_of 4 s.pre_iterations
    ++ (bytes_of 4 s.legs ++ (bytes_of 4 s.leg_iterations ++ (bytes_of 8 s.low ++ (bytes_of 8 s.high ++ bytes_of 4 s.stop)))))))

-- ---- a model

-- a mechanism: the bits of its prior, and its degree
pub record Mechanism : Type 0 where
  pub prior : ℕ
  pub degree : ℕ

-- all mechanisms, each with its prior and its degree
unfoldable pub encode_mechanisms : List Mechanism → List ℕ
encode_mechanisms [] = []
encode_mechanisms (m ∷ ms) = (bytes_of 8 m.prior ++ bytes_of 4 m.degree) ++ encode_mechanisms ms

-- the detectors of all mechanisms
unfoldable pub encode_detectors : List ℕ → List ℕ
encode_detectors [] = []
encode_detectors (d ∷ ds) = bytes_of 4 d ++ encode_detectors ds

-- the three counts, then the mechanisms and the detectors
unfoldable pub encode_model : ℕ → List Mechanism → List ℕ → List ℕ
encode_model checks ms ds =
    (bytes_of 4 checks ++ (bytes_of 4 (length ms) ++ bytes_of 4 (length ds))) ++ (encode_mechanisms ms ++ encode_detectors ds)
