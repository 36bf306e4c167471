-- Payloads that are encoded are read back, field by field. Assumes nothing.
use mathlib.Core.Path.{◌≡◌, refl, ◌∙◌}
use mathlib.Core.List.{List, [], ◌∷◌, ◌++◌}
use Prim.Native.Nat.{ℕ, zero, suc, ◌+◌, ◌*◌, ◌^◌, ◌<◌}
use native.Mathlib.Omega.{arith}
use lib.ListN.{length, get_or, length-append}
use lib.Seq.{take_at, drop-append-add}
use Rattle.stream_grammar.specs.Stream.{bytes_of, number_at, seed, syndrome, checks, mechanisms, edges, prior_bits, degree, detector, schedule_byte, alpha_bits, gamma0_bits, pre_iterations, legs, leg_iterations, low_bits, high_bits, stop}
use Rattle.stream_grammar.specs.Payloads.{encode_shot, SettingsFields, encode_settings, Mechanism, encode_mechanisms, encode_detectors, encode_model}
use Rattle.stream_laws.proofs.Encoding.{length_bytes_of, number_bytes_of}

-- ---- where a field stands

-- at the front
here : (n k : ℕ) (rest : List ℕ) → k < 256 ^ n → number_at n 0 (bytes_of n k ++ rest) ≡ k
unfolding number_at
here n k rest h = rw (take_at (bytes_of n k) rest n (length_bytes_of n k)) (number_bytes_of n k h)

-- behind w bytes
behind : (n k w : ℕ) (a b : List ℕ) → length a ≡ w → number_at n (w + k) (a ++ b) ≡ number_at n k b
unfolding number_at
behind n k w a b e = rw (← e, drop-append-add a b k)

-- ---- a shot

pub shot_seed : (s : ℕ) (ys : List ℕ) → s < 2 ^ 64 → seed (encode_shot s ys) ≡ s
unfolding seed encode_shot
shot_seed s ys h = here 8 s ys h

pub shot_syndrome : (s : ℕ) (ys : List ℕ) → syndrome (encode_shot s ys) ≡ ys
unfolding syndrome encode_shot bytes_of
shot_syndrome s ys = refl

-- ---- settings

-- each number fits its bytes
pub record SettingsFit (s : SettingsFields) : Type 0 where
  pub alpha : s.alpha < 2 ^ 64
  pub gamma0 : s.gamma0 < 2 ^ 64
  pub pre_iterations : s.pre_iterations < 2 ^ 32
  pub legs : s.legs < 2 ^ 32
  pub leg_iterations : s.leg_iterations < 2 ^ 32
  pub low : s.low < 2 ^ 64
  pub high : s.high < 2 ^ 64
  pub stop : s.stop < 2 ^ 32

-- what is read of the encoded settings
pub record SettingsRead (s : SettingsFields) (p : List ℕ) : Type 0 where
  pub size : length p ≡ 49
  pub schedule : schedule_byte p ≡ s.schedule
  pub alpha : alpha_bits p ≡ s.alpha
  pub gamma0 : gamma0_bits p ≡ s.gamma0
  pub pre_iterations : pre_iterations p ≡ s.pre_iterations
  pub legs : legs p ≡ s.legs
  pub leg_iterations : leg_iterations p ≡ s.leg_iterations
  pub low : low_bits p ≡ s.low
  pub high : high_bits p ≡ s.high
  pub stop : stop p ≡ s.stop

pub settings_read_lem : (s : SettingsFields) → SettingsFit s → SettingsRead s (encode_settings s)
unfolding encode_settings bytes_of number_at schedule_byte alpha_bits gamma0_bits pre_iterations legs leg_iterations low_bits high_bits stop
settings_read_lem s f =
    record {
      size = refl;
      schedule = refl;
      alpha = number_bytes_of 8 s.alpha f.alpha;
      gamma0 = number_bytes_of 8 s.gamma0 f.gamma0;
      pre_iterations = number_bytes_of 4 s.pre_iterations f.pre_iterations;
      legs = number_bytes_of 4 s.legs f.legs;
      leg_iterations = number_bytes_of 4 s.leg_iterations f.leg_iterations;
      low = number_bytes_of 8 s.low f.low;
      high = number_bytes_of 8 s.high f.high;
      stop = number_bytes_of 4 s.stop f.stop;
    }

-- ---- a model

-- no mechanism
abbrev pub no_mechanism : Mechanism
no_mechanism = record { prior = 0; degree = 0 }

-- how long they are
length_mechanisms : (ms : List Mechanism) → length (encode_mechanisms ms) ≡ 12 * length ms
unfolding encode_mechanisms bytes_of
length_mechanisms [] = refl
length_mechanisms (m ∷ ms) = omega (arith, length_mechanisms ms)

-- how long they are
length_detectors : (ds : List ℕ) → length (encode_detectors ds) ≡ 4 * length ds
unfolding encode_detectors bytes_of
length_detectors [] = refl
length_detectors (d ∷ ds) = omega (arith, length_detectors ds)

-- the prior of the mechanism m
mechanism_prior : (ms : List Mechanism) (rest : List ℕ) (m : ℕ) → m < length ms → (get_or ms m no_mechanism).prior < 2 ^ 64
    → number_at 8 (12 * m) (encode_mechanisms ms ++ rest) ≡ (get_or ms m no_mechanism).prior
unfolding encode_mechanisms bytes_of number_at
mechanism_prior [] rest m h l = absurd (omega arith)
mechanism_prior (x ∷ ms) rest zero h l = number_bytes_of 8 x.prior l
mechanism_prior (x ∷ ms) rest (suc m) h l =
    let e : 12 * suc m ≡ 12 + 12 * m = omega arith in
    rw e (behind 8 (12 * m) 12 (bytes_of 8 x.prior ++ bytes_of 4 x.degree) (encode_mechanisms ms ++ rest) refl ∙ mechanism_prior ms rest m (omega arith) l)

-- and its degree
mechanism_degree : (ms : List Mechanism) (rest : List ℕ) (m : ℕ) → m < length ms → (get_or ms m no_mechanism).degree < 2 ^ 32
    → number_at 4 (8 + 12 * m) (encode_mechanisms ms ++ rest) ≡ (get_or ms m no_mechanism).degree
unfolding encode_mechanisms bytes_of number_at
mechanism_degree [] rest m h l = absurd (omega arith)
mechanism_degree (x ∷ ms) rest zero h l = number_bytes_of 4 x.degree l
mechanism_degree (x ∷ ms) rest (suc m) h l =
    let e : 8 + 12 * suc m ≡ 12 + (8 + 12 * m) = omega arith in
    rw e (behind 4 (8 + 12 * m) 12 (bytes_of 8 x.prior ++ bytes_of 4 x.degree) (encode_mechanisms ms ++ rest) refl ∙ mechanism_degree ms rest m (omega arith) l)

-- the i-th detector
detector_at : (ds : List ℕ) (i : ℕ) → i < length ds → get_or ds i 0 < 2 ^ 32 → number_at 4 (4 * i) (encode_detectors ds) ≡ get_or ds i 0
unfolding encode_detectors bytes_of number_at
detector_at [] i h l = absurd (omega arith)
detector_at (d ∷ ds) zero h l = number_bytes_of 4 d l
detector_at (d ∷ ds) (suc i) h l =
    let e : 4 * suc i ≡ 4 + 4 * i = omega arith in
    rw e (behind 4 (4 * i) 4 (bytes_of 4 d) (encode_detectors ds) refl ∙ detector_at ds i (omega arith) l)

-- each number fits its bytes
pub record ModelFit (c : ℕ) (ms : List Mechanism) (ds : List ℕ) : Type 0 where
  pub checks : c < 2 ^ 32
  pub mechanisms : length ms < 2 ^ 32
  pub edges : length ds < 2 ^ 32
  pub priors : (m : ℕ) → m < length ms → (get_or ms m no_mechanism).prior < 2 ^ 64
  pub degrees : (m : ℕ) → m < length ms → (get_or ms m no_mechanism).degree < 2 ^ 32
  pub detectors : (i : ℕ) → i < length ds → get_or ds i 0 < 2 ^ 32

-- what is read of the encoded model
pub record ModelRead (c : ℕ) (ms : List Mechanism) (ds : List ℕ) (p : List ℕ) : Type 0 where
  pub size : length p ≡ 12 + (12 * length ms + 4 * length ds)
  pub checks : checks p ≡ c
  pub mechanisms : mechanisms p ≡ length ms
  pub edges : edges p ≡ length ds
  pub priors : (m : ℕ) → m < length ms → prior_bits p m ≡ (get_or ms m no_mechanism).prior
  pub degrees : (m : ℕ) → m < length ms → degree p m ≡ (get_or ms m no_mechanism).degree
  pub detectors : (i : ℕ) → i < length ds → detector (length ms) p i ≡ get_or ds i 0

module _ (c : ℕ) (ms : List Mechanism) (ds : List ℕ) (f : ModelFit c ms ds) where
  abbrev head : List ℕ
  head = bytes_of 4 c ++ (bytes_of 4 (length ms) ++ bytes_of 4 (length ds))

  abbrev body : List ℕ
  body = encode_mechanisms ms ++ encode_detectors ds

  length_head : length head ≡ 12
  unfolding bytes_of
  length_head = refl

  prior_read : (m : ℕ) → m < length ms → prior_bits (encode_model c ms ds) m ≡ (get_or ms m no_mechanism).prior
  unfolding prior_bits encode_model
  prior_read m h = behind 8 (12 * m) 12 head body length_head ∙ mechanism_prior ms (encode_detectors ds) m h (f.priors m h)

  degree_read : (m : ℕ) → m < length ms → degree (encode_model c ms ds) m ≡ (get_or ms m no_mechanism).degree
  unfolding degree encode_model
  degree_read m h =
      let e : 20 + 12 * m ≡ 12 + (8 + 12 * m) = omega arith in
      rw e (behind 4 (8 + 12 * m) 12 head body length_head ∙ mechanism_degree ms (encode_detectors ds) m h (f.degrees m h))

  detector_read : (i : ℕ) → i < length ds → detector (length ms) (encode_model c ms ds) i ≡ get_or ds i 0
  unfolding detector encode_model
  detector_read i h =
      let e : 12 + 12 * length ms + 4 * i ≡ 12 + (12 * length ms + 4 * i) = omega arith in
      rw e
      (behind 4 (12 * length ms + 4 * i) 12 head body length_head
      ∙ behind 4 (4 * i) (12 * length ms) (encode_mechanisms ms) (encode_detectors ds) (length_mechanisms ms)
      ∙ detector_at ds i h (f.detectors i h))

  size_read : length (encode_model c ms ds) ≡ 12 + (12 * length ms + 4 * length ds)
  unfolding encode_model
  size_read =
      length-append head body
      ∙ omega (arith, length_head, length-append (encode_mechanisms ms) (encode_detectors ds), length_mechanisms ms, length_detectors ds)

  pub model_read_lem : ModelRead c ms ds (encode_model c ms ds)
  unfolding checks mechanisms edges encode_model bytes_of number_at
  model_read_lem =
      record {
        size = size_read;
        checks = number_bytes_of 4 c f.checks;
        mechanisms = number_bytes_of 4 (length ms) f.mechanisms;
        edges = number_bytes_of 4 (length ds) f.edges;
        priors = prior_read;
        degrees = degree_read;
        detectors = detector_read;
      }
