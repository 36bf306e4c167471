-- A good model, settings and shots, encoded: the bytes are bytes, 41 to 45 let each through, and the degrees are those encoded. Assumes nothing.
use Prim.Native.Nat.{ℕ, zero, suc, ◌+◌, ◌*◌, ◌^◌, ◌<◌, ◌≤◌}
use mathlib.Core.Path.{◌≡◌, refl, sym, ap, ◌∙◌}
use mathlib.Core.Bool.{Bool, true}
use mathlib.Core.List.{List, [], ◌∷◌, ◌++◌, map}
use mathlib.Core.Logic.{⊎_elim}
use native.Mathlib.Omega.{arith}
use lib.ListN.{length, get_or, take, length-append}
use lib.Seq.{take-suc, take-length}
use borrow.Author.Tests.{le-leb, eq-eqb}
use Rattle.std.specs.Prelude.{Ok}
use Rattle.refusals.specs.Tests.{unless, or_else}
use Rattle.stream_grammar.specs.Stream.{AreBytes, bytes_of, Rec, rec, Sayable, AllSayable, none, more, checks, mechanisms, edges, degree, degrees, legs, schedule_byte, is_settings, kind_good, counts_fit, length_good, time_good, room_good, schedule_good, tested, judge}
use Rattle.stream_grammar.specs.Payloads.{encode_shot, SettingsFields, encode_settings, Mechanism, encode_mechanisms, encode_detectors, encode_model}
use Rattle.stream_grammar.proofs.Bytes.{bytes_append}
use Rattle.stream_laws.proofs.Accepted.{settings_kind, ModelWithin}
use Rattle.stream_laws.proofs.Encoding.{length_bytes_of, bytes_bytes_of}
use Rattle.stream_laws.proofs.ReadBack.{no_mechanism, SettingsFit, settings_read_lem, ModelFit, ModelRead, model_read_lem}

-- ---- what 41 to 45 let through

module _ (hasModel hasSettings : Bool) (p : List ℕ) where
  -- a model within the room, as long as its counts say, whose degrees add up to its edges
  pub model_good_lem : ModelWithin (length p) (checks p) (mechanisms p) (edges p) (degrees (mechanisms p) p) → judge hasModel hasSettings 1 p ≡ Ok tt
  unfolding judge tested is_settings kind_good length_good counts_fit time_good room_good schedule_good or_else unless
  model_good_lem w =
      rw (
        le-leb 12 (length p) (omega (arith, w.size_fits)),
        eq-eqb (length p) (12 + (12 * mechanisms p + 4 * edges p)) w.size_fits,
        eq-eqb (degrees (mechanisms p) p) (edges p) w.sum_fits,
        le-leb (checks p) 128 w.checks_fit,
        le-leb (mechanisms p) 256 w.mechanisms_fit,
        le-leb (edges p) 512 w.edges_fit,
      )

  -- settings of either kind and 49 bytes, with at most 16 relayed legs and a schedule that there is
  pub settings_good_lem : (kind : ℕ) → is_settings kind ≡ true → length p ≡ 49 → legs p ≤ 16 → schedule_byte p ≤ 1 → judge hasModel hasSettings kind p ≡ Ok tt
  unfolding judge tested is_settings kind_good length_good time_good room_good schedule_good or_else unless
  settings_good_lem kind h l k s =
      ⊎_elim
      (λ (e : kind ≡ 2). rw (e, eq-eqb (length p) 49 l, le-leb (legs p) 16 k, le-leb (schedule_byte p) 1 s))
      (λ (e : kind ≡ 4). rw (e, eq-eqb (length p) 49 l, le-leb (legs p) 16 k, le-leb (schedule_byte p) 1 s))
      (settings_kind kind h)

-- a shot with a seed and at most 128 bytes of a syndrome, behind a model and settings
pub shot_good : (p : List ℕ) → 8 ≤ length p → length p ≤ 136 → judge true true 3 p ≡ Ok tt
unfolding judge tested is_settings kind_good length_good time_good room_good schedule_good or_else unless
shot_good p l k = rw (le-leb 8 (length p) l, le-leb (length p) 136 k)

-- ---- a model

-- the sum of all degrees
abbrev pub degrees_in : List Mechanism → ℕ
degrees_in [] = 0
degrees_in (m ∷ ms) = m.degree + degrees_in ms

-- what a stream can say of a model within the room: floats by their bits
pub record GoodModel (c : ℕ) (ms : List Mechanism) (ds : List ℕ) : Type 0 where
  pub checks_fit : c ≤ 128
  pub mechanisms_fit : length ms ≤ 256
  pub edges_fit : length ds ≤ 512
  pub sum_fits : degrees_in ms ≡ length ds
  pub priors : (m : ℕ) → m < length ms → (get_or ms m no_mechanism).prior < 2 ^ 64
  pub detectors : (i : ℕ) → i < length ds → get_or ds i 0 < 2 ^ 32

-- no degree is above the sum
degree_least : (ms : List Mechanism) (m : ℕ) → m < length ms → (get_or ms m no_mechanism).degree ≤ degrees_in ms
degree_least [] m h = absurd (omega arith)
degree_least (x ∷ ms) zero h = omega arith
degree_least (x ∷ ms) (suc m) h = omega (arith, degree_least ms m (omega arith))

-- one mechanism more
degrees_last : (ms : List Mechanism) (m : Mechanism) → degrees_in (ms ++ (m ∷ [])) ≡ degrees_in ms + m.degree
degrees_last [] m = omega arith
degrees_last (x ∷ ms) m = omega (arith, degrees_last ms m)

module _ (c : ℕ) (ms : List Mechanism) (ds : List ℕ) (good : GoodModel c ms ds) where
  -- each number fits its bytes
  pub model_fits : ModelFit c ms ds
  model_fits =
      record {
        checks = omega (arith, good.checks_fit);
        mechanisms = omega (arith, good.mechanisms_fit);
        edges = omega (arith, good.edges_fit);
        priors = good.priors;
        degrees = λ m h. omega (arith, degree_least ms m h, good.sum_fits, good.edges_fit);
        detectors = good.detectors;
      }

  abbrev back : ModelRead c ms ds (encode_model c ms ds)
  back = model_read_lem c ms ds model_fits

  -- the degrees read are those encoded
  degrees_read : (n : ℕ) → n ≤ length ms → degrees n (encode_model c ms ds) ≡ degrees_in (take n ms)
  unfolding degrees
  degrees_read zero h = refl
  degrees_read (suc n) h =
      ap (λ k. k + degree (encode_model c ms ds) n) (degrees_read n (omega arith))
      ∙ ap (λ k. degrees_in (take n ms) + k) (back.degrees n h)
      ∙ sym (degrees_last (take n ms) (get_or ms n no_mechanism))
      ∙ ap degrees_in (sym (take-suc ms n no_mechanism h))

  -- so 41 to 45 let it through
  pub model_judged : (hasModel hasSettings : Bool) → judge hasModel hasSettings 1 (encode_model c ms ds) ≡ Ok tt
  model_judged hasModel hasSettings =
      let p = encode_model c ms ds in
      let n : mechanisms p ≡ length ms = back.mechanisms in
      let sum : degrees (mechanisms p) p ≡ length ds =
      ap (λ k. degrees k p) n ∙ degrees_read (length ms) (omega arith) ∙ ap degrees_in (take-length ms) ∙ good.sum_fits in
      model_good_lem hasModel hasSettings p
      (record {
        checks_fit = omega (arith, back.checks, good.checks_fit);
        mechanisms_fit = omega (arith, n, good.mechanisms_fit);
        edges_fit = omega (arith, back.edges, good.edges_fit);
        size_fits = omega (arith, back.size, n, back.edges);
        sum_fits = sum ∙ sym back.edges;
      })

-- its bytes
bytes_mechanisms : (ms : List Mechanism) → AreBytes (encode_mechanisms ms)
unfolding encode_mechanisms
bytes_mechanisms [] i = omega arith
bytes_mechanisms (m ∷ ms) i =
    bytes_append (bytes_of 8 m.prior ++ bytes_of 4 m.degree) (encode_mechanisms ms)
    (bytes_append (bytes_of 8 m.prior) (bytes_of 4 m.degree) (bytes_bytes_of 8 m.prior) (bytes_bytes_of 4 m.degree))
    (bytes_mechanisms ms)
    i

bytes_detectors : (ds : List ℕ) → AreBytes (encode_detectors ds)
unfolding encode_detectors
bytes_detectors [] i = omega arith
bytes_detectors (d ∷ ds) i = bytes_append (bytes_of 4 d) (encode_detectors ds) (bytes_bytes_of 4 d) (bytes_detectors ds) i

pub bytes_model : (c : ℕ) (ms : List Mechanism) (ds : List ℕ) → AreBytes (encode_model c ms ds)
unfolding encode_model
bytes_model c ms ds =
    let a = bytes_of 4 c in
    let b = bytes_of 4 (length ms) in
    let d = bytes_of 4 (length ds) in
    bytes_append (a ++ (b ++ d)) (encode_mechanisms ms ++ encode_detectors ds)
    (bytes_append a (b ++ d) (bytes_bytes_of 4 c) (bytes_append b d (bytes_bytes_of 4 (length ms)) (bytes_bytes_of 4 (length ds))))
    (bytes_append (encode_mechanisms ms) (encode_detectors ds) (bytes_mechanisms ms) (bytes_detectors ds))

-- ---- settings

-- what a stream can say of settings within the room
pub record GoodSettings (s : SettingsFields) : Type 0 where
  pub fit : SettingsFit s
  pub legs_fit : s.legs ≤ 16
  pub schedule_fits : s.schedule ≤ 1

-- 41 to 45 let them through
pub settings_judged : (kind : ℕ) (s : SettingsFields) → is_settings kind ≡ true → GoodSettings s → (hasModel hasSettings : Bool)
    → judge hasModel hasSettings kind (encode_settings s) ≡ Ok tt
settings_judged kind s h good hasModel hasSettings =
    let b = settings_read_lem s good.fit in
    settings_good_lem hasModel hasSettings (encode_settings s) kind h b.size (omega (arith, b.legs, good.legs_fit)) (omega (arith, b.schedule, good.schedule_fits))

-- a byte, and bytes behind it
bytes_first : (x : ℕ) (xs : List ℕ) → x < 256 → AreBytes xs → AreBytes (x ∷ xs)
bytes_first x xs h f zero = h
bytes_first x xs h f (suc i) = f i

-- a number's bytes, and bytes behind them
bytes_behind : (n k : ℕ) (ys : List ℕ) → AreBytes ys → AreBytes (bytes_of n k ++ ys)
bytes_behind n k ys f = bytes_append (bytes_of n k) ys (bytes_bytes_of n k) f

pub bytes_settings : (s : SettingsFields) → s.schedule ≤ 1 → AreBytes (encode_settings s)
unfolding encode_settings
bytes_settings s h =
    let a = bytes_of 4 s.stop in
    let b = bytes_of 8 s.high ++ a in
    let c = bytes_of 8 s.low ++ b in
    let d = bytes_of 4 s.leg_iterations ++ c in
    let e = bytes_of 4 s.legs ++ d in
    let f = bytes_of 4 s.pre_iterations ++ e in
    let g = bytes_of 8 s.gamma0 ++ f in
    bytes_first s.schedule (bytes_of 8 s.alpha ++ g) (omega arith)
    (bytes_behind 8 s.alpha g
    (bytes_behind 8 s.gamma0 f
    (bytes_behind 4 s.pre_iterations e
    (bytes_behind 4 s.legs d
    (bytes_behind 4 s.leg_iterations c (bytes_behind 8 s.low b (bytes_behind 8 s.high a (bytes_bytes_of 4 s.stop))))))))

-- ---- shots

-- a shot: its seed, and the bytes of its syndrome
pub record ShotFields : Type 0 where
  pub seed : ℕ
  pub syndrome : List ℕ

-- no shot
abbrev pub no_shot : ShotFields
no_shot = record { seed = 0; syndrome = [] }

-- what a stream can say of a shot within the room
pub record GoodShot (x : ShotFields) : Type 0 where
  pub seed_fits : x.seed < 2 ^ 64
  pub syndrome_fits : length x.syndrome ≤ 128
  pub bytes : AreBytes x.syndrome

-- its payload
abbrev pub shot_payload : ShotFields → List ℕ
shot_payload x = encode_shot x.seed x.syndrome

-- how long it is
length_shot : (x : ShotFields) → length (shot_payload x) ≡ 8 + length x.syndrome
unfolding encode_shot
length_shot x = length-append (bytes_of 8 x.seed) x.syndrome ∙ ap (λ n. n + length x.syndrome) (length_bytes_of 8 x.seed)

-- 41 to 45 let it through
pub shot_judged : (x : ShotFields) → GoodShot x → judge true true 3 (shot_payload x) ≡ Ok tt
shot_judged x good = shot_good (shot_payload x) (omega (arith, length_shot x)) (omega (arith, length_shot x, good.syndrome_fits))

-- ---- records that a stream can hold

-- the records of a model, of settings of a kind and of shots
abbrev pub model_record : ℕ → List Mechanism → List ℕ → Rec
model_record c ms ds = rec 1 (encode_model c ms ds)

abbrev pub settings_record : ℕ → SettingsFields → Rec
settings_record kind s = rec kind (encode_settings s)

abbrev pub shot_record : ShotFields → Rec
shot_record x = rec 3 (shot_payload x)

-- all of them, the model first
abbrev pub all_records : ℕ → List Mechanism → List ℕ → ℕ → SettingsFields → List ShotFields → List Rec
all_records c ms ds kind s xs = model_record c ms ds ∷ (settings_record kind s ∷ map shot_record xs)

model_sayable : (c : ℕ) (ms : List Mechanism) (ds : List ℕ) → GoodModel c ms ds → Sayable (model_record c ms ds)
model_sayable c ms ds good =
    record {
      kind = omega arith;
      size = omega (arith, (model_read_lem c ms ds (model_fits c ms ds good)).size, good.mechanisms_fit, good.edges_fit);
      bytes = bytes_model c ms ds;
    }

settings_sayable : (kind : ℕ) (s : SettingsFields) → is_settings kind ≡ true → GoodSettings s → Sayable (settings_record kind s)
settings_sayable kind s h good =
    record { kind = ⊎_elim (λ (e : kind ≡ 2). omega arith) (λ (e : kind ≡ 4). omega arith) (settings_kind kind h); size = omega (arith, (settings_read_lem s good.fit).size); bytes = bytes_settings s good.schedule_fits }

shot_sayable : (x : ShotFields) → GoodShot x → Sayable (shot_record x)
unfolding encode_shot
shot_sayable x good =
    record {
      kind = omega arith;
      size = omega (arith, length_shot x, good.syndrome_fits);
      bytes = bytes_behind 8 x.seed x.syndrome good.bytes;
    }

shots_sayable : (xs : List ShotFields) → ((i : ℕ) → i < length xs → GoodShot (get_or xs i no_shot)) → AllSayable (map shot_record xs)
shots_sayable [] f = none
shots_sayable (x ∷ xs) f = more (shot_sayable x (f 0 (omega arith))) (shots_sayable xs (λ i h. f (suc i) (omega arith)))

pub all_sayable : (c : ℕ) (ms : List Mechanism) (ds : List ℕ) (kind : ℕ) (s : SettingsFields) (xs : List ShotFields) → GoodModel c ms ds → is_settings kind ≡ true
    → GoodSettings s → ((i : ℕ) → i < length xs → GoodShot (get_or xs i no_shot)) → AllSayable (all_records c ms ds kind s xs)
all_sayable c ms ds kind s xs m h t f = more (model_sayable c ms ds m) (more (settings_sayable kind s h t) (shots_sayable xs f))
