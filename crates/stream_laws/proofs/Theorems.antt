-- What a reader of this crate may rely on: the grammar tells every stream apart into records and what is left over; the reader meets those records, at their
-- offsets, whatever the pieces, and judges each as the grammar does; and what is encoded is read back. Assumes nothing.
use mathlib.Core.Path.{◌≡◌, refl, sym, ap, ◌∙◌}
use mathlib.Core.Bool.{Bool, true, false, true≢false}
use mathlib.Core.List.{List, [], ◌∷◌, ◌++◌, foldl-append, append_assoc, append-nil}
use mathlib.Core.Logic.{⊎_elim}
use Prim.Native.Nat.{ℕ, zero, suc, ◌+◌, ◌-◌, ◌%◌, ◌^◌, ◌<◌, ◌≤◌}
use native.Mathlib.Nat.{mod-eq_of_lt}
use native.Mathlib.Omega.{arith}
use lib.Dec.{eqb, leb}
use lib.ListN.{length, get_or, take, drop, length-append, length-drop}
use lib.Seq.{length-take-le, take_at, drop_at}
use borrow.Author.Tests.{leb-true, leb-false, le-leb, eqb-true, ne_eqb}
use Rattle.numbers.proofs.Cases.{either, and_both}
use Rattle.stream_grammar.specs.Stream.{seed, syndrome, AreBytes, number, number_at, Rec, rec, Sayable, AllSayable, none, more, encode, stream, length_said, kind_said, is_complete, checks, mechanisms, edges, degrees, legs, is_settings, kind_good, length_good, time_good, room_good, schedule_good, claims_of, tested, judge, left_over, is_of_shot}
use Rattle.refusals.specs.Refusal.{Answer}
use Rattle.std.specs.Prelude.{Ok}
use Rattle.relay_settings.specs.declared.DrawRule.TheVariants.{ByShot, SeedXorLeg}
use Rattle.relay_settings.specs.declared.GammaSource.TheVariants.{Seeded}
use Rattle.relay_settings.specs.declared.Settings.{Settings}
use Rattle.stream_reader.specs.declared.Reader.{Reader}
use Rattle.stream_grammar.specs.declared.Counts.{Counts}
use Rattle.stream_grammar.specs.Fields.{offset, counts_read, ModelLists, model_read, rule_read, settings_read}
use Rattle.stream_reader.specs.Reading.{fresh, holding, is_whole, opened, payload_kept, Held, held, pushed, fed, met, to_meet, verdict, at_end}
use Rattle.stream_grammar.proofs.Bytes.{bytes_take, bytes_drop, number_bound}
use Rattle.stream_laws.proofs.Encoding.{encoded, length_said_lem, kind_said_lem, payload_said_lem, length_encode, complete_is}
use Rattle.stream_laws.proofs.Whole.{read_all}
use Rattle.stream_grammar.specs.Payloads.{encode_shot, SettingsFields, encode_settings, Mechanism, encode_model}
use Rattle.stream_laws.proofs.Judging.{judged}
use Rattle.stream_laws.proofs.ReadBack.{shot_seed, shot_syndrome, SettingsFit, SettingsRead, settings_read_lem, ModelFit, ModelRead, model_read_lem}
use Rattle.stream_laws.proofs.Streamed.{model_judged, model_fits, GoodModel, settings_judged, GoodSettings, ShotFields, no_shot, GoodShot, shot_payload, shot_judged, all_records, all_sayable}
use Rattle.stream_laws.proofs.Along.{met_append, met_cut, met_then, end_of, end_then, follows, to_its_end}
use Rattle.stream_laws.proofs.Degrees.{degrees_rise}
use Rattle.stream_laws.proofs.Accepted.{settings_no_model, passed, ModelWithin, model_within}

-- ---- the encoding

-- "Records: u32 payload length, u16 kind, payload": what is encoded is read back, whatever follows it
pub record ReadBack (r : Rec) (rest : List ℕ) : Type 0 where
  pub kind : kind_said (encode r.kind r.payload ++ rest) ≡ r.kind
  pub size : length_said (encode r.kind r.payload ++ rest) ≡ length r.payload
  pub payload : drop 6 (encode r.kind r.payload ++ rest) ≡ r.payload ++ rest

pub read_back : (r : Rec) (rest : List ℕ) → Sayable r → ReadBack r rest
read_back r rest s =
    record {
      kind = kind_said_lem r.kind r.payload rest s.kind;
      size = length_said_lem r.kind r.payload rest s.size;
      payload = payload_said_lem r.kind r.payload rest;
    }

-- "Kind 1, model: u32 checks, mechanisms, edges; per mechanism f64 prior, u32 degree; then all the u32 detectors"
pub model_back_lem : (checks : ℕ) (ms : List Mechanism) (ds : List ℕ) → ModelFit checks ms ds → ModelRead checks ms ds (encode_model checks ms ds)
model_back_lem = model_read_lem

-- "Kind 2, settings: .. 49 bytes"
pub settings_back_lem : (s : SettingsFields) → SettingsFit s → SettingsRead s (encode_settings s)
settings_back_lem = settings_read_lem

-- "Kind 2 keeps the old rule; kind 4 is the same 49 bytes with the new one": of the same bytes they mean the same settings but for the draw, and 41 to 45 judge them alike
pub kinds_of_settings : (p : List ℕ) → let t = settings_read 2 p in
    (t.gamma_source ≡ Seeded SeedXorLeg)
    × (settings_read 4 p
    ≡ record {
      schedule = t.schedule;
      alpha = t.alpha;
      clip = t.clip;
      gamma0 = t.gamma0;
      pre_iterations = t.pre_iterations;
      num_legs = t.num_legs;
      leg_iterations = t.leg_iterations;
      gamma_low = t.gamma_low;
      gamma_high = t.gamma_high;
      stop_after_converged = t.stop_after_converged;
      gamma_source = Seeded ByShot;
    })
    × ((hasModel hasSettings : Bool) → judge hasModel hasSettings 4 p ≡ judge hasModel hasSettings 2 p)
unfolding settings_read rule_read judge tested is_settings kind_good length_good time_good room_good schedule_good
kinds_of_settings p = (refl, refl, λ hasModel hasSettings. refl)

-- "Kind 3, shot: u64 seed, syndrome bytes"
pub shot_back : (s : ℕ) (ys : List ℕ) → s < 2 ^ 64 → (seed (encode_shot s ys) ≡ s) × (syndrome (encode_shot s ys) ≡ ys)
shot_back s ys h = (shot_seed s ys h, shot_syndrome s ys)

-- ---- every input is records, and what is left over

-- bytes that begin with a record's are complete
begins : (r : Rec) (ys : List ℕ) → Sayable r → (xs : List ℕ) → xs ≡ encoded r ++ ys → is_complete xs ≡ true
unfolding is_complete
begins r ys y xs e =
    let n : length_said xs ≡ length r.payload = ap length_said e ∙ length_said_lem r.kind r.payload ys y.size in
    let l : length xs ≡ (6 + length r.payload) + length ys = ap length e ∙ length-append (encoded r) ys ∙ ap (λ k. k + length ys) (length_encode r.kind r.payload) in
    le-leb (6 + length_said xs) (length xs) (omega (arith, n, l))

-- two records that begin the same bytes are one, and so is what follows
same_first : (r r' : Rec) → Sayable r → Sayable r' → (ys ys' : List ℕ) → encoded r ++ ys ≡ encoded r' ++ ys' → (r ≡ r') × (ys ≡ ys')
same_first r r' y z ys ys' e =
    let p = r.payload in
    let p' = r'.payload in
    let k : r.kind ≡ r'.kind = sym (kind_said_lem r.kind p ys y.kind) ∙ ap kind_said e ∙ kind_said_lem r'.kind p' ys' z.kind in
    let n : length p ≡ length p' = sym (length_said_lem r.kind p ys y.size) ∙ ap length_said e ∙ length_said_lem r'.kind p' ys' z.size in
    let b : p ++ ys ≡ p' ++ ys' = sym (payload_said_lem r.kind p ys) ∙ ap (drop 6) e ∙ payload_said_lem r'.kind p' ys' in
    let q : p ≡ p' = sym (take_at p ys (length p) refl) ∙ ap (take (length p)) b ∙ take_at p' ys' (length p) (sym n) in
    let t : ys ≡ ys' = sym (drop_at p ys (length p) refl) ∙ ap (drop (length p)) b ∙ drop_at p' ys' (length p) (sym n) in
    (ap (λ (i : ℕ). rec i p) k ∙ ap (λ (x : List ℕ). rec r'.kind x) q, t)

-- no bytes are no whole record
nothing_cut : is_complete [] ≡ false
unfolding is_complete length_said number_at number
nothing_cut = refl

-- bytes that begin with no whole record lie within one
within : (xs : List ℕ) → is_complete xs ≡ false → length xs ≤ 6 + length_said xs
unfolding is_complete
within xs c = omega (arith, leb-false (6 + length_said xs) (length xs) c)

-- whose end is not reached
open_record : (offset : ℕ) (xs : List ℕ) → is_complete xs ≡ false → is_whole (holding offset xs) ≡ false
unfolding is_complete is_whole
open_record offset xs c = ne_eqb (length xs) (6 + length_said xs) (λ e. omega (arith, e, leb-false (6 + length_said xs) (length xs) c))

-- bytes told apart: records that a stream can hold, and bytes that begin with no whole record
pub record Apart (xs : List ℕ) : Type 0 where
  pub records : List Rec
  pub rest : List ℕ
  pub sayable : AllSayable records
  pub same : xs ≡ stream records ++ rest
  pub cut : is_complete rest ≡ false
  pub bytes : AreBytes rest

-- nothing but what is left over
nothing : (ys : List ℕ) → AreBytes ys → is_complete ys ≡ false → Apart ys
unfolding stream
nothing ys g c = record { records = []; rest = ys; sayable = none; same = refl; cut = c; bytes = g }

-- what follows a whole record is shorter
shorter : (n : ℕ) (ys : List ℕ) → length ys < suc n → is_complete ys ≡ true → length (drop (6 + length_said ys) ys) < n
unfolding is_complete
shorter n ys h c = omega (arith, leb-true (6 + length_said ys) (length ys) c, length-drop (6 + length_said ys) ys)

-- a whole record, and what is told of the bytes behind it
first : (ys : List ℕ) → AreBytes ys → is_complete ys ≡ true → Apart (drop (6 + length_said ys) ys) → Apart ys
unfolding is_complete stream kind_said length_said
first ys g c t =
    let n = length_said ys in
    let p = take n (drop 6 ys) in
    let l : 6 + n ≤ length ys = leb-true (6 + n) (length ys) c in
    let q : length p ≡ n = length-take-le n (drop 6 ys) (omega (arith, length-drop 6 ys)) in
    let e : encode (kind_said ys) p ++ drop (6 + n) ys ≡ ys = complete_is ys g l in
    let s : Sayable (rec (kind_said ys) p) =
    record { kind = number_bound 2 4 ys g; size = omega (arith, q, number_bound 4 0 ys g); bytes = bytes_take n (drop 6 ys) (bytes_drop 6 ys g) } in
    record {
      records = rec (kind_said ys) p ∷ t.records;
      rest = t.rest;
      sayable = more {r = rec (kind_said ys) p} s t.sayable;
      same = sym e ∙ ap (λ zs. encode (kind_said ys) p ++ zs) t.same ∙ sym (append_assoc (encode (kind_said ys) p) (stream t.records) t.rest);
      cut = t.cut;
      bytes = t.bytes;
    }

-- every input is told apart so
pub told_apart : (xs : List ℕ) → AreBytes xs → Apart xs
told_apart xs f = go (suc (length xs)) xs f (omega arith)
  where
    go : (n : ℕ) (ys : List ℕ) → AreBytes ys → length ys < n → Apart ys
    go zero ys g h = absurd (omega arith)
    go (suc n) ys g h =
        ⊎_elim
        (λ (c : is_complete ys ≡ true). first ys g c (go n (drop (6 + length_said ys) ys) (bytes_drop (6 + length_said ys) ys g) (shorter n ys h c)))
        (λ (c : is_complete ys ≡ false). nothing ys g c)
        (either (is_complete ys))

-- only so: two ways to tell bytes apart into such records and such a rest are one
apart_once : (rs rs' : List Rec) (rest rest' : List ℕ) → AllSayable rs → AllSayable rs' → is_complete rest ≡ false → is_complete rest' ≡ false
    → stream rs ++ rest ≡ stream rs' ++ rest' → (rs ≡ rs') × (rest ≡ rest')
unfolding stream
apart_once [] [] rest rest' s t c d e = (refl, e)
apart_once [] (r ∷ rs) rest rest' s (more y t) c d e = absurd (true≢false (sym (begins r (stream rs ++ rest') y rest (e ∙ append_assoc (encoded r) (stream rs) rest')) ∙ c))
apart_once (r ∷ rs) [] rest rest' (more y s) t c d e = absurd (true≢false (sym (begins r (stream rs ++ rest) y rest' (sym e ∙ append_assoc (encoded r) (stream rs) rest)) ∙ d))
apart_once (r ∷ rs) (r' ∷ rs') rest rest' (more y s) (more z t) c d e =
    let w = same_first r r' y z (stream rs ++ rest) (stream rs' ++ rest') (sym (append_assoc (encoded r) (stream rs) rest) ∙ e ∙ append_assoc (encoded r') (stream rs') rest') in
    let v = apart_once rs rs' rest rest' s t c d w.1 in
    (ap (λ (q : Rec). q ∷ rs) w.0 ∙ ap (λ (qs : List Rec). r' ∷ qs) v.0, v.1)

-- so bytes that are records, one after the other, are told apart into those
pub told_apart_once : (rs : List Rec) → AllSayable rs → (t : Apart (stream rs)) → (t.records ≡ rs) × (t.rest ≡ [])
told_apart_once rs s t = apart_once t.records rs t.rest [] t.sayable s t.cut nothing_cut (sym t.same ∙ sym (append-nil (stream rs)))

-- ---- the reader

-- judging in pieces equals judging whole: what is held after two pieces, and the records met in them
pub pieces_held : (xs ys : List ℕ) (h : Held) → fed (xs ++ ys) h ≡ fed ys (fed xs h)
unfolding fed
pieces_held xs ys h = foldl-append pushed h xs ys

pub pieces_met : (xs ys : List ℕ) (h : Held) → met (xs ++ ys) h ≡ met xs h ++ met ys (fed xs h)
pieces_met = met_append

-- the reader meets the records of the grammar, each at its offset, and nothing else
pub meets : (rs : List Rec) (rest : List ℕ) (offset : ℕ) (room : List ℕ) → AllSayable rs → AreBytes rest → is_complete rest ≡ false
    → met (stream rs ++ rest) (held (fresh offset) room) ≡ to_meet rs offset room
unfolding stream to_meet
meets [] rest offset room s f c = met_cut offset rest room f (within rest c) (open_record offset rest c)
meets (r ∷ rs) rest offset room (more s ss) f c =
    ap (λ xs. met xs (held (fresh offset) room)) (append_assoc (encode r.kind r.payload) (stream rs) rest)
    ∙ met_then r s offset room (stream rs ++ rest)
    ∙ ap (λ l. held (holding offset (encode r.kind r.payload)) (payload_kept r.payload room) ∷ l)
    (meets rs rest ((offset + (6 + length r.payload)) % 2 ^ 64) (payload_kept r.payload room) ss f c)

-- the offset behind records
abbrev pub offset_after : List Rec → ℕ → ℕ
offset_after [] offset = offset
offset_after (r ∷ rs) offset = offset_after rs ((offset + (6 + length r.payload)) % 2 ^ 64)

-- what the reader says at the end of the input: whether bytes are left over, and at which offset
pub ends_at : {X : Type 0} (g : ℕ → Answer → X) → ((a b : ℕ) → g a (Ok tt) ≡ g b (Ok tt))
    → (rs : List Rec) (rest : List ℕ) (offset : ℕ) (room : List ℕ) → AllSayable rs → AreBytes rest → is_complete rest ≡ false
    → end_of g (fed (stream rs ++ rest) (held (fresh offset) room)).reader ≡ g (offset_after rs offset) (left_over rest)
unfolding stream at_end left_over opened
ends_at g same [] rest offset room s f c = rw (read_all offset rest room f (within rest c), open_record offset rest c)
ends_at g same (r ∷ rs) rest offset room (more s ss) f c =
    ap (λ xs. end_of g (fed xs (held (fresh offset) room)).reader) (append_assoc (encoded r) (stream rs) rest)
    ∙ end_then r s offset room g same (stream rs ++ rest)
    ∙ ends_at g same rs rest ((offset + (6 + length r.payload)) % 2 ^ 64) (payload_kept r.payload room) ss f c

-- "40 cut record": at the end of the input, exactly where bytes are left over
pub ends : (rs : List Rec) (rest : List ℕ) (offset : ℕ) (room : List ℕ) → AllSayable rs → AreBytes rest → is_complete rest ≡ false
    → at_end (fed (stream rs ++ rest) (held (fresh offset) room)).reader ≡ left_over rest
ends = ends_at (λ offset a. a) (λ a b. refl)

-- a record that is met is judged as the grammar judges it, where 49 bytes can be kept
pub judges : (hasModel hasSettings : Bool) (r : Rec) (offset : ℕ) (room : List ℕ) → Sayable r → 49 ≤ length room
    → verdict hasModel hasSettings (holding offset (encode r.kind r.payload)) (payload_kept r.payload room) ≡ judge hasModel hasSettings r.kind r.payload
judges hasModel hasSettings r offset room s h =
    let xs = encode r.kind r.payload in
    let p : drop 6 xs ≡ r.payload = follows r s offset room in
    let k : kind_said xs ≡ r.kind = ap kind_said (sym (append-nil xs)) ∙ kind_said_lem r.kind r.payload [] s.kind in
    let j : verdict hasModel hasSettings (holding offset xs) (payload_kept (drop 6 xs) room) ≡ judge hasModel hasSettings (kind_said xs) (drop 6 xs) =
    judged hasModel hasSettings offset xs room (to_its_end r s offset room) h in
    ap (λ q. verdict hasModel hasSettings (holding offset xs) (payload_kept q room)) (sym p) ∙ j ∙ ap (λ q. judge hasModel hasSettings (kind_said xs) q) p ∙ ap (λ q. judge hasModel hasSettings q r.payload) k

-- ---- what is encoded and streamed comes back

-- "All numbers are little-endian. A record is ..": a model, settings and shots within the room, encoded and streamed, are records that a stream can hold; the stream is
-- told apart into them alone, and the reader meets them and nothing else; 41 to 45 let each through in turn, settings of either kind; and their fields are those encoded, floats by their bits
pub record StreamedBack (c : ℕ) (ms : List Mechanism) (ds : List ℕ) (kind : ℕ) (s : SettingsFields) (xs : List ShotFields) : Type 0 where
  pub sayable : AllSayable (all_records c ms ds kind s xs)
  pub apart : (t : Apart (stream (all_records c ms ds kind s xs))) → (t.records ≡ all_records c ms ds kind s xs) × (t.rest ≡ [])
  pub met : (room : List ℕ) → met (stream (all_records c ms ds kind s xs)) (held (fresh 0) room) ≡ to_meet (all_records c ms ds kind s xs) 0 room
  pub model_good : judge false false 1 (encode_model c ms ds) ≡ Ok tt
  pub settings_good : judge true false kind (encode_settings s) ≡ Ok tt
  pub shots_good : (i : ℕ) → i < length xs → judge true true 3 (shot_payload (get_or xs i no_shot)) ≡ Ok tt
  pub model_back : ModelRead c ms ds (encode_model c ms ds)
  pub settings_back : SettingsRead s (encode_settings s)
  pub shots_back : (i : ℕ) → i < length xs
      → (seed (shot_payload (get_or xs i no_shot)) ≡ (get_or xs i no_shot).seed) × (syndrome (shot_payload (get_or xs i no_shot)) ≡ (get_or xs i no_shot).syndrome)

pub streamed_back : (c : ℕ) (ms : List Mechanism) (ds : List ℕ) (kind : ℕ) (s : SettingsFields) (xs : List ShotFields) → GoodModel c ms ds → is_settings kind ≡ true
    → GoodSettings s → ((i : ℕ) → i < length xs → GoodShot (get_or xs i no_shot)) → StreamedBack c ms ds kind s xs
streamed_back c ms ds kind s xs m k t f =
    let rs = all_records c ms ds kind s xs in
    let a = all_sayable c ms ds kind s xs m k t f in
    record {
      sayable = a;
      apart = told_apart_once rs a;
      met = λ room. ap (λ ys. met ys (held (fresh 0) room)) (sym (append-nil (stream rs))) ∙ meets rs [] 0 room a (λ i. omega arith) nothing_cut;
      model_good = model_judged c ms ds m false false;
      settings_good = settings_judged kind s k t true false;
      shots_good = λ i h. shot_judged (get_or xs i no_shot) (f i h);
      model_back = model_back_lem c ms ds (model_fits c ms ds m);
      settings_back = settings_back_lem s t.fit;
      shots_back = λ i h. shot_back (get_or xs i no_shot).seed (get_or xs i no_shot).syndrome (f i h).seed_fits;
    }

-- ---- what 41 to 45 let through is within the room

module _ (hasModel hasSettings : Bool) (p : List ℕ) where
  -- a model has at most 128 checks, 256 mechanisms and 512 edges, is as long as its counts say, and its degrees add up to its edges
  pub model_let_through : judge hasModel hasSettings 1 p ≡ Ok tt → ModelWithin (length p) (checks p) (mechanisms p) (edges p) (degrees (mechanisms p) p)
  unfolding judge
  model_let_through d = let t = passed hasModel hasSettings (claims_of 1 p) d in model_within _ _ _ _ _ _ t.size_good t.room_good_lem

  -- settings, of either kind, have 49 bytes and at most 16 relayed legs
  pub settings_let_through : (kind : ℕ) → is_settings kind ≡ true → judge hasModel hasSettings kind p ≡ Ok tt → (length p ≡ 49) × (legs p ≤ 16)
  unfolding judge length_good room_good
  settings_let_through kind h d =
      let t = passed hasModel hasSettings (claims_of kind p) d in
      let size : eqb (length p) 49 ≡ true = rw (settings_no_model kind h, h) at t.size_good in
      let room : leb (legs p) 16 ≡ true = rw (settings_no_model kind h, h) at t.room_good_lem in
      (eqb-true (length p) 49 size, leb-true (legs p) 16 room)

  -- a shot has a seed, at most 128 bytes of a syndrome, and a model and settings before it
  pub shot_let_through : judge hasModel hasSettings 3 p ≡ Ok tt → (8 ≤ length p) × (length p ≤ 136) × (hasModel ≡ true) × (hasSettings ≡ true)
  unfolding judge is_settings length_good time_good room_good
  shot_let_through d =
      let t = passed hasModel hasSettings (claims_of 3 p) d in
      let b = and_both hasModel hasSettings t.time_good_lem in
      (leb-true 8 (length p) t.size_good, leb-true (length p) 136 t.room_good_lem, b.0, b.1)

  -- the offsets of a model are sums of its degrees, exactly
  pub offsets_exact : (m : ℕ) → judge hasModel hasSettings 1 p ≡ Ok tt → m ≤ mechanisms p → offset p m ≡ degrees m p
  unfolding offset
  offsets_exact m d k =
      let w = model_let_through d in
      let j : m + (mechanisms p - m) ≡ mechanisms p = omega arith in
      let r : degrees m p ≤ degrees (mechanisms p) p = rw j at (degrees_rise m (mechanisms p - m) p) in
      mod-eq_of_lt (omega (arith, r, w.sum_fits, w.edges_fit))

-- ---- two results that a contract allows coincide

pub whole_once : (r : Reader) (x y : Bool) → x ≡ is_whole r → y ≡ is_whole r → x ≡ y
whole_once r x y p q = p ∙ sym q

pub push_once : (h : Held) (b : ℕ) (x y : Held) → x ≡ pushed h b → y ≡ pushed h b → x ≡ y
push_once h b x y p q = p ∙ sym q

pub verdict_once : (hasModel hasSettings : Bool) (r : Reader) (kept : List ℕ) (x y : Answer)
    → x ≡ verdict hasModel hasSettings r kept → y ≡ verdict hasModel hasSettings r kept → x ≡ y
verdict_once hasModel hasSettings r kept x y p q = p ∙ sym q

pub end_once : (r : Reader) (x y : Answer) → x ≡ at_end r → y ≡ at_end r → x ≡ y
end_once r x y p q = p ∙ sym q

pub counts_once : (p : List ℕ) (x y : Counts) → x ≡ counts_read p → y ≡ counts_read p → x ≡ y
counts_once p x y e f = e ∙ sym f

pub model_once : (p : List ℕ) (l x y : ModelLists) → x ≡ model_read p l → y ≡ model_read p l → x ≡ y
model_once p l x y e f = e ∙ sym f

pub settings_once : (kind : ℕ) (p : List ℕ) (x y : Settings) → x ≡ settings_read kind p → y ≡ settings_read kind p → x ≡ y
settings_once kind p x y e f = e ∙ sym f

pub seed_once : (p : List ℕ) (x y : ℕ) → x ≡ seed p → y ≡ seed p → x ≡ y
seed_once p x y e f = e ∙ sym f

pub of_shot_once : (code : ℕ) (x y : Bool) → x ≡ is_of_shot code → y ≡ is_of_shot code → x ≡ y
of_shot_once code x y e f = e ∙ sym f
