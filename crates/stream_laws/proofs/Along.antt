-- A reader along a stream: it meets the records of the grammar, in order and at their offsets, and nothing else. Assumes nothing.
use mathlib.Core.Path.{◌≡◌, refl, sym, ap, ◌∙◌}
use mathlib.Core.Bool.{true, false, cond}
use mathlib.Core.List.{List, [], ◌∷◌, ◌++◌, foldl, foldl-append, append-nil}
use mathlib.Core.Logic.{⊎_elim}
use Prim.Native.Nat.{ℕ, zero, suc, ◌+◌, ◌%◌, ◌^◌, ◌<◌, ◌≤◌}
use native.Mathlib.Omega.{arith}
use lib.ListN.{length, get_or, take, drop}
use lib.Seq.{take-suc, take-length}
use borrow.Author.Tests.{eq-eqb}
use Rattle.numbers.proofs.Cases.{either}
use Rattle.refusals.specs.Refusal.{Answer}
use Rattle.std.specs.Prelude.{Ok}
use Rattle.refusals.specs.Tests.{unless}
use Rattle.stream_reader.specs.declared.Reader.{Reader}
use Rattle.stream_grammar.specs.Stream.{AreBytes, Rec, Sayable, length_said}
use Rattle.stream_reader.specs.Reading.{fresh, holding, is_whole, opened, payload_kept, Held, held, pushed, fed, met, at_end}
use Rattle.stream_laws.proofs.Encoding.{encoded, length_encode, length_said_lem, payload_said_lem, bytes_encode}
use Rattle.stream_laws.proofs.Whole.{not_whole, read_first, read_all}

-- ---- two pieces

-- what is met in two pieces is met in the first, and in the second from there
pub met_append : (xs ys : List ℕ) (h : Held) → met (xs ++ ys) h ≡ met xs h ++ met ys (fed xs h)
unfolding met fed
met_append [] ys h = refl
met_append (x ∷ xs) ys h =
    ⊎_elim
    (λ (w : is_whole (pushed h x).reader ≡ true). rw (w, met_append xs ys (pushed h x)))
    (λ (w : is_whole (pushed h x).reader ≡ false). rw (w, met_append xs ys (pushed h x)))
    (either (is_whole (pushed h x).reader))

-- ---- within a record

module _ (offset : ℕ) (xs room : List ℕ) (f : AreBytes xs) (h : length xs ≤ 6 + length_said xs) where
  -- the byte after the first i
  met_next : (i : ℕ) → i < length xs
      → met (take (suc i) xs) (held (fresh offset) room)
      ≡ met (take i xs) (held (fresh offset) room)
      ++ cond (is_whole (holding offset (take (suc i) xs))) (held (holding offset (take (suc i) xs)) (payload_kept (drop 6 (take (suc i) xs)) room) ∷ []) []
  unfolding met fed
  met_next i l =
      let start = held (fresh offset) room in
      let b = get_or xs i 0 in
      let e : take (suc i) xs ≡ take i xs ++ (b ∷ []) = take-suc xs i 0 l in
      let p : pushed (fed (take i xs) start) b ≡ held (holding offset (take (suc i) xs)) (payload_kept (drop 6 (take (suc i) xs)) room) =
      sym (foldl-append pushed start (take i xs) (b ∷ [])) ∙ ap (λ ys. fed ys start) (sym e) ∙ read_first offset xs room f h (suc i) l in
      ap (λ ys. met ys start) e ∙ met_append (take i xs) (b ∷ []) start ∙ ap (λ s. met (take i xs) start ++ cond (is_whole s.reader) (s ∷ []) []) p

  -- short of its end nothing is met
  met_within : (i : ℕ) → i < length xs → met (take i xs) (held (fresh offset) room) ≡ []
  unfolding met
  met_within zero l = refl
  met_within (suc i) l = met_next i (omega arith) ∙ rw (not_whole offset xs (suc i) h l, met_within i (omega arith))

  -- at its end it is
  met_whole : (n : ℕ) → length xs ≡ suc n → is_whole (holding offset xs) ≡ true → met xs (held (fresh offset) room) ≡ held (holding offset xs) (payload_kept (drop 6 xs) room) ∷ []
  met_whole n e w =
      let t : take (suc n) xs ≡ xs = ap (λ k. take k xs) (sym e) ∙ take-length xs in
      let w' : is_whole (holding offset (take (suc n) xs)) ≡ true = ap (λ ys. is_whole (holding offset ys)) t ∙ w in
      ap (λ ys. met ys (held (fresh offset) room)) (sym t)
      ∙ met_next n (omega arith)
      ∙ rw (w', met_within n (omega arith), t)

  -- and where the end is missing nothing is
  pub met_cut : is_whole (holding offset xs) ≡ false → met xs (held (fresh offset) room) ≡ []
  unfolding met
  met_cut w = go (length xs) refl
    where
      go : (n : ℕ) → length xs ≡ n → met xs (held (fresh offset) room) ≡ []
      go zero e = ap (λ ys. met ys (held (fresh offset) room)) (sym (take-length xs) ∙ ap (λ k. take k xs) e)
      go (suc n) e =
          let t : take (suc n) xs ≡ xs = ap (λ k. take k xs) (sym e) ∙ take-length xs in
          let w' : is_whole (holding offset (take (suc n) xs)) ≡ false = ap (λ ys. is_whole (holding offset ys)) t ∙ w in
          ap (λ ys. met ys (held (fresh offset) room)) (sym t) ∙ met_next n (omega arith) ∙ rw (w', met_within n (omega arith))

-- ---- from a whole record on

-- what is said of the end of an input by the offset of what is left over, if anything is
abbrev pub end_of : {X : Type 0} → (ℕ → Answer → X) → Reader → X
end_of g r = g r.offset (at_end r)

-- nothing is left over of a whole record, nor before a byte of the next one
whole_ends : (r : Reader) → is_whole r ≡ true → at_end r ≡ Ok tt
unfolding at_end unless opened
whole_ends r w = rw w

fresh_ends : (offset : ℕ) → at_end (fresh offset) ≡ Ok tt
unfolding at_end unless opened is_whole
fresh_ends offset = refl

module _ (h : Held) (w : is_whole h.reader ≡ true) where
  abbrev next : Held
  next = held (fresh ((h.reader.offset + h.reader.taken) % 2 ^ 64)) h.kept

  -- the next byte is the first of the next record
  push_next : (b : ℕ) → pushed h b ≡ pushed next b
  unfolding pushed opened is_whole
  push_next b = rw w

  -- so the records met are those met from there
  met_from_next : (ys : List ℕ) → met ys h ≡ met ys next
  unfolding met
  met_from_next [] = refl
  met_from_next (y ∷ ys) = rw (push_next y)

  -- and the end of the input tells the same of both
  end_from_next : {X : Type 0} (g : ℕ → Answer → X) → ((a b : ℕ) → g a (Ok tt) ≡ g b (Ok tt)) → (ys : List ℕ) → end_of g (fed ys h).reader ≡ end_of g (fed ys next).reader
  unfolding fed
  end_from_next g same [] = ap (g h.reader.offset) (whole_ends h.reader w) ∙ same _ _ ∙ ap (g next.reader.offset) (sym (fresh_ends next.reader.offset))
  end_from_next g same (y ∷ ys) = ap (λ s. end_of g (foldl pushed s ys).reader) (push_next y)

-- ---- a record, and what follows

module _ (r : Rec) (s : Sayable r) (offset : ℕ) (room : List ℕ) where
  abbrev at_its_end : Held
  at_its_end = held (holding offset (encoded r)) (payload_kept r.payload room)

  -- the head says the payload's length
  pub said : length_said (encoded r) ≡ length r.payload
  said = ap length_said (sym (append-nil (encoded r))) ∙ length_said_lem r.kind r.payload [] s.size

  -- and the payload follows it
  pub follows : drop 6 (encoded r) ≡ r.payload
  follows = ap (drop 6) (sym (append-nil (encoded r))) ∙ payload_said_lem r.kind r.payload [] ∙ append-nil r.payload

  -- so the bytes are a record to its end
  pub to_its_end : length (encoded r) ≡ 6 + length_said (encoded r)
  to_its_end = length_encode r.kind r.payload ∙ ap (λ n. 6 + n) (sym said)

  -- a whole one
  whole : is_whole (holding offset (encoded r)) ≡ true
  unfolding is_whole
  whole = eq-eqb (length (encoded r)) (6 + length_said (encoded r)) to_its_end

  -- what is held and kept at its end
  fed_record : fed (encoded r) (held (fresh offset) room) ≡ at_its_end
  fed_record =
      read_all offset (encoded r) room (bytes_encode r.kind r.payload s.bytes) (omega (arith, to_its_end))
      ∙ ap (λ p. held (holding offset (encoded r)) (payload_kept p room)) follows

  -- it is met once
  met_record : met (encoded r) (held (fresh offset) room) ≡ at_its_end ∷ []
  met_record =
      met_whole offset (encoded r) room (bytes_encode r.kind r.payload s.bytes) (omega (arith, to_its_end)) (5 + length r.payload) (length_encode r.kind r.payload ∙ omega arith) whole
      ∙ ap (λ p. held (holding offset (encoded r)) (payload_kept p room) ∷ []) follows

  -- where the next record begins
  abbrev after : Held
  after = held (fresh ((offset + (6 + length r.payload)) % 2 ^ 64)) (payload_kept r.payload room)

  after_is : next at_its_end whole ≡ after
  after_is = ap (λ n. held (fresh ((offset + n) % 2 ^ 64)) (payload_kept r.payload room)) (length_encode r.kind r.payload)

  -- with more bytes behind it
  pub met_then : (ys : List ℕ) → met (encoded r ++ ys) (held (fresh offset) room) ≡ at_its_end ∷ met ys after
  met_then ys =
      met_append (encoded r) ys (held (fresh offset) room)
      ∙ rw (met_record, fed_record) (ap (λ l. at_its_end ∷ l) (met_from_next at_its_end whole ys ∙ ap (met ys) after_is))

  -- so what is said of the end is what is said of it from there
  pub end_then : {X : Type 0} (g : ℕ → Answer → X) → ((a b : ℕ) → g a (Ok tt) ≡ g b (Ok tt)) → (ys : List ℕ)
      → end_of g (fed (encoded r ++ ys) (held (fresh offset) room)).reader ≡ end_of g (fed ys after).reader
  unfolding fed
  end_then g same ys =
      ap (λ h. end_of g h.reader) (foldl-append pushed (held (fresh offset) room) (encoded r) ys ∙ ap (fed ys) fed_record)
      ∙ end_from_next at_its_end whole g same ys
      ∙ ap (λ h. end_of g (fed ys h).reader) after_is
