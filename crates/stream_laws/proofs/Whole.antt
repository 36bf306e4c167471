-- What is read of the bytes of one record, to its end or short of it. Assumes nothing.
use mathlib.Core.Path.{◌≡◌, refl, sym, ap, ◌∙◌}
use mathlib.Core.Bool.{false}
use mathlib.Core.List.{List, [], ◌∷◌, ◌++◌}
use mathlib.Core.Logic.{⊎_elim}
use Prim.Native.Nat.{ℕ, zero, suc, ◌+◌, ◌^◌, ◌<◌, ◌≤◌}
use native.Mathlib.Omega.{arith}
use lib.ListN.{length, get_or, set, take, drop, length-append, length-drop, drop_of_length-le}
use lib.Seq.{take_all, take-length, take-take, take-suc, length-take-le, drop-append-le, take-nil}
use borrow.Author.Tests.{ne_eqb}
use Rattle.numbers.proofs.Loops.{foldl_take}
use Rattle.numbers.proofs.Cases.{less_or_not}
use Rattle.stream_grammar.specs.Stream.{AreBytes, number, number_at, length_said, kind_said, checks, mechanisms, edges, degrees}
use Rattle.stream_reader.specs.Reading.{fresh, holding, is_whole, opened, byte_kept, payload_kept, held, pushed, fed}
use Rattle.stream_grammar.proofs.Bytes.{bytes_take, number_bound}
use Rattle.stream_laws.proofs.Holding.{holding_more, kept_more}
use Rattle.stream_reader.proofs.Steps.{head_only, keep_none, keep_in}

-- before any byte
holding_none : (offset : ℕ) → holding offset [] ≡ fresh offset
unfolding length_said kind_said checks mechanisms edges degrees number_at number
holding_none offset = refl

-- nothing kept yet
kept_none : (room : List ℕ) → payload_kept [] room ≡ room
unfolding payload_kept
kept_none room = rw (take-nil {A = ℕ} (length room))

-- as much room as before
pub length_kept : (p room : List ℕ) → length (payload_kept p room) ≡ length room
unfolding payload_kept
length_kept p room =
    ⊎_elim
    (λ (h : length p < length room).
    rw (take_all (length room) p (omega arith)) (length-append p (drop (length p) room) ∙ omega (arith, length-drop (length p) room)))
    (λ (h : length room ≤ length p).
    length-append (take (length room) p) (drop (length p) room) ∙ omega (arith, length-take-le (length room) p h, length-drop (length p) room))
    (less_or_not (length p) (length room))

-- what is kept, one byte of the record further
kept_step : (xs room : List ℕ) (b : ℕ) → byte_kept (length xs) b (payload_kept (drop 6 xs) room) ≡ payload_kept (drop 6 (xs ++ (b ∷ []))) room
kept_step xs room b =
    ⊎_elim
    (λ (h : length xs < 6).
    rw (drop_of_length-le (xs ++ (b ∷ [])) {i = 6} (omega (arith, length-append xs (b ∷ []))), drop_of_length-le xs {i = 6} (omega arith)) (sym (keep_none (length xs) b (payload_kept [] room) h)))
    (λ (h : 6 ≤ length xs).
    sym (keep_in (length xs) b (payload_kept (drop 6 xs) room) h)
    ∙ ap (λ i. set (payload_kept (drop 6 xs) room) i b) (sym (length-drop 6 xs))
    ∙ kept_more (drop 6 xs) room b
    ∙ ap (λ p. payload_kept p room) (sym (drop-append-le 6 xs (b ∷ []) h)))
    (less_or_not (length xs) 6)

-- one byte of a record that is not whole yet
push_within : (offset : ℕ) (xs room : List ℕ) (b : ℕ) → is_whole (holding offset xs) ≡ false → AreBytes xs → b < 256 → length xs < 2 ^ 63
    → pushed (held (holding offset xs) (payload_kept (drop 6 xs) room)) b ≡ held (holding offset (xs ++ (b ∷ []))) (payload_kept (drop 6 (xs ++ (b ∷ []))) room)
unfolding pushed opened
push_within offset xs room b w f h s = rw (w, holding_more offset xs b f h s, kept_step xs room b)

-- bytes within one record: a proper part from the front is no whole record
pub not_whole : (offset : ℕ) (xs : List ℕ) (j : ℕ) → length xs ≤ 6 + length_said xs → j < length xs → is_whole (holding offset (take j xs)) ≡ false
unfolding is_whole length_said number_at
not_whole offset xs j h k =
    let l : length (take j xs) ≡ j = length-take-le j xs (omega arith) in
    ⊎_elim
    (λ (s : j < 6). sym (head_only (length (take j xs)) (length_said (take j xs)) (omega (arith, l))))
    (λ (s : 6 ≤ j).
    let e : length_said (take j xs) ≡ length_said xs = ap number (take-take 4 j xs (omega arith)) in
    ne_eqb (length (take j xs)) (6 + length_said (take j xs)) (λ q. omega (arith, q, e, l, h)))
    (less_or_not j 6)

module _ (offset : ℕ) (xs room : List ℕ) (f : AreBytes xs) (h : length xs ≤ 6 + length_said xs) where
  -- a record is short enough to be counted
  short : length xs < 2 ^ 63
  unfolding length_said
  short = omega (arith, number_bound 4 0 xs f)

  -- the first i bytes of a record
  pub read_first : (i : ℕ) → i ≤ length xs
      → fed (take i xs) (held (fresh offset) room) ≡ held (holding offset (take i xs)) (payload_kept (drop 6 (take i xs)) room)
  unfolding fed
  read_first zero l = rw (holding_none offset, kept_none room)
  read_first (suc i) l =
      let b = get_or xs i 0 in
      let k : length (take i xs) ≡ i = length-take-le i xs (omega arith) in
      foldl_take pushed (held (fresh offset) room) xs i 0 l
      ∙ ap (λ s. pushed s b) (read_first i (omega arith))
      ∙ push_within offset (take i xs) room b (not_whole offset xs i h l) (bytes_take i xs f) (f i) (omega (arith, k, short))
      ∙ ap (λ ys. held (holding offset ys) (payload_kept (drop 6 ys) room)) (sym (take-suc xs i 0 l))

  -- all of them
  pub read_all : fed xs (held (fresh offset) room) ≡ held (holding offset xs) (payload_kept (drop 6 xs) room)
  read_all = rw (take-length xs) at (read_first (length xs) (omega arith))
