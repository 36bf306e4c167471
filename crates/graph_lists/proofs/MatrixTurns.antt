-- The turns of the loops over a dense matrix, as the code has them. Assumes nothing.
use mathlib.Core.List.{List, ◌++◌, append-nil, append_assoc}
use mathlib.Core.Path.{◌≡◌, refl, sym, ap, ◌∙◌}
use Prim.Native.Nat.{ℕ, ◌*◌, suc, ◌+◌, ◌-◌, ◌<◌, ◌≤◌}
use native.Mathlib.Nat.{suc-mul, zero-mul}
use native.Mathlib.Numerals.{add-one}
use native.Mathlib.Omega.{arith}
use lib.ListN.{length, get_or, take, drop, set, length-append}
use lib.Seq.{length-take-le, take_all, take-suc-set}
use Rattle.graph_lists.specs.Graph.{mechanisms_of, entries, marked}
use Rattle.graph_lists.specs.Lists.{passing, joined, start}
use Rattle.graph_lists.specs.Model.{count_edges}
use Rattle.graph_lists.specs.Steps.{nonzero, of_byte, marks}
use Rattle.graph_lists.proofs.BucketTurns.{filled_turn}
use Rattle.graph_lists.proofs.Matrix.{count_take, count_few, of_byte_none, of_byte_one, marks_suc, row_room, row_marks, matrix_edges}
use Rattle.graph_lists.proofs.Passing.{length_rises, start_zero, start_suc, length_joined, start_rises}

-- ---- counting

-- a byte that is not zero
pub count_more : (xs : List ℕ) (i n : ℕ) → i < length xs → (get_or xs i 0 ≡ 0 → ⊥) → n ≡ count_edges (take i xs) → n + 1 ≡ count_edges (take (i + 1) xs)
count_more xs i n h z e = rw (add-one i) (omega (arith, count_take xs i i h, ap length (of_byte_one (get_or xs i 0) i z)))

-- a zero byte
pub count_same_turn : (xs : List ℕ) (i n : ℕ) → i < length xs → get_or xs i 0 ≡ 0 → n ≡ count_edges (take i xs) → n ≡ count_edges (take (i + 1) xs)
count_same_turn xs i n h z e = rw (add-one i) (omega (arith, count_take xs i i h, ap length (of_byte_none (get_or xs i 0) i z)))

-- the count so far is at most the place
pub count_place : (xs : List ℕ) (i n : ℕ) → i ≤ length xs → n ≡ count_edges (take i xs) → n ≤ i
count_place xs i n h e = omega (arith, count_few (take i xs), length-take-le i xs h)

-- ---- one byte of a row

-- zero
pub mark_none : (byte m place : ℕ) (out : List ℕ) → byte ≡ 0 → (place ≡ place + length (of_byte byte m)) × (take place out ≡ take place out ++ of_byte byte m)
mark_none byte m place out e = rw (of_byte_none byte m e) (omega arith, sym (append-nil _))

-- not zero
pub mark_one : (byte m place : ℕ) (out out' : List ℕ) → (byte ≡ 0 → ⊥) → place < length out → out' ≡ set out place m
    → (place + 1 ≡ place + length (of_byte byte m)) × (take (place + 1) out' ≡ take place out ++ of_byte byte m)
mark_one byte m place out out' n h e = rw (of_byte_one byte m n) (refl, rw (add-one, e) (take-suc-set out place m h))

-- where there is room for it
pub mark_room : (byte m place n : ℕ) → (byte ≡ 0 → ⊥) → place + length (of_byte byte m) ≤ n → place < n
mark_room byte m place n z h = omega (arith, ap length (of_byte_one byte m z))

-- ---- a row

-- the room that the row has is enough for each byte
pub row_turn_room : (bytes : List ℕ) (start m place n : ℕ) → m < length bytes → place ≡ start + length (passing m (nonzero bytes)) → start + length (marks bytes) ≤ n
    → place + length (of_byte (get_or bytes m 0) m) ≤ n
unfolding marks
row_turn_room bytes start m place n h e r =
    omega (
      arith,
      ap length (marks_suc bytes m),
      length-append (passing m (nonzero bytes)) (of_byte (get_or bytes m 0) m),
      length_rises (nonzero bytes) (suc m) (length bytes) h,
    )

-- one byte more
pub row_turn : (bytes out₀ out out' : List ℕ) (start m place next : ℕ) → place ≡ start + length (passing m (nonzero bytes)) → take place out ≡ take start out₀ ++ passing m (nonzero bytes)
    → next ≡ place + length (of_byte (get_or bytes m 0) m) → take next out' ≡ take place out ++ of_byte (get_or bytes m 0) m
    → (next ≡ start + length (passing (m + 1) (nonzero bytes))) × (take next out' ≡ take start out₀ ++ passing (m + 1) (nonzero bytes))
row_turn bytes out₀ out out' start m place next p t q u =
    rw add-one (
      omega (arith, ap length (marks_suc bytes m), length-append (passing m (nonzero bytes)) (of_byte (get_or bytes m 0) m)),
      u ∙ ap (λ (x : List ℕ). x ++ of_byte (get_or bytes m 0) m) t ∙ append_assoc (take start out₀) (passing m (nonzero bytes)) (of_byte (get_or bytes m 0) m)
          ∙ ap (λ (x : List ℕ). take start out₀ ++ x) (sym (marks_suc bytes m)),
    )

-- ---- all rows

module _ (checks mechanisms : ℕ) (matrix : List ℕ) (long : length matrix ≡ checks * mechanisms) (c base end : ℕ) (h : c < checks) (eb : base ≡ c * mechanisms) (ee : end ≡ base + mechanisms) where
  -- the row lies within the matrix
  pub rows_room : end ≤ length matrix
  rows_room = omega (arith, row_room checks mechanisms matrix long c h)

  -- and marks the check's mechanisms
  pub rows_marks : marks (take (end - base) (drop base matrix)) ≡ mechanisms_of mechanisms (marked mechanisms matrix) c
  rows_marks = rw (ee, eb) (row_marks checks mechanisms matrix long c h)

  -- which have room among the edges
  pub rows_place : (place : ℕ) → place ≡ start (mechanisms_of mechanisms (marked mechanisms matrix)) c
      → place + length (marks (take (end - base) (drop base matrix))) ≤ count_edges matrix
  unfolding entries
  rows_place place e =
      let f = mechanisms_of mechanisms (marked mechanisms matrix) in
      omega (
        arith,
        ap length rows_marks,
        start_suc f c,
        start_rises f (suc c) checks h,
        length_joined f checks,
        matrix_edges checks mechanisms matrix long,
      )

  -- one row more
  pub rows_turn : (place next : ℕ) (out out' : List ℕ) → place ≡ start (mechanisms_of mechanisms (marked mechanisms matrix)) c
      → take place out ≡ joined c (mechanisms_of mechanisms (marked mechanisms matrix)) → next ≡ place + length (marks (take (end - base) (drop base matrix)))
      → take next out' ≡ take place out ++ marks (take (end - base) (drop base matrix))
      → (next ≡ start (mechanisms_of mechanisms (marked mechanisms matrix)) (c + 1)) × (take next out' ≡ joined (c + 1) (mechanisms_of mechanisms (marked mechanisms matrix)))
  unfolding joined
  rows_turn place next out out' p t q u =
      let f = mechanisms_of mechanisms (marked mechanisms matrix) in
      rw add-one (omega (arith, ap length rows_marks, start_suc f c), u ∙ ap (λ (x : List ℕ). x ++ marks (take (end - base) (drop base matrix))) t ∙ ap (λ (x : List ℕ). joined c f ++ x) rows_marks)

  -- the next row begins where this one ends
  pub rows_base : end ≡ (c + 1) * mechanisms
  rows_base = rw add-one (omega (arith, suc-mul c mechanisms))

-- all rows written are all entries
pub rows_end : (checks mechanisms : ℕ) (matrix : List ℕ) → length matrix ≡ checks * mechanisms → (c place : ℕ) (out : List ℕ) → c ≡ checks
    → place ≡ start (mechanisms_of mechanisms (marked mechanisms matrix)) c → take place out ≡ joined c (mechanisms_of mechanisms (marked mechanisms matrix))
    → length out ≡ count_edges matrix → out ≡ entries checks mechanisms (marked mechanisms matrix)
unfolding entries
rows_end checks mechanisms matrix long c place out e p t l =
    let f = mechanisms_of mechanisms (marked mechanisms matrix) in
    sym (take_all place out (omega (arith, l, ap (start f) e, length_joined f checks, matrix_edges checks mechanisms matrix long))) ∙ t ∙ ap (λ (n : ℕ). joined n f) e

-- before the first row
pub rows_none : (mechanisms : ℕ) (f : ℕ → List ℕ) (out : List ℕ) → (0 ≡ 0 * mechanisms) × (0 ≡ start f 0) × (take 0 out ≡ joined 0 f)
unfolding joined
rows_none mechanisms f out = (sym (zero-mul mechanisms), sym (start_zero f), refl)

-- and the first offset written
pub offset_none : (f : ℕ → List ℕ) (xs ys : List ℕ) → 0 < length xs → ys ≡ set xs 0 0 → (k : ℕ) → k < 0 + 1 → get_or ys k 0 ≡ start f k
offset_none f xs ys h e = filled_turn (start f) xs ys 0 0 h e (sym (start_zero f)) (λ k l. absurd (omega arith))
