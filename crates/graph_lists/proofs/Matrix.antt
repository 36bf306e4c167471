-- A dense matrix, check by check: what its rows mark are the checks of the graph of its incidences, and as many are marked as it has nonzero bytes.
-- Assumes nothing.
use mathlib.Core.Bool.{not}
use mathlib.Core.List.{List, [], ◌∷◌, ◌++◌}
use mathlib.Core.Logic.{⊎_elim}
use mathlib.Core.Path.{◌≡◌, refl, sym, ap, ◌∙◌}
use Prim.Native.Nat.{ℕ, ◌*◌, zero, suc, ◌+◌, ◌-◌, ◌<◌, ◌≤◌}
use native.Mathlib.Nat.{mul-le-mul_right, suc-mul, zero-mul}
use native.Mathlib.Omega.{arith}
use lib.Dec.{eqb}
use lib.ListN.{length, get_or, take, drop, length-append}
use lib.Seq.{take-add, take_all, take-suc}
use borrow.Author.Tests.{eq-eqb, ne_eqb}
use Rattle.numbers.proofs.Cases.{either}
use Rattle.numbers.proofs.Loops.{length_part, get_d_part}
use Rattle.numbers.specs.Loops.{part}
use Rattle.graph_lists.specs.Graph.{mechanisms_of, entries, marked}
use Rattle.graph_lists.specs.Lists.{passing, start}
use Rattle.graph_lists.specs.Model.{count_edges}
use Rattle.graph_lists.specs.Steps.{nonzero, of_byte, marks}
use Rattle.graph_lists.proofs.Passing.{passing_none, passing_same, start_zero, start_suc, length_joined}

-- ---- counting

-- two lists, one after the other
count_append : (xs ys : List ℕ) → count_edges (xs ++ ys) ≡ count_edges xs + count_edges ys
unfolding count_edges
count_append [] ys = omega arith
count_append (x ∷ xs) ys =
    ⊎_elim
    (λ e. rw e (count_append xs ys))
    (λ e. rw e (omega (arith, count_append xs ys)))
    (either (eqb x 0))

-- one byte by itself
count_one : (x m : ℕ) → count_edges (x ∷ []) ≡ length (of_byte x m)
unfolding count_edges of_byte
count_one x m = ⊎_elim (λ e. rw e) (λ e. rw e) (either (eqb x 0))

-- one byte more
pub count_take : (xs : List ℕ) (i m : ℕ) → i < length xs → count_edges (take (suc i) xs) ≡ count_edges (take i xs) + length (of_byte (get_or xs i 0) m)
count_take xs i m h = ap count_edges (take-suc xs i 0 h) ∙ count_append (take i xs) (get_or xs i 0 ∷ []) ∙ ap (λ (k : ℕ). count_edges (take i xs) + k) (count_one (get_or xs i 0) m)

-- at most one for each byte
pub count_few : (xs : List ℕ) → count_edges xs ≤ length xs
unfolding count_edges
count_few [] = omega arith
count_few (x ∷ xs) = let r = count_few xs in ⊎_elim (λ e. rw e (omega arith)) (λ e. rw e (omega arith)) (either (eqb x 0))

-- none before the first
pub count_none : (xs : List ℕ) → count_edges (take 0 xs) ≡ 0
unfolding count_edges
count_none xs = refl

-- ---- one byte

-- a zero byte adds nothing
pub of_byte_none : (byte m : ℕ) → byte ≡ 0 → of_byte byte m ≡ []
unfolding of_byte
of_byte_none byte m e = rw (eq-eqb byte 0 e)

-- another adds its mechanism
pub of_byte_one : (byte m : ℕ) → (byte ≡ 0 → ⊥) → of_byte byte m ≡ m ∷ []
unfolding of_byte
of_byte_one byte m n = rw (ne_eqb byte 0 n)

-- one byte more of a row
pub marks_suc : (bytes : List ℕ) (m : ℕ) → passing (suc m) (nonzero bytes) ≡ passing m (nonzero bytes) ++ of_byte (get_or bytes m 0) m
unfolding passing nonzero of_byte
marks_suc bytes m = refl

-- as many are marked as bytes are not zero
marks_count : (bytes : List ℕ) (i : ℕ) → i ≤ length bytes → count_edges (take i bytes) ≡ length (passing i (nonzero bytes))
marks_count bytes zero h = count_none bytes ∙ sym (ap length (passing_none (nonzero bytes)))
marks_count bytes (suc i) h =
    count_take bytes i i h
    ∙ omega (
      arith,
      marks_count bytes i (omega arith),
      ap length (marks_suc bytes i),
      length-append (passing i (nonzero bytes)) (of_byte (get_or bytes i 0) i),
    )

-- of a whole row
pub marks_many : (bytes : List ℕ) → count_edges bytes ≡ length (marks bytes)
unfolding marks
marks_many bytes = ap count_edges (sym (take_all (length bytes) bytes (omega arith))) ∙ marks_count bytes (length bytes) (omega arith)

-- ---- all rows

module _ (checks mechanisms : ℕ) (matrix : List ℕ) (long : length matrix ≡ checks * mechanisms) where
  -- a check's row lies within the matrix
  pub row_room : (c : ℕ) → c < checks → c * mechanisms + mechanisms ≤ length matrix
  row_room c h = omega (arith, mul-le-mul_right mechanisms h, suc-mul c mechanisms)

  -- its byte m is the incidence's
  row_byte : (c m : ℕ) → c < checks → m < mechanisms → nonzero (part (c * mechanisms) (c * mechanisms + mechanisms) matrix) m ≡ marked mechanisms matrix c m
  unfolding nonzero marked
  row_byte c m h l = ap (λ (x : ℕ). not (eqb x 0)) (get_d_part (c * mechanisms) (c * mechanisms + mechanisms) matrix m 0 (omega arith))

  -- what the row marks are the check's mechanisms
  pub row_marks : (c : ℕ) → c < checks → marks (part (c * mechanisms) (c * mechanisms + mechanisms) matrix) ≡ mechanisms_of mechanisms (marked mechanisms matrix) c
  unfolding marks mechanisms_of
  row_marks c h =
      let bytes = part (c * mechanisms) (c * mechanisms + mechanisms) matrix in
      let many : length bytes ≡ mechanisms = length_part (c * mechanisms) (c * mechanisms + mechanisms) matrix (row_room c h) ∙ omega arith in
      ap (λ (n : ℕ). passing n (nonzero bytes)) many ∙ passing_same mechanisms (nonzero bytes) (marked mechanisms matrix c) (λ m l. row_byte c m h l)

  -- the rows before c
  rows_count : (c : ℕ) → c ≤ checks → count_edges (take (c * mechanisms) matrix) ≡ start (mechanisms_of mechanisms (marked mechanisms matrix)) c
  rows_count zero h = ap (λ (n : ℕ). count_edges (take n matrix)) (zero-mul mechanisms) ∙ count_none matrix ∙ sym (start_zero (mechanisms_of mechanisms (marked mechanisms matrix)))
  rows_count (suc c) h =
      let b : ℕ = c * mechanisms in
      let same_end : b + mechanisms - b ≡ mechanisms = omega arith in
      ap (λ (n : ℕ). count_edges (take n matrix)) (suc-mul c mechanisms)
      ∙ ap count_edges (take-add b mechanisms matrix)
      ∙ count_append (take b matrix) (take mechanisms (drop b matrix))
      ∙ omega (
        arith,
        rows_count c (omega arith),
        ap (λ (n : ℕ). count_edges (take n (drop b matrix))) same_end,
        marks_many (part b (b + mechanisms) matrix),
        ap length (row_marks c h),
        start_suc (mechanisms_of mechanisms (marked mechanisms matrix)) c,
      )

  -- the graph has as many edges as the matrix has nonzero bytes
  pub matrix_edges : length (entries checks mechanisms (marked mechanisms matrix)) ≡ count_edges matrix
  unfolding entries
  matrix_edges =
      length_joined (mechanisms_of mechanisms (marked mechanisms matrix)) checks
      ∙ sym (rows_count checks (omega arith))
      ∙ ap count_edges (take_all (checks * mechanisms) matrix (omega arith))
