-- A list that offsets cut into parts: which part a place lies in, and where a part ends. Assumes nothing.
use mathlib.Core.List.{List}
use mathlib.Core.Logic.{⊎_elim}
use mathlib.Core.Path.{◌≡◌, sym}
use Prim.Native.Nat.{ℕ, zero, suc, ◌+◌, ◌<◌, ◌≤◌}
use native.Mathlib.Numerals.{add-one}
use native.Mathlib.Omega.{arith}
use lib.ListN.{get_or}
use borrow.Author.Tests.{le-leb, lt-leb}
use Rattle.numbers.proofs.Cases.{less_or_not, equal_or_not, last_or_before}
use Rattle.graph_lists.specs.Sound.{Offsets}
use Rattle.graph_lists.specs.Steps.{row_of}

module _ (rows n : ℕ) (off : List ℕ) (o : Offsets rows n off) where
  -- offsets rise over any distance
  pub offsets_rise : (a b : ℕ) → a ≤ b → b ≤ rows → get_or off a 0 ≤ get_or off b 0
  offsets_rise a zero h l = let e : a ≡ 0 = omega arith in rw e (omega arith)
  offsets_rise a (suc b) h l =
      ⊎_elim (λ e. rw e (omega arith)) (λ d. let r = offsets_rise a b (omega arith) (omega arith) in omega (arith, o.rises b l)) (equal_or_not a (suc b))

  -- a part ends within the list
  pub row_end : (r : ℕ) → r < rows → get_or off (suc r) 0 ≤ n
  row_end r h = omega (arith, o.ends, offsets_rise (suc r) rows h (omega arith))

  -- the part that a place lies in, among the first m
  row_of_to : (m r j : ℕ) → r < m → m ≤ rows → get_or off r 0 ≤ j → j < get_or off (suc r) 0 → row_of off m j ≡ r
  unfolding row_of
  row_of_to zero r j h l a b = absurd (omega arith)
  row_of_to (suc m) r j h l a b =
      ⊎_elim
      (λ e. rw (le-leb (get_or off m 0) j (rw e at a)) (sym e))
      (λ d. rw (lt-leb (get_or off m 0) j (omega (arith, offsets_rise (suc r) m d (omega arith)))) (row_of_to m r j d (omega arith) a b))
      (last_or_before r m h)

  -- the part that a place lies in is the one between whose offsets it stands
  pub row_of_lem : (r j : ℕ) → r < rows → get_or off r 0 ≤ j → j < get_or off (suc r) 0 → row_of off rows j ≡ r
  row_of_lem r j h a b = row_of_to rows r j h (omega arith) a b

  -- the place j lies in the part r
  pub record Row (j r : ℕ) : Type 0 where
    pub below : r < rows
    pub from : get_or off r 0 ≤ j
    pub to : j < get_or off (suc r) 0

  -- some part holds the place
  find : (m j : ℕ) → m ≤ rows → j < get_or off m 0 → (r : ℕ) × Row j r
  find zero j h l = absurd (omega (arith, o.starts))
  find (suc m) j h l =
      ⊎_elim
      (λ d. find m j (omega arith) d)
      (λ g. (m, record { below = omega arith; from = g; to = l }))
      (less_or_not j (get_or off m 0))

  -- and `row_of` says which
  pub row_is : (j : ℕ) → j < n → Row j (row_of off rows j)
  row_is j l = let w = find rows j (omega arith) (omega (arith, o.ends)) in rw (row_of_lem w.0 j w.1.below w.1.from w.1.to) w.1

-- where a part begins and ends, as the code reads it
pub cut_bounds : (rows n : ℕ) (off : List ℕ) (r a e : ℕ) → Offsets rows n off → r < rows → a ≡ get_or off r 0 → e ≡ get_or off (r + 1) 0 → (a ≤ e) × (e ≤ n)
cut_bounds rows n off r a e o h p q = let w : e ≡ get_or off (suc r) 0 = rw add-one at q in (omega (arith, o.rises r h), omega (arith, row_end rows n off o r h))

-- the place i lies in the part r, and k stands there
pub record Met (off ks : List ℕ) (k r i : ℕ) : Type 0 where
  pub from : get_or off r 0 ≤ i
  pub to : i < get_or off (suc r) 0
  pub is : get_or ks i 0 ≡ k
