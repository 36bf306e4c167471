-- A payload kept at the front of a list. Assumes nothing.
use Rattle.std.proofs.Common.{◌≡◌, ℕ, ◌<◌, ◌≤◌, List, ◌++◌, length, take, drop, sym, refl, ◌∙◌, arith, drop_of_length-le, take_all}
use mathlib.Core.Logic.{⊎_elim}
use Rattle.std.specs.Prelude.{min}
use Rattle.std.proofs.Math.Nat.{min-le_left, min-le_right, min-eq_left, min-eq_right}
use Rattle.std.proofs.lemmas.Bool.{cases_lt}
use Rattle.stream_reader.specs.Reading.{payload_kept}

module _ (p old : List ℕ) where
  -- up to i the list has the payload's bytes, and from there on its own
  abbrev pub kept_to : ℕ → List ℕ
  kept_to i = take i p ++ drop i old

  -- where the list ends
  pub list_full : (i : ℕ) → i ≤ length p → i ≡ length old → kept_to i ≡ payload_kept p old
  unfolding payload_kept
  list_full i a e = rw (sym e, drop_of_length-le old {i = i} (omega arith), drop_of_length-le old {i = length p} (omega arith)) refl

  -- and where the payload does
  pub payload_ends : (i : ℕ) → i ≤ length old → i ≡ length p → kept_to i ≡ payload_kept p old
  unfolding payload_kept
  payload_ends i a e = rw (sym e, take_all i p (omega arith), take_all (length old) p (omega arith)) refl

-- the shorter of the two ends it
pub kept_front : (p old : List ℕ) (n : ℕ) → n ≡ min (length p) (length old) → take n p ++ drop n old ≡ payload_kept p old
kept_front p old n e =
    ⊎_elim
    (λ (h : length p < length old). payload_ends p old n (omega (arith, e, min-le_right (length p) (length old))) (e ∙ min-eq_left (let l : length p ≤ length old = omega arith in l)))
    (λ (h : length old ≤ length p). list_full p old n (omega (arith, e, min-le_left (length p) (length old))) (e ∙ min-eq_right h))
    (cases_lt (length p) (length old))
