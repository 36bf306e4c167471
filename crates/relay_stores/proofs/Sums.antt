-- Sums over lists of numbers: over the parts that offsets cut out, over an order that names each once, and how often a number stands in a list by its
-- places. Assumes nothing.
use Prim.Native.Nat.{ℕ, zero, suc, ◌+◌, ◌<◌, ◌≤◌}
use mathlib.Core.Path.{◌≡◌, refl, sym, ap, ◌∙◌}
use mathlib.Core.Logic.{⊎_elim}
use mathlib.Core.List.{List, [], ◌∷◌, ◌++◌}
use native.Mathlib.Omega.{arith}
use lib.ListN.{length, get_or, take}
use lib.Seq.{take_all}
use Rattle.numbers.specs.Loops.{row}
use Rattle.numbers.proofs.Cases.{equal_or_not}
use Rattle.graph_lists.specs.Lists.{passing, joined, stands, places}
use Rattle.graph_lists.specs.Sound.{Offsets}
use Rattle.graph_lists.proofs.Passing.{passing_none, length_yes, length_no}
use Rattle.graph_lists.proofs.Rising.{parts_joined}
use Rattle.graph_lists.proofs.Slots.{stands_yes, stands_no}
use Rattle.relay_orders.specs.Order.{count, NamesOnce}
use Rattle.relay_orders.proofs.Counts.{count_same, count_other, sum_below, sum_over, sum_over_lem, sum_once, over_one, names_below}
use Rattle.relay_orders.proofs.OrderTests.{count_take}

-- weights that agree below n
pub sum_same : (n : ℕ) (f h : ℕ → ℕ) → ((k : ℕ) → k < n → f k ≡ h k) → sum_below n f ≡ sum_below n h
sum_same zero f h e = refl
sum_same (suc n) f h e = rw (sum_same n f h (λ k l. e k (omega arith)), e n (omega arith))

-- two weights together
pub over_add : (f h : ℕ → ℕ) (xs : List ℕ) → sum_over (λ x. f x + h x) xs ≡ sum_over f xs + sum_over h xs
over_add f h [] = omega arith
over_add f h (x ∷ xs) = omega (arith, over_add f h xs)

module _ (w : ℕ → ℕ) where
  -- two lists together
  over_append : (xs ys : List ℕ) → sum_over w (xs ++ ys) ≡ sum_over w xs + sum_over w ys
  over_append [] ys = omega arith
  over_append (x ∷ xs) ys = omega (arith, over_append xs ys)

  -- joined lists
  over_joined : (n : ℕ) (f : ℕ → List ℕ) → sum_below n (λ r. sum_over w (f r)) ≡ sum_over w (joined n f)
  unfolding joined
  over_joined zero f = refl
  over_joined (suc n) f = rw (over_joined n f) (sym (over_append (joined n f) (f n)))

  -- the parts that offsets cut out make all
  pub over_rows : (rows : ℕ) (off xs : List ℕ) → Offsets rows (length xs) off → sum_below rows (λ r. sum_over w (row off r xs)) ≡ sum_over w xs
  over_rows rows off xs o = over_joined rows (λ r. row off r xs) ∙ ap (sum_over w) (sym (parts_joined rows off xs o (λ r. row off r xs) (λ r h. refl)))

  -- an order that names each once sums like the index order
  pub over_order : {n : ℕ} {order : List ℕ} → NamesOnce n order → sum_over w order ≡ sum_below n w
  over_order {n} {order} h = sym (sum_over_lem w n (names_below h)) ∙ sum_once w n order h.once_each

-- the parts' lengths make the length of all
pub rows_length : (rows : ℕ) (off xs : List ℕ) → Offsets rows (length xs) off → sum_below rows (λ r. length (row off r xs)) ≡ length xs
rows_length rows off xs o = sum_same rows _ _ (λ r h. sym (over_one (row off r xs))) ∙ over_rows (λ x. 1) rows off xs o ∙ over_one xs

-- the places before i, by how often the number stands there
places_to_lem : (xs : List ℕ) (k i : ℕ) → i ≤ length xs → length (passing i (stands xs k)) ≡ count k (take i xs)
unfolding count
places_to_lem xs k zero h = rw (passing_none (stands xs k))
places_to_lem xs k (suc i) h =
    let r = places_to_lem xs k i (omega arith) in
    rw (count_take k xs i h)
    (⊎_elim
    (λ (e : get_or xs i 0 ≡ k). length_yes (stands xs k) i (stands_yes xs k i e) ∙ ap suc r ∙ rw e (sym (count_same k (take i xs))))
    (λ (e : get_or xs i 0 ≡ k → ⊥). length_no (stands xs k) i (stands_no xs k i e) ∙ r ∙ sym (count_other k (get_or xs i 0) (take i xs) e))
    (equal_or_not (get_or xs i 0) k))

-- a number has as many places as it stands often
pub places_many : (xs : List ℕ) (k : ℕ) → length (places xs k) ≡ count k xs
unfolding places
places_many xs k = places_to_lem xs k (length xs) (omega arith) ∙ ap (count k) (take_all (length xs) xs (omega arith))
