-- Rising lists: that each is above all before it, and so none of them; when one is all of `passing`, and when parts make a whole. Assumes nothing.
use mathlib.Core.Bool.{Bool, true, false, true≢false}
use mathlib.Core.List.{List}
use mathlib.Core.Logic.{⊎_elim}
use mathlib.Core.Path.{◌≡◌, sym, ap, ◌∙◌}
use Prim.Native.Nat.{ℕ, zero, suc, ◌+◌, ◌-◌, ◌<◌, ◌≤◌}
use native.Mathlib.Omega.{arith}
use lib.ListN.{length, get_or, take}
use lib.Seq.{length-take-le, get_or-take, ext_get_or, take-add, take_all}
use Rattle.numbers.proofs.Cases.{either, less_or_not, equal_or_not, last_or_before}
use Rattle.numbers.proofs.Loops.{is_table}
use Rattle.numbers.specs.Loops.{row}
use Rattle.graph_lists.specs.Lists.{has, passing, joined, start, offsets}
use Rattle.graph_lists.specs.Sound.{Offsets, Rising}
use Rattle.graph_lists.proofs.Cuts.{offsets_rise}
use Rattle.graph_lists.proofs.Passing.{passing_none, length_yes, length_no, passing_at, passing_counts}
use Rattle.graph_lists.proofs.Rows.{has_place}

-- where each of the first n is above the one before it, each is above all before it
pub steps_rise : (xs : List ℕ) (n : ℕ) → ((i : ℕ) → suc i < n → get_or xs i 0 < get_or xs (suc i) 0) → (i j : ℕ) → i < j → j < n → get_or xs i 0 < get_or xs j 0
steps_rise xs n h i zero l m = absurd (omega arith)
steps_rise xs n h i (suc j) l m = ⊎_elim (λ (e : i ≡ j). rw e (h j m)) (λ k. omega (arith, steps_rise xs n h i j k (omega arith), h j m)) (last_or_before i j l)

-- what is above all before it is none of them
pub above_new : (xs : List ℕ) (i : ℕ) → i < length xs → ((j : ℕ) → j < i → get_or xs j 0 < get_or xs i 0) → has (take i xs) (get_or xs i 0) ≡ false
above_new xs i h above = ⊎_elim old (λ e. e) (either (has (take i xs) (get_or xs i 0)))
  where
    old : has (take i xs) (get_or xs i 0) ≡ true → has (take i xs) (get_or xs i 0) ≡ false
    old e =
        let w = has_place (take i xs) (get_or xs i 0) e in
        let l : w.0 < i = rw (length-take-le i xs (omega arith)) at w.1 in
        absurd (omega (arith, above w.0 l, sym (get_or-take i xs w.0 0 l) ∙ w.2))

module _ (p : ℕ → Bool) (n : ℕ) (us : List ℕ) (r : Rising n us) (passes : (q : ℕ) → q < length us → p (get_or us q 0) ≡ true) where
  -- each that passes counts more before it than the last
  step : (q : ℕ) → suc q < length us → length (passing (get_or us q 0) p) < length (passing (get_or us (suc q) 0) p)
  step q h = passing_counts p (get_or us q 0) (get_or us (suc q) 0) (r.rises q (suc q) (omega arith) h) (passes q (omega arith))

  -- so at least q pass before the q-th
  up : (q : ℕ) → q < length us → q ≤ length (passing (get_or us q 0) p)
  up zero h = omega arith
  up (suc q) h = omega (arith, up q (omega arith), step q h)

  -- and after it at least as many as are left
  down : (d q : ℕ) → length us ≡ q + suc d → length (passing (get_or us q 0) p) + suc d ≤ length (passing n p)
  down zero q h = omega (arith, passing_counts p (get_or us q 0) n (r.below q (omega arith)) (passes q (omega arith)))
  down (suc d) q h = omega (arith, down d (suc q) (omega arith), step q (omega arith))

  -- a rising list of some that pass is no longer than all of them
  pub few : length us ≤ length (passing n p)
  few = ⊎_elim (λ l. let e : length us ≡ 0 + suc (length us - 1) = omega arith in omega (arith, down (length us - 1) 0 e)) (λ l. omega arith) (less_or_not 0 (length us))

  -- and is all of them, if it is as long
  pub full : length us ≡ length (passing n p) → us ≡ passing n p
  full e = ext_get_or 0 us (passing n p) e at
    where
      at : (q : ℕ) → q < length us → get_or us q 0 ≡ get_or (passing n p) q 0
      at q h =
          let d : length us ≡ q + suc (length us - suc q) = omega arith in
          let c : length (passing (get_or us q 0) p) ≡ q = omega (arith, up q h, down (length us - suc q) q d) in
          sym (passing_at p (get_or us q 0) n (r.below q h) (passes q h)) ∙ ap (λ (x : ℕ). get_or (passing n p) x 0) c

  -- where those below i end
  record Split (i q : ℕ) : Type 0 where
    within : q ≤ length us
    low : (x : ℕ) → x < q → get_or us x 0 < i
    high : (x : ℕ) → q ≤ x → x < length us → i ≤ get_or us x 0

  module _ (all : (i : ℕ) → i < n → p i ≡ true → (j : ℕ) × (j < length us) × (get_or us j 0 ≡ i)) where
    -- they end where the count of those that pass below i says
    split : (i : ℕ) → i ≤ n → Split i (length (passing i p))
    split zero h = rw (passing_none p) (record { within = omega arith; low = λ x l. absurd (omega arith); high = λ x l m. omega arith })
    split (suc i) h =
        let s = split i (omega arith) in
        let q : ℕ = length (passing i p) in
        ⊎_elim
        (λ t.
        let w = all i h t in
        let here : w.0 ≡ q =
        ⊎_elim
        (λ l. absurd (omega (arith, s.low w.0 l, w.2)))
        (λ l. ⊎_elim (λ m. absurd (omega (arith, r.rises q w.0 m w.1, s.high q (omega arith) (omega (arith, w.1)), w.2))) (λ m. omega arith) (less_or_not q w.0))
        (less_or_not w.0 q) in
        let at : get_or us q 0 ≡ i = rw here at w.2 in
        rw
        (length_yes p i t)
        (record {
          within = omega (arith, w.1);
          low = λ x l. ⊎_elim (λ (e : x ≡ q). rw e (omega arith)) (λ m. omega (arith, s.low x m)) (last_or_before x q l);
          high = λ x l m. omega (arith, r.rises q x l m);
        }))
        (λ t.
        rw
        (length_no p i t)
        (record {
          within = s.within;
          low = λ x l. omega (arith, s.low x l);
          high = λ x l m.
              ⊎_elim
              (λ (e : get_or us x 0 ≡ i). absurd (true≢false (sym (rw e at (passes x m)) ∙ t)))
              (λ e. ⊎_elim (λ k. k) (λ k. absurd (e (omega (arith, s.high x l m)))) (less_or_not i (get_or us x 0)))
              (equal_or_not (get_or us x 0) i);
        }))
        (either (p i))

    -- so a rising list that has all that pass is all of them
    pub all_full : us ≡ passing n p
    all_full =
        let s = split n (omega arith) in
        full (⊎_elim (λ l. absurd (omega (
          arith,
          s.high (length (passing n p))
              (omega arith) l,
          r.below (length (passing n p)) l,
        ))) (λ l. omega (arith, s.within)) (less_or_not (length (passing n p)) (length us)))

-- ---- a list that is cut into parts

module _ (rows : ℕ) (off xs : List ℕ) (o : Offsets rows (length xs) off) (f : ℕ → List ℕ) (same_parts : (r : ℕ) → r < rows → row off r xs ≡ f r) where
  -- the parts before r, one after the other
  front : (r : ℕ) → r ≤ rows → take (get_or off r 0) xs ≡ joined r f
  unfolding joined
  front zero h = rw o.starts
  front (suc r) h =
      ap (λ (x : ℕ). take x xs) (cut r h) ∙ take-add (get_or off r 0) (get_or off (suc r) 0 - get_or off r 0) xs ∙ rw (front r (omega arith), same_parts r h)
    where
      cut : (r : ℕ) → r < rows → get_or off (suc r) 0 ≡ get_or off r 0 + (get_or off (suc r) 0 - get_or off r 0)
      cut r h = omega (arith, o.rises r h)

  -- parts that are f 0, f 1, .. make the list of all of them
  pub parts_joined : xs ≡ joined rows f
  parts_joined = sym (take_all (get_or off rows 0) xs (omega (arith, o.ends))) ∙ front rows (omega arith)

  -- with their offsets
  pub parts_offsets : off ≡ offsets rows f
  unfolding offsets start
  parts_offsets =
      is_table (suc rows) (start f) off o.many
      (λ r l. sym (length-take-le (get_or off r 0) xs (omega (arith, o.ends, offsets_rise rows (length xs) off o r rows (omega arith) (omega arith)))) ∙ ap length (front r (omega arith)))
