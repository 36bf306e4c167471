-- Tests 3 to 6 of docs/REFERENCE.md one by one: what each tells where it is passed, and each as the code has it. Assumes nothing.
use mathlib.Core.Bool.{Bool, true, false, ◌||◌, not, or_assoc, or-false, true≢false, false≢true}
use mathlib.Core.List.{List, [], ◌∷◌, ◌++◌}
use mathlib.Core.Logic.{⊎_elim}
use mathlib.Core.Path.{◌≡◌, refl, sym, ap, ◌∙◌}
use Prim.Native.Nat.{ℕ, zero, suc, ◌+◌, ◌-◌, ◌<◌, ◌≤◌}
use native.Mathlib.Numerals.{add-one}
use native.Mathlib.Omega.{arith}
use lib.Dec.{eqb}
use lib.ListN.{length, get_or, take, drop}
use lib.Seq.{get_or-take, length-take-le, take-suc}
use borrow.Author.Tests.{le-leb, lt-leb, le-ltb, ltb-true, leb-true, eqb-true, lt-ltb, ne_eqb}
use Rattle.numbers.proofs.Cases.{last_or_before, less_or_not, and_both}
use Rattle.numbers.proofs.Loops.{every_at, length_part, get_d_part}
use Rattle.numbers.specs.Loops.{part}
use Rattle.refusals.proofs.Tests.{or_done, unless_done, first_all, first_none, first_stop, first_rest}
use Rattle.refusals.specs.Tests.{is_done, unless, or_else, first_of}
use Rattle.refusals.specs.Refusal.{Answer}
use Rattle.std.specs.Prelude.{Ok, Err}
use Rattle.refusals.specs.declared.Refusal.TheVariants.{DetectorOutOfRange, DetectorRepeated}
use Rattle.graph_lists.specs.Lists.{has}
use Rattle.graph_lists.specs.Model.{rising, offsets_good, detector_fault, mechanism_fault, mechanism_test}
use Rattle.graph_lists.specs.Sound.{Offsets, RisesTo}
use Rattle.graph_lists.specs.Steps.{Valid}
use Rattle.graph_lists.proofs.Cuts.{Row, row_is, row_end}
use Rattle.graph_lists.proofs.Rising.{steps_rise, above_new}
use Rattle.graph_lists.proofs.Rows.{has_at}

-- ---- repeats

-- what is in two lists, one after the other, is in one of them
has_append : (xs ys : List ℕ) (x : ℕ) → has (xs ++ ys) x ≡ (has xs x || has ys x)
unfolding has
has_append [] ys x = refl
has_append (y ∷ xs) ys x = rw (has_append xs ys x) (sym (or_assoc (eqb y x) (has xs x) (has ys x)))

-- one detector more that is another
pub repeat_turn : (ds : List ℕ) (j d e : ℕ) → j < length ds → e ≡ get_or ds j 0 → has (take j ds) d ≡ false → (e ≡ d → ⊥) → has (take (j + 1) ds) d ≡ false
unfolding has
repeat_turn ds j d e l q h n = rw (add-one, take-suc ds j 0 l, has_append, h, ne_eqb (get_or ds j 0) d (λ z. n (q ∙ z)))

-- one detector more
pub repeat_more : (ds : List ℕ) (j d e : ℕ) → j < length ds → e ≡ get_or ds j 0 → has (take (j + 1) ds) d ≡ (has (take j ds) d || eqb e d)
unfolding has
repeat_more ds j d e l q = rw (add-one, take-suc ds j 0 l, has_append, q, or-false (eqb (get_or ds j 0) d)) refl

-- one that is the same
pub repeat_found : (ds : List ℕ) (i j d e : ℕ) → j < i → i ≤ length ds → e ≡ get_or ds j 0 → e ≡ d → has (take i ds) d ≡ true
repeat_found ds i j d e l m q z = has_at (take i ds) j d (rw (length-take-le i ds m) l) (get_or-take i ds j 0 l ∙ sym q ∙ z)

-- ---- what the tests tell

-- offsets that pass 3 cut the list
pub offsets_told : (rows n : ℕ) (off : List ℕ) → length off ≡ suc rows → offsets_good rows n off ≡ true → Offsets rows n off
unfolding offsets_good rising
offsets_told rows n off l h =
    let a = and_both _ _ h in
    let b = and_both _ _ a.1 in
    record {
      many = l;
      starts = eqb-true _ _ a.0;
      rises = λ r m. leb-true _ _ (every_at rows (rising off) b.0 r m);
      ends = eqb-true _ _ b.1;
    }

-- a detector that passes 5 and 6 is in range and new
detector_told : (checks m : ℕ) (ds : List ℕ) (i : ℕ) → detector_fault checks m ds i ≡ Ok tt → (get_or ds i 0 < checks) × (has (take i ds) (get_or ds i 0) ≡ false)
unfolding detector_fault
detector_told checks m ds i h =
    let w = or_done _ _ h in
    (ltb-true _ _ (unless_done _ (DetectorOutOfRange m) w.0), flip _ (unless_done _ (DetectorRepeated m) w.1))
  where
    flip : (b : Bool) → not b ≡ true → b ≡ false
    flip true e = absurd (false≢true e)
    flip false e = refl

-- so is each of a mechanism's
mech_told : (checks m : ℕ) (given : Answer) (ds : List ℕ) → mechanism_test checks m given ds ≡ Ok tt → (i : ℕ) → i < length ds → (get_or ds i 0 < checks) × (has (take i ds) (get_or ds i 0) ≡ false)
unfolding mechanism_test
mech_told checks m given ds h i l = detector_told checks m ds i (first_all (detector_fault checks m ds) (length ds) (or_done _ _ h).1 i l)

module _ (checks mechanisms : ℕ) (given : ℕ → Answer) (off dets : List ℕ) (o : Offsets mechanisms (length dets) off)
    (h : first_of mechanisms (mechanism_fault checks given off dets) ≡ Ok tt) where
  -- of the place i of m's part
  at_told : (m i : ℕ) → Row mechanisms (length dets) off o i m
      → (get_or dets i 0 < checks) × ((j : ℕ) → get_or off m 0 ≤ j → j < i → get_or dets j 0 ≡ get_or dets i 0 → ⊥)
  unfolding mechanism_fault
  at_told m i r =
      let a = get_or off m 0 in
      let e = get_or off (suc m) 0 in
      let room : e ≤ length dets = row_end mechanisms (length dets) off o m r.below in
      let long : length (part a e dets) ≡ e - a = length_part a e dets room in
      let place : i - a < e - a = omega (arith, r.from, r.to) in
      let t = mech_told checks m (given m) (part a e dets) (first_all _ mechanisms h m r.below) (i - a) (rw long place) in
      let here : get_or (part a e dets) (i - a) 0 ≡ get_or dets i 0 = get_d_part a e dets (i - a) 0 (omega (arith, r.from, r.to)) ∙ ap (λ (x : ℕ). get_or dets x 0) (omega (arith, r.from)) in (
        rw here at t.0,
        λ j l k q.
            let there : get_or (part a e dets) (j - a) 0 ≡ get_or dets j 0 = get_d_part a e dets (j - a) 0 (omega (arith, r.to)) ∙ ap (λ (x : ℕ). get_or dets x 0) (omega arith) in
            true≢false
            (sym (repeat_found (part a e dets) (i - a) (j - a) (get_or (part a e dets) (i - a) 0) _ (omega arith) (rw long (omega (arith, r.to))) refl (there ∙ q ∙ sym here)) ∙ t.1),
      )

  -- a model that passes 3 to 6 is valid
  pub valid_told : Valid checks mechanisms off dets
  valid_told =
      record {
        cut = o;
        keys = record { small = λ j l. (at_told _ j (row_is mechanisms (length dets) off o j l)).0 };
        distinct = record { apart = λ r i j k a b e. (at_told r j (record { below = k; from = omega arith; to = e })).1 i a b };
      }

-- nor is the number of any mechanism refused
pub given_told : (checks mechanisms : ℕ) (given : ℕ → Answer) (off dets : List ℕ) → first_of mechanisms (mechanism_fault checks given off dets) ≡ Ok tt → first_of mechanisms given ≡ Ok tt
unfolding mechanism_fault mechanism_test
given_told checks mechanisms given off dets h =
    first_none given mechanisms (λ m l. (or_done _ _ (first_all (mechanism_fault checks given off dets) mechanisms h m l)).0)

-- ---- single tests, as the code has them

-- an offset that is not below the one before it
pub rising_yes : (off : List ℕ) (r a b : ℕ) → a ≡ get_or off r 0 → b ≡ get_or off (r + 1) 0 → a ≤ b → rising off r ≡ true
unfolding rising
rising_yes off r a b p q h = let e : b ≡ get_or off (suc r) 0 = rw add-one at q in le-leb (get_or off r 0) (get_or off (suc r) 0) (omega arith)

-- one that is
pub rising_no : (off : List ℕ) (r a b : ℕ) → a ≡ get_or off r 0 → b ≡ get_or off (r + 1) 0 → b < a → rising off r ≡ false
unfolding rising
rising_no off r a b p q h = let e : b ≡ get_or off (suc r) 0 = rw add-one at q in lt-leb (get_or off r 0) (get_or off (suc r) 0) (omega arith)

-- a detector out of range
pub detector_range : (checks m : ℕ) (ds : List ℕ) (i d : ℕ) → d ≡ get_or ds i 0 → checks ≤ d → Err (DetectorOutOfRange m) ≡ detector_fault checks m ds i
unfolding detector_fault or_else unless
detector_range checks m ds i d p h = rw (le-ltb (get_or ds i 0) checks (omega arith))

-- repeated
pub detector_repeat : (checks m : ℕ) (ds : List ℕ) (i d : ℕ) → d ≡ get_or ds i 0 → d < checks → has (take i ds) d ≡ true → Err (DetectorRepeated m) ≡ detector_fault checks m ds i
unfolding detector_fault or_else unless
detector_repeat checks m ds i d p h t = rw (lt-ltb (get_or ds i 0) checks (omega arith), rw p at t)

-- neither
pub detector_fine : (checks m : ℕ) (ds : List ℕ) (i d : ℕ) → d ≡ get_or ds i 0 → d < checks → has (take i ds) d ≡ false → (Ok tt) ≡ detector_fault checks m ds i
unfolding detector_fault or_else unless
detector_fine checks m ds i d p h t = rw (lt-ltb (get_or ds i 0) checks (omega arith), rw p at t)

-- ---- the rising front of a mechanism's detectors

module _ (checks m : ℕ) (ds : List ℕ) (r : ℕ) (f : RisesTo ds r) where
  -- the tests of the detectors, one by one
  abbrev Test : ℕ → Answer
  Test = detector_fault checks m ds

  -- each of the front is above all before it
  front_above : (i j : ℕ) → i < j → j ≤ r → get_or ds i 0 < get_or ds j 0
  front_above i j l k = steps_rise ds (suc r) (λ x h. f.rises x (omega arith)) i j l (omega arith)

  -- so none of it is a repeat
  front_new : (i : ℕ) → i ≤ r → has (take i ds) (get_or ds i 0) ≡ false
  front_new i h = above_new ds i (omega (arith, f.within)) (λ j l. front_above j i l h)

  -- and where one is in range, it and all before it are passed
  front_passed : (i : ℕ) → i ≤ r → get_or ds i 0 < checks → first_of (suc i) Test ≡ Ok tt
  front_passed i h l = first_none Test (suc i) (λ j k. sym (detector_fine checks m ds j _ refl (below j k) (front_new j (omega arith))))
    where
      below : (j : ℕ) → j < suc i → get_or ds j 0 < checks
      below j k = ⊎_elim (λ (e : j ≡ i). rw e l) (λ n. omega (arith, front_above j i n h)) (last_or_before j i k)

  -- what is left to the long way, where the last of the front is in range: the first detector that does not rise and all after it, each against all before it
  pub front_rest : (d from : ℕ) → d ≡ get_or ds r 0 → d < checks → from ≡ r + 1 → first_of (length ds) Test ≡ first_of (length ds - from) (λ j. Test (from + j))
  front_rest d from p h q =
      let e : from ≡ suc r = q ∙ add-one r in
      let n : length ds ≡ from + (length ds - from) = omega (arith, f.within) in
      ap (λ (x : ℕ). first_of x Test) n ∙ first_rest Test from (length ds - from) (rw e (front_passed r (omega arith) (omega arith)))

  -- the first of the front that is out of range is refused with 5
  front_stop : (i : ℕ) → i ≤ r → checks ≤ get_or ds i 0 → first_of i Test ≡ Ok tt → Err (DetectorOutOfRange m) ≡ first_of (length ds) Test
  front_stop i h l e = let x = detector_range checks m ds i _ refl l in x ∙ sym (first_stop Test i (length ds) (omega (arith, f.within)) e (ap is_done (sym x)))

  -- so where any of it is out of range, 5 is the first refusal
  pub front_out : (i : ℕ) → i ≤ r → checks ≤ get_or ds i 0 → Err (DetectorOutOfRange m) ≡ first_of (length ds) Test
  front_out zero h l = front_stop 0 h l (first_none Test 0 (λ j k. absurd (omega arith)))
  front_out (suc i) h l = ⊎_elim (λ k. front_stop (suc i) h l (front_passed i (omega arith) k)) (λ k. front_out i (omega arith) k) (less_or_not (get_or ds i 0) checks)

-- a mechanism of a model, its detectors cut out by the code
pub mech_at : (checks : ℕ) (given : ℕ → Answer) (off dets : List ℕ) (m a e : ℕ) (x : Answer) → a ≡ get_or off m 0 → e ≡ get_or off (m + 1) 0
    → x ≡ mechanism_test checks m (given m) (take (e - a) (drop a dets)) → x ≡ mechanism_fault checks given off dets m
unfolding mechanism_fault
mech_at checks given off dets m a e x p q h = let w : e ≡ get_or off (suc m) 0 = rw add-one at q in rw (← p, ← w) h
