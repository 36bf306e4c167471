-- The tests 23 and 24 say what the reference's words say by place, and the index order passes both. Assumes nothing.
use Prim.Native.Nat.{ℕ, zero, suc, ◌<◌, ◌≤◌}
use mathlib.Core.Path.{◌≡◌, refl, sym, ◌∙◌, ap, subst}
use mathlib.Core.Bool.{Bool, true, false, ◌&&◌, ◌||◌, true≢false}
use mathlib.Core.List.{List, [], ◌∷◌, append-nil}
use mathlib.Core.Logic.{◌↔◌}
use native.Mathlib.Omega.{arith}
use native.Mathlib.Numerals.{add-one}
use native.Mathlib.Decide.{ℕ_discrete}
use lib.Dec.{eqb, ltb}
use lib.ListN.{length, get_or, take, drop}
use lib.Seq.{get_or-take, length-take-le}
use borrow.Author.Tests.{ltb-true, ltb-false, eq-eqb, ne_eqb}
use Rattle.numbers.specs.Loops.{upto}
use Rattle.numbers.proofs.Loops.{length_table, get_or_table}
use Rattle.refusals.specs.declared.Refusal.TheVariants.{OrderExchanged}
use Rattle.refusals.specs.Refusal.{Answer}
use Rattle.std.specs.Prelude.{Ok, Err}
use Rattle.graph_lists.specs.Lists.{has}
use Rattle.graph_lists.specs.Graph.{Graph, check_entries}
use Rattle.relay_settings.specs.declared.Schedule.{Schedule}
use Rattle.relay_settings.specs.declared.Schedule.TheVariants.{Flooding, CheckSerial}
use Rattle.relay_orders.specs.Order.{count, NamesOnce, any_of, shares, above, late, exchanged, exchange_fault, KeepsOrder, FirstLate}
use Rattle.relay_orders.proofs.All.{all_always, all_places, all_at, any_none}
use Rattle.relay_orders.proofs.Counts.{count_same, count_other, count_insert}
use Rattle.relay_orders.proofs.OrderTests.{any_false, any_same, any_swap, exchange_turn, exchange_found, exchange_done}

-- ---- sharing goes both ways

-- being among them is a search
has_any : (xs : List ℕ) (v : ℕ) → has xs v ≡ any_of (λ x. eqb x v) xs
unfolding has
has_any [] v = refl
has_any (x ∷ xs) v = ap (λ b. eqb x v || b) (has_any xs v)

-- equality both ways
eqb_sym : (a b : ℕ) → eqb a b ≡ eqb b a
eqb_sym a b = go (ℕ_discrete a b)
  where
    go : Dec (a ≡ b) → eqb a b ≡ eqb b a
    go (yes e) = eq-eqb a b e ∙ sym (eq-eqb b a (sym e))
    go (no e) = ne_eqb a b e ∙ sym (ne_eqb b a (λ q. e (sym q)))

-- sharing
pub shares_sym : (entries : ℕ → List ℕ) (c d : ℕ) → shares entries c d ≡ shares entries d c
unfolding shares
shares_sym entries c d =
    any_same _ _ (all_always (λ v. has_any (entries d) v) (entries c))
    ∙ any_swap (λ v w. eqb w v) (entries c) (entries d)
    ∙ any_same _ _ (all_always (λ w. any_same _ _ (all_always (λ v. eqb_sym w v) (entries c)) ∙ sym (has_any (entries c) w)) (entries d))

-- ---- none is late, or a first one is

module _ (g : Graph) (order : List ℕ) where
  -- the mechanisms of a check
  abbrev entries : ℕ → List ℕ
  entries = check_entries g

  -- whether the check at the place i is late
  abbrev Late : ℕ → Bool
  Late i = late entries (take i order) (get_or order i 0)

  -- what the search answers from the place i on
  abbrev From : ℕ → Answer
  From i = exchanged entries (take i order) (drop i order)

  -- the search stands still over checks that are not late
  still : (i : ℕ) → i ≤ length order → ((j : ℕ) → j < i → Late j ≡ false) → From i ≡ exchanged entries [] order
  still zero h f = refl
  still (suc i) h f =
      ap From (sym (add-one i)) ∙ exchange_turn entries order i (get_or order i 0) h refl (f i (omega arith)) ∙ still i (omega arith) (λ j l. f j (omega arith))

  -- none is late: the search ends without one
  pub none_late : ((j : ℕ) → j < length order → Late j ≡ false) → exchanged entries [] order ≡ Ok tt
  none_late f = sym (still (length order) (omega arith) f) ∙ sym (exchange_done entries order (length order) (omega arith))

  -- a first one is: the search answers it
  pub first_late : (c : ℕ) → FirstLate g order c → exchanged entries [] order ≡ Err (OrderExchanged c)
  first_late c w =
      sym (still w.place (omega (arith, w.inside)) w.earlier) ∙ sym (exchange_found entries order w.place c w.inside (sym w.named) w.is_late)

  -- a search over n places, from the front
  data Searched (n : ℕ) : Type 0 where
    clear : ((j : ℕ) → j < n → Late j ≡ false) → Searched n
    met : (i : ℕ) → i < n → Late i ≡ true → ((j : ℕ) → j < i → Late j ≡ false) → Searched n

  -- one place further
  search_on : (n : ℕ) (b : Bool) → Late n ≡ b → Searched n → Searched (suc n)
  search_on n b e (met i h l f) = met i (omega arith) l f
  search_on n true e (clear f) = met n (omega arith) e f
  search_on n false e (clear f) = clear (λ j h. go j h (ℕ_discrete j n))
    where
      go : (j : ℕ) → j < suc n → Dec (j ≡ n) → Late j ≡ false
      go j h (yes q) = rw q e
      go j h (no q) = f j (omega arith)

  -- all of them
  searched : (n : ℕ) → Searched n
  searched zero = clear (λ j h. absurd (omega arith))
  searched (suc n) = search_on n (Late n) refl (searched n)

  -- 24's place is what the reference says
  pub exchanged_is : (c : ℕ) → (exchanged entries [] order ≡ Err (OrderExchanged c)) ↔ FirstLate g order c
  exchanged_is c = (λ e. go e (searched (length order)), first_late c)
    where
      same : (d : ℕ) → FirstLate g order d → d ≡ c → FirstLate g order c
      same d w q = subst (FirstLate g order) q w

      go : exchanged entries [] order ≡ Err (OrderExchanged c) → Searched (length order) → FirstLate g order c
      go e (clear f) = absurd (let n = none_late f in let z : ◌≡◌ {A = ℕ} 0 1 = cc in omega arith)
      go e (met i h l f) =
          let w : FirstLate g order (get_or order i 0) = record { place = i; inside = h; named = refl; is_late = l; earlier = f } in
          let n = first_late (get_or order i 0) w in
          same (get_or order i 0) w (cc)

  -- a check that is above all before it that share a mechanism with it is not late
  late_is : (j : ℕ) → j < length order → ((i : ℕ) → i < j → shares entries (get_or order i 0) (get_or order j 0) ≡ true → get_or order i 0 ≤ get_or order j 0) → Late j ≡ false
  unfolding late above
  late_is j h f = any_false _ (all_places (take j order) (λ i l. go i (omega (arith, length-take-le j order (omega arith)))))
    where
      test : (a b : Bool) → (a ≡ true → b ≡ true → ⊥) → (a && b) ≡ false
      test true true n = absurd (n refl refl)
      test true false n = refl
      test false b n = refl

      go : (i : ℕ) → i < j → (ltb (get_or order j 0) (get_or (take j order) i 0) && shares entries (get_or order j 0) (get_or (take j order) i 0)) ≡ false
      go i l =
          rw (get_or-take j order i 0 l)
          (test (ltb (get_or order j 0) (get_or order i 0)) (shares entries
          (get_or order j 0) (get_or order i 0)) (λ p q. omega (
            arith,
            ltb-true (get_or order j 0) (get_or order i 0) p,
            f i l (shares_sym entries (get_or order i 0)
                (get_or order j 0) ∙ q),
          )))

  -- and the other way
  not_late : (j : ℕ) → j < length order → Late j ≡ false → (i : ℕ) → i < j → shares entries (get_or order i 0) (get_or order j 0) ≡ true → get_or order i 0 ≤ get_or order j 0
  unfolding late above
  not_late j h e i l s =
      let t = all_at (any_none _ (take j order) e) i (omega (arith, length-take-le j order (omega arith))) in
      let u : (ltb (get_or order j 0) (get_or order i 0) && shares entries (get_or order j 0) (get_or order i 0)) ≡ false = rw (get_or-take j order i 0 l) at t in
      go (ltb (get_or order j 0) (get_or order i 0)) refl (rw (shares_sym entries (get_or order j 0) (get_or order i 0) ∙ s) at u)
    where
      go : (b : Bool) → ltb (get_or order j 0) (get_or order i 0) ≡ b → (b && true) ≡ false → get_or order i 0 ≤ get_or order j 0
      go true p q = absurd (true≢false q)
      go false p q = ltb-false (get_or order j 0) (get_or order i 0) p

  -- nothing is exchanged just where any two checks that share a mechanism keep their index order
  pub none_exchanged_is : (exchanged entries [] order ≡ Ok tt) ↔ KeepsOrder g order
  none_exchanged_is = (λ e. record { keeps = λ i j l h. not_late j h (go e (searched (length order)) j h) i l }, λ k. none_late (λ j h. late_is j h (λ i l. k.keeps i j l h)))
    where
      go : exchanged entries [] order ≡ Ok tt → Searched (length order) → (j : ℕ) → j < length order → Late j ≡ false
      go e (clear f) = f
      go e (met i h l f) =
          let n = first_late (get_or order i 0) (record { place = i; inside = h; named = refl; is_late = l; earlier = f }) in
          absurd (let z : ◌≡◌ {A = ℕ} 0 1 = cc in omega arith)

-- ---- the index order is accepted

-- what stands where
upto_at : (n i : ℕ) → i < n → get_or (upto n) i 0 ≡ i
upto_at n i h = get_or_table n (λ (k : ℕ). k) i 0 h

-- it counts as with its last name first
upto_more : (k n : ℕ) → count k (upto (suc n)) ≡ count k (n ∷ upto n)
upto_more k n = count_insert k n (upto n) [] ∙ ap (λ xs. count k (n ∷ xs)) (append-nil (upto n))

-- it names each check once
pub upto_names : (n : ℕ) → NamesOnce n (upto n)
unfolding count
upto_names zero = record { once_each = λ k h. absurd (omega arith); none_else = λ k h. refl }
upto_names (suc n) = record { once_each = λ k h. once k h (ℕ_discrete n k) (upto_names n); none_else = λ k h. beyond k h (upto_names n) }
  where
    once : (k : ℕ) → k < suc n → Dec (n ≡ k) → NamesOnce n (upto n) → count k (upto (suc n)) ≡ 1
    once k h (yes e) r = upto_more k n ∙ subst (λ (j : ℕ). count j (n ∷ upto n) ≡ 1) e (count_same n (upto n) ∙ ap suc (r.none_else n (omega arith)))
    once k h (no e) r = upto_more k n ∙ count_other k n (upto n) e ∙ r.once_each k (omega arith)

    beyond : (k : ℕ) → suc n ≤ k → NamesOnce n (upto n) → count k (upto (suc n)) ≡ 0
    beyond k h r = upto_more k n ∙ count_other k n (upto n) (λ e. omega arith) ∙ r.none_else k (omega arith)

-- it keeps any two as they are
upto_keeps : (g : Graph) (n : ℕ) → KeepsOrder g (upto n)
upto_keeps g n =
    let l = length_table n (λ (k : ℕ). k) in
    record { keeps = λ i j m h s. omega (arith, upto_at n i (omega arith), upto_at n j (omega arith)) }

-- the index order passes 24, whatever the schedule
pub index_taken : (schedule : Schedule) (g : Graph) → exchange_fault schedule g (upto g.checks) ≡ Ok tt
unfolding exchange_fault
index_taken Flooding g = refl
index_taken CheckSerial g = (none_exchanged_is g (upto g.checks)).1 (upto_keeps g g.checks)
