-- A turn of each loop of tests 23 and 24, and what its ways out say. Assumes nothing.
use Prim.Native.Nat.{ℕ, zero, suc, ◌+◌, max, ◌<◌, ◌≤◌}
use mathlib.Core.Path.{◌≡◌, refl, sym, ◌∙◌, ap, subst}
use mathlib.Core.Bool.{Bool, true, false, ◌&&◌, ◌||◌, and-true, and-false, or-false, or_assoc, cond, false≢true}
use mathlib.Core.List.{List, [], ◌∷◌, ◌++◌, append-nil, foldl, foldl-append}
use native.Mathlib.Omega.{arith}
use native.Mathlib.Nat.{not-suc-le-zero, le_of_suc-le-suc}
use native.Mathlib.Numerals.{add-one}
use native.Mathlib.Decide.{ℕ_discrete}
use lib.Dec.{eqb, ltb}
use lib.ListN.{length, get_or, set, take, drop, replicate, get_or-replicate, length-set, drop_of_length-le}
use lib.Seq.{take-suc, drop-cons, split_at, take_all, get_or-set_same, get_or-set_other}
use borrow.Author.Tests.{ltb-true, ltb-false, lt-ltb, le-ltb, eqb-true, eqb-false, ne_eqb}
use Rattle.numbers.specs.Loops.{part, row}
use Rattle.numbers.proofs.Cases.{either_way}
use Rattle.numbers.proofs.Loops.{foldl_take}
use Rattle.refusals.specs.declared.Refusal.TheVariants.{OrderExchanged}
use Rattle.std.specs.Prelude.{Ok, Err}
use Rattle.graph_lists.specs.Lists.{has}
use Rattle.graph_lists.specs.Sound.{Keys}
use Rattle.relay_orders.specs.Order.{count, names_once, any_of, shares, above, late, exchanged}
use Rattle.relay_orders.specs.Marks.{highest, marked_at, overtaken}
use Rattle.relay_orders.proofs.All.{All, nil, cons, all_map, all_always, all_places, all_at, all_append, not_so, any_none}
use Rattle.relay_orders.proofs.Counts.{count_same, count_other, count_insert, sum_length, ones, names_below, names_once_is}

-- ---- test 23

-- after i names: none at or above the checks, none twice, and `seen` counts them
pub record Seen (checks : ℕ) (order : List ℕ) (i : ℕ) (seen : List ℕ) : Type 0 where
  pub below : All (λ k. k < checks) (take i order)
  pub few : (k : ℕ) → count k (take i order) ≤ 1
  pub counts : (k : ℕ) → k < 65536 → get_or seen k 0 ≡ count k (take i order)

-- one name more
pub count_take : (k : ℕ) (order : List ℕ) (i : ℕ) → i < length order → count k (take (suc i) order) ≡ count k (get_or order i 0 ∷ take i order)
count_take k order i h =
    ap (count k) (take-suc order i 0 h) ∙ count_insert k (get_or order i 0) (take i order) [] ∙ ap (λ u. count k (get_or order i 0 ∷ u)) (append-nil (take i order))

-- a longer list counts no less
count_more : (k : ℕ) (xs ys : List ℕ) → count k xs ≤ count k (xs ++ ys)
unfolding count
count_more k [] ys = omega arith
count_more k (x ∷ xs) ys = go (eqb x k) (count_more k xs ys)
  where
    go : (b : Bool) {m n : ℕ} → m ≤ n → cond b (suc m) m ≤ cond b (suc n) n
    go true h = omega arith
    go false h = h

-- before the first name
pub seen_start : (checks : ℕ) (order : List ℕ) → Seen checks order 0 (replicate 65536 0)
unfolding count
seen_start checks order = record { below = nil; few = λ k. omega arith; counts = λ k h. get_or-replicate 65536 k 0 0 h }

-- a turn
pub seen_turn : (checks : ℕ) (order : List ℕ) (i : ℕ) (seen : List ℕ) (c : ℕ) → checks ≤ 65536 → length seen ≡ 65536 → i < length order → c ≡ get_or order i 0 → c < checks
    → get_or seen c 0 ≡ 0 → Seen checks order i seen → Seen checks order (i + 1) (set seen c 1)
seen_turn checks order i seen c h l k e b z s =
    rw add-one
    (record {
      below = rw (take-suc order i 0 k) (all_append s.below (cons (rw (← e) b) nil));
      few = λ j. rw (count_take j order i k, ← e) (few j (ℕ_discrete c j));
      counts = λ j m. rw (count_take j order i k, ← e) (counts j m (ℕ_discrete c j));
    })
  where
    none_yet : count c (take i order) ≡ 0
    none_yet = sym (s.counts c (omega arith)) ∙ z

    few : (j : ℕ) → Dec (c ≡ j) → count j (c ∷ take i order) ≤ 1
    few j (yes q) = rw (← q) (omega (arith, count_same c (take i order), none_yet))
    few j (no q) = omega (arith, count_other j c (take i order) q, s.few j)

    counts : (j : ℕ) → j < 65536 → Dec (c ≡ j) → get_or (set seen c 1) j 0 ≡ count j (c ∷ take i order)
    counts j m (yes q) = rw (← q) (get_or-set_same seen c 1 0 (omega arith) ∙ omega (arith, count_same c (take i order), none_yet))
    counts j m (no q) = get_or-set_other seen c j 1 0 (λ r. q (sym r)) ∙ s.counts j m ∙ sym (count_other j c (take i order) q)

-- names below n don't count from n on
none_from : (n k : ℕ) → n ≤ k → {xs : List ℕ} → All (λ j. j < n) xs → count k xs ≡ 0
unfolding count
none_from n k m nil = refl
none_from n k m (cons {x = x} {xs = xs} b t) = count_other k x xs (λ e. omega arith) ∙ none_from n k m t

-- the end: passed
pub seen_done : (checks : ℕ) (order : List ℕ) (i : ℕ) (seen : List ℕ) → length order ≤ i → length order ≡ checks → Seen checks order i seen → names_once checks order ≡ true
seen_done checks order i seen h l s =
    let b : All (λ k. k < checks) order = rw (take_all i order h) at s.below in
    let t = sum_length checks b ∙ l in
    (names_once_is checks order).1
    (record {
      once_each = ones checks order (λ k _. rw (take_all i order h) at (s.few k)) t;
      none_else = λ k m. none_from checks k m b;
    })

-- the ways out: another length
pub name_length : (checks : ℕ) (order : List ℕ) → (length order ≡ checks → ⊥) → names_once checks order ≡ false
unfolding names_once
name_length checks order h = rw (ne_eqb (length order) checks h)

-- a name that is no check
pub name_beyond : (checks : ℕ) (order : List ℕ) (i : ℕ) → i < length order → checks ≤ get_or order i 0 → names_once checks order ≡ false
name_beyond checks order i h l = not_so _ (λ e. omega (arith, all_at (names_below ((names_once_is checks order).0 e)) i h))

-- a name twice
pub name_twice : (checks : ℕ) (order : List ℕ) (i : ℕ) (seen : List ℕ) (c : ℕ) → checks ≤ 65536 → i < length order → c ≡ get_or order i 0 → c < checks
    → (get_or seen c 0 ≡ 0 → ⊥) → Seen checks order i seen → names_once checks order ≡ false
name_twice checks order i seen c h k e b z s = not_so _ (λ t. go (((names_once_is checks order).0 t).once_each c b))
  where
    go : count c order ≡ 1 → ⊥
    go t =
        let q : count c order ≡ suc (count c (take i order ++ drop (suc i) order)) =
        ap (count c) (rw (← e) at (split_at order i 0 k)) ∙ count_insert c c (take i order) (drop (suc i) order) ∙ count_same c (take i order ++ drop (suc i) order) in
        z (s.counts c (omega arith) ∙ omega (arith, q, count_more c (take i order) (drop (suc i) order)))

-- ---- test 24: tests of all elements

-- two tests that follow from each other
is_same : (a b : Bool) → (a ≡ true → b ≡ true) → (b ≡ true → a ≡ true) → a ≡ b
is_same true b f g = sym (f refl)
is_same false true f g = g refl
is_same false false f g = refl

-- a disjunction whose second holds
or_true : (a b : Bool) → b ≡ true → (a || b) ≡ true
or_true true b h = refl
or_true false b h = h

-- none passes
pub any_false : (p : ℕ → Bool) {xs : List ℕ} → All (λ x. p x ≡ false) xs → any_of p xs ≡ false
any_false p nil = refl
any_false p (cons {x = x} {xs = xs} h t) = rw (h, any_false p t)

-- two tests that agree
pub any_same : (p q : ℕ → Bool) {xs : List ℕ} → All (λ x. p x ≡ q x) xs → any_of p xs ≡ any_of q xs
any_same p q nil = refl
any_same p q (cons {x = x} {xs = xs} h t) = ap (λ b. b || any_of p xs) h ∙ ap (λ b. q x || b) (any_same p q t)

-- four tests, the middle two exchanged
four_or : (a b c d : Bool) → (a || b || (c || d)) ≡ (a || c || (b || d))
four_or true b c d = refl
four_or false true true d = refl
four_or false true false d = refl
four_or false false c d = refl

-- a search for either of two is a search for each
any_or : (p q : ℕ → Bool) (xs : List ℕ) → any_of (λ x. p x || q x) xs ≡ (any_of p xs || any_of q xs)
any_or p q [] = refl
any_or p q (x ∷ xs) = ap (λ b. p x || q x || b) (any_or p q xs) ∙ four_or (p x) (q x) (any_of p xs) (any_of q xs)

-- a test that nothing passes finds nothing
any_never : (xs : List ℕ) → any_of (λ x. false) xs ≡ false
any_never [] = refl
any_never (x ∷ xs) = any_never xs

-- exchanging an inner and an outer search
pub any_swap : (p : ℕ → ℕ → Bool) (xs ys : List ℕ) → any_of (λ x. any_of (p x) ys) xs ≡ any_of (λ y. any_of (λ x. p x y) xs) ys
any_swap p xs [] = any_never xs
any_swap p xs (y ∷ ys) = any_or (λ x. p x y) (λ x. any_of (p x) ys) xs ∙ ap (λ b. any_of (λ x. p x y) xs || b) (any_swap p xs ys)

-- a condition that does not depend on the element stands outside
any_and : (b : Bool) (p : ℕ → Bool) (xs : List ℕ) → any_of (λ x. b && p x) xs ≡ (b && any_of p xs)
any_and true p xs = refl
any_and false p xs = any_never xs

-- a turn of a search that finds nothing
any_take : (p : ℕ → Bool) (xs : List ℕ) (i : ℕ) → i < length xs → any_of p (take i xs) ≡ false → p (get_or xs i 0) ≡ false → any_of p (take (i + 1) xs) ≡ false
any_take p xs i h e k = rw (add-one, take-suc xs i 0 h) (any_false p (all_append (any_none p (take i xs) e) (cons k nil)))

-- and one that does
pub any_found : (p : ℕ → Bool) (xs : List ℕ) (i : ℕ) → i < length xs → p (get_or xs i 0) ≡ true → any_of p xs ≡ true
any_found p [] i h e = absurd (not-suc-le-zero h)
any_found p (x ∷ xs) zero h e = rw e
any_found p (x ∷ xs) (suc i) h e = or_true (p x) (any_of p xs) (any_found p xs i (le_of_suc-le-suc h) e)

-- ---- test 24: the marks

-- for every element that a list has
has_all : {P : ℕ → Type 0} {xs : List ℕ} (v : ℕ) → has xs v ≡ true → All P xs → P v
unfolding has
has_all v e nil = absurd (false≢true e)
has_all {P} v e (cons {x = x} {xs = xs} h t) = go (eqb x v) refl e (λ q. has_all v q t)
  where
    go : (b : Bool) → eqb x v ≡ b → (b || has xs v) ≡ true → (has xs v ≡ true → P v) → P v
    go true q k rec = subst P (eqb-true x v q) h
    go false q k rec = rec k

-- one mark more
marked_take : (x : ℕ) (l es : List ℕ) (i : ℕ) → i < length es → marked_at x l (take (suc i) es) ≡ set (marked_at x l (take i es)) (get_or es i 0) x
unfolding marked_at
marked_take x l es i h = foldl_take _ _ es i 0 h

-- marks leave the length
pub length_marked : (x : ℕ) (l es : List ℕ) → length (marked_at x l es) ≡ length l
unfolding marked_at
length_marked x l [] = refl
length_marked x l (e ∷ es) = length_marked x (set l e x) es ∙ length-set l e x

-- what stands at a place after marking
get_or_marked : (x : ℕ) (l es : List ℕ) (v : ℕ) → v < length l → get_or (marked_at x l es) v 0 ≡ cond (has es v) x (get_or l v 0)
unfolding marked_at has
get_or_marked x l [] v h = refl
get_or_marked x l (e ∷ es) v h = get_or_marked x (set l e x) es v (rw (length-set l e x) h) ∙ go (eqb e v) refl (has es v)
  where
    go : (b : Bool) → eqb e v ≡ b → (c : Bool) → cond c x (get_or (set l e x) v 0) ≡ cond (b || c) x (get_or l v 0)
    go true q c = let r : get_or (set l e x) v 0 ≡ x = rw (← eqb-true e v q) (get_or-set_same l e x 0 (rw (eqb-true e v q) h)) in rw r (either_way c x)
    go false q c = ap (cond c x) (get_or-set_other l e v x 0 (λ r. eqb-false e v q (sym r)))

-- above the greater of two
above_max : (c t d : ℕ) → ltb c (max t d) ≡ (ltb c t || ltb c d)
above_max c t d = is_same _ _ (λ h. left (ltb c t) refl (ltb-true _ _ h)) (λ h. lt-ltb _ _ (right (ltb c t) refl h))
  where
    left : (b : Bool) → ltb c t ≡ b → c < max t d → (b || ltb c d) ≡ true
    left true e h = refl
    left false e h = lt-ltb c d (omega (arith, ltb-false c t e))

    right : (b : Bool) → ltb c t ≡ b → (b || ltb c d) ≡ true → c < max t d
    right true e h = omega (arith, ltb-true c t e)
    right false e h = omega (arith, ltb-true c d h)

-- the highest check that has v is above c just where some check above c has v
module _ (entries : ℕ → List ℕ) (c v : ℕ) where
  -- one check more
  abbrev Step : ℕ → ℕ → ℕ
  Step t d = cond (has (entries d) v) (max t d) t

  -- it is above c where the highest was, or where the check has v and is above c
  above_step : (b : Bool) (t d : ℕ) → ltb c (cond b (max t d) t) ≡ (ltb c t || (ltb c d && b))
  above_step true t d = above_max c t d ∙ ap (λ z. ltb c t || z) (sym (and-true (ltb c d)))
  above_step false t d = sym (rw (and-false (ltb c d)) (or-false (ltb c t)))

  -- so is it after several
  above_fold : (ds : List ℕ) (t : ℕ) → ltb c (foldl Step t ds) ≡ (ltb c t || any_of (λ d. ltb c d && has (entries d) v) ds)
  above_fold [] t = sym (or-false (ltb c t))
  above_fold (d ∷ ds) t =
      above_fold ds (Step t d)
      ∙ ap (λ z. z || any_of (λ e. ltb c e && has (entries e) v) ds) (above_step (has (entries d) v) t d)
      ∙ or_assoc (ltb c t) (ltb c d && has (entries d) v) (any_of (λ e. ltb c e && has (entries e) v) ds)

  -- and after all, from none
  above_highest : (before : List ℕ) → ltb c (highest entries before v) ≡ any_of (λ d. ltb c d && has (entries d) v) before
  unfolding highest
  above_highest before = above_fold before 0 ∙ ap (λ z. z || any_of (λ d. ltb c d && has (entries d) v) before) (le-ltb c 0 (omega arith))

-- `last` has the highest check for each mechanism below 65536
abbrev pub Tells : (ℕ → List ℕ) → List ℕ → List ℕ → Type 0
Tells entries before last = (v : ℕ) → v < 65536 → get_or last v 0 ≡ highest entries before v

-- before the first check
pub tells_start : (entries : ℕ → List ℕ) → Tells entries [] (replicate 65536 0)
unfolding highest
tells_start entries v h = get_or-replicate 65536 v 0 0 h

-- the code's test is the definition's
overtaken_is : (entries : ℕ → List ℕ) (before last : List ℕ) (c : ℕ) → Tells entries before last → All (λ v. v < 65536) (entries c)
    → overtaken c last (entries c) ≡ late entries before c
unfolding overtaken late above shares
overtaken_is entries before last c t b =
    any_same (λ v. ltb c (get_or last v 0)) (λ v. any_of (λ d. ltb c d && has (entries d) v) before)
    (all_map (λ v h. ap (ltb c) (t v h) ∙ above_highest entries c v before) b)
    ∙ any_swap (λ v d. ltb c d && has (entries d) v) (entries c) before
    ∙ any_same _ _ (all_always (λ d. any_and (ltb c d) (λ v. has (entries d) v) (entries c)) before)

-- and its marks tell of one check more
tells_turn : (entries : ℕ → List ℕ) (before last : List ℕ) (c : ℕ) → length last ≡ 65536 → Tells entries before last → overtaken c last (entries c) ≡ false
    → Tells entries (before ++ (c ∷ [])) (marked_at c last (entries c))
unfolding overtaken highest
tells_turn entries before last c l t o v h =
    get_or_marked c last (entries c) v (omega arith)
    ∙ go (has (entries c) v) refl
    ∙ sym (foldl-append (λ (u d : ℕ). cond (has (entries d) v) (max u d) u) 0 before (c ∷ []))
  where
    go : (b : Bool) → has (entries c) v ≡ b → cond b c (get_or last v 0) ≡ cond b (max (highest entries before v) c) (highest entries before v)
    go true e =
        let m = ltb-false c (get_or last v 0) (has_all {P = λ w. ltb c (get_or last w 0) ≡ false} v e (any_none (λ w. ltb c (get_or last w 0)) (entries c) o)) in
        omega (arith, t v h)
    go false e = t v h

-- a turn of the search
pub exchange_turn : (entries : ℕ → List ℕ) (order : List ℕ) (i c : ℕ) → i < length order → c ≡ get_or order i 0 → late entries (take i order) c ≡ false
    → exchanged entries (take (i + 1) order) (drop (i + 1) order) ≡ exchanged entries (take i order) (drop i order)
unfolding exchanged
exchange_turn entries order i c h e l = rw (add-one, take-suc order i 0 h, drop-cons order i 0 h, ← e, l)

-- its end, where nothing is late
pub exchange_done : (entries : ℕ → List ℕ) (order : List ℕ) (i : ℕ) → length order ≤ i → (Ok tt) ≡ exchanged entries (take i order) (drop i order)
unfolding exchanged
exchange_done entries order i h = rw (drop_of_length-le order h)

-- or where a check is
pub exchange_found : (entries : ℕ → List ℕ) (order : List ℕ) (i c : ℕ) → i < length order → c ≡ get_or order i 0 → late entries (take i order) c ≡ true
    → Err (OrderExchanged c) ≡ exchanged entries (take i order) (drop i order)
unfolding exchanged
exchange_found entries order i c h e l = rw (drop-cons order i 0 h, ← e, l)

-- ---- turns of the inner loops, as the code has them

-- a turn of `is_overtaken`
pub overtaken_turn : (x : ℕ) (last es : List ℕ) (i v : ℕ) → i < length es → v ≡ get_or es i 0 → get_or last v 0 ≤ x → overtaken x last (take i es) ≡ false
    → overtaken x last (take (i + 1) es) ≡ false
unfolding overtaken
overtaken_turn x last es i v h e l o = any_take (λ w. ltb x (get_or last w 0)) es i h o (le-ltb x (get_or last (get_or es i 0) 0) (rw (← e) l))

-- and what it finds
pub overtaken_found : (x : ℕ) (last es : List ℕ) (i v : ℕ) → i < length es → v ≡ get_or es i 0 → x < get_or last v 0 → true ≡ overtaken x last es
unfolding overtaken
overtaken_found x last es i v h e l = sym (any_found (λ w. ltb x (get_or last w 0)) es i h (lt-ltb x (get_or last (get_or es i 0) 0) (rw (← e) l)))

-- a turn of `mark`
pub marked_turn : (x : ℕ) (l es m : List ℕ) (i v : ℕ) → i < length es → v ≡ get_or es i 0 → m ≡ marked_at x l (take i es) → set m v x ≡ marked_at x l (take (i + 1) es)
marked_turn x l es m i v h e q = rw (add-one, marked_take x l es i h, ← e, q)

-- ---- a turn of `exchanged_check`, as the code has it

module _ (off mech order last : List ℕ) (i c a e next : ℕ) (h : i < length order) (q : c ≡ get_or order i 0) (s : a ≡ get_or off c 0) (f : e ≡ get_or off (c + 1) 0) (x : next ≡ c)
    (t : Tells (λ d. row off d mech) (take i order) last) where
  -- the mechanisms of a check
  abbrev entries : ℕ → List ℕ
  entries d = row off d mech

  -- are the part that the code cuts out
  part_is : part a e mech ≡ entries c
  part_is = rw (s, f, add-one)

  -- so what the code finds says whether the check is late
  found_late : (b : Bool) → b ≡ overtaken next last (part a e mech) → Keys 65536 (part a e mech) → b ≡ late entries (take i order) c
  found_late b o m =
      let m' : Keys 65536 (entries c) = subst (Keys 65536) part_is m in
      o ∙ ap (overtaken next last) part_is ∙ ap (λ y. overtaken y last (entries c)) x ∙ overtaken_is entries (take i order) last c t (all_places _ m'.small)

  -- a late one is the answer
  pub test_found : (b : Bool) → b ≡ overtaken next last (part a e mech) → Keys 65536 (part a e mech) → b ≡ true → Err (OrderExchanged c) ≡ exchanged entries (take i order) (drop i order)
  test_found b o m y = exchange_found entries order i c h q (sym (found_late b o m) ∙ y)

  -- after another the search goes on
  pub test_goes_on : (b : Bool) → b ≡ overtaken next last (part a e mech) → Keys 65536 (part a e mech) → b ≡ false
      → exchanged entries (take (i + 1) order) (drop (i + 1) order) ≡ exchanged entries (take i order) (drop i order)
  test_goes_on b o m y = exchange_turn entries order i c h q (sym (found_late b o m) ∙ y)

  -- and the marks tell of it too
  pub test_tells : (b : Bool) → b ≡ overtaken next last (part a e mech) → b ≡ false → length last ≡ 65536 → (new : List ℕ) → new ≡ marked_at next last (part a e mech)
      → Tells entries (take (i + 1) order) new
  test_tells b o y l new w =
      let z : overtaken c last (entries c) ≡ false = ap (λ k. overtaken k last (entries c)) (sym x) ∙ ap (overtaken next last) (sym part_is) ∙ sym o ∙ y in
      let w' : new ≡ marked_at c last (entries c) = w ∙ ap (marked_at next last) part_is ∙ ap (λ k. marked_at k last (entries c)) x in
      rw (add-one i, take-suc order i 0 h, ← q, w') (tells_turn entries (take i order) last c l t z)
