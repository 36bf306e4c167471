-- Laws of `passing` and `joined`. Assumes nothing.
use mathlib.Core.Bool.{Bool, true, false}
use mathlib.Core.List.{List, [], ◌∷◌, ◌++◌, append-nil}
use mathlib.Core.Logic.{⊎_elim}
use mathlib.Core.Path.{◌≡◌, refl, ◌∙◌}
use Prim.Native.Nat.{ℕ, zero, suc, ◌+◌, ◌-◌, ◌<◌, ◌≤◌}
use native.Mathlib.Nat.{not-suc-le-zero}
use native.Mathlib.Omega.{arith}
use lib.ListN.{length, get_or, length-append, get_or-append}
use lib.Seq.{get_or-append-add, get_or-append_seam}
use Rattle.numbers.proofs.Cases.{either, less_or_not, equal_or_not, last_or_before}
use Rattle.graph_lists.specs.Lists.{passing, joined, start}

module _ (p : ℕ → Bool) where
  -- none below 0
  pub passing_none : passing 0 p ≡ []
  unfolding passing
  passing_none = refl

  -- one more that passes
  pub passing_yes : (n : ℕ) → p n ≡ true → passing (suc n) p ≡ passing n p ++ (n ∷ [])
  unfolding passing
  passing_yes n h = rw h

  -- one more that does not
  pub passing_no : (n : ℕ) → p n ≡ false → passing (suc n) p ≡ passing n p
  unfolding passing
  passing_no n h = rw h (append-nil _)

  -- one more in number
  pub length_yes : (n : ℕ) → p n ≡ true → length (passing (suc n) p) ≡ suc (length (passing n p))
  length_yes n h = rw (passing_yes n h, length-append) (omega arith)

  -- none more in number
  pub length_no : (n : ℕ) → p n ≡ false → length (passing (suc n) p) ≡ length (passing n p)
  length_no n h = rw (passing_no n h)

  -- never fewer
  pub length_grows : (n : ℕ) → length (passing n p) ≤ length (passing (suc n) p)
  length_grows n = ⊎_elim (λ e. omega (arith, length_yes n e)) (λ e. omega (arith, length_no n e)) (either (p n))

  -- nor over any distance
  pub length_rises : (i n : ℕ) → i ≤ n → length (passing i p) ≤ length (passing n p)
  length_rises i zero h = let e : i ≡ 0 = omega arith in rw e (omega arith)
  length_rises i (suc n) h =
      ⊎_elim (λ e. rw e (omega arith)) (λ l. let r = length_rises i n (omega arith) in omega (arith, length_grows n)) (equal_or_not i (suc n))

  -- at most n of those below n
  pub length_below : (n : ℕ) → length (passing n p) ≤ n
  length_below zero = rw (passing_none) (omega arith)
  length_below (suc n) = let h = length_below n in ⊎_elim (λ e. omega (arith, length_yes n e)) (λ e. omega (arith, length_no n e)) (either (p n))

  -- what passes stands at the place that counts those before it
  pub passing_at : (i n : ℕ) → i < n → p i ≡ true → get_or (passing n p) (length (passing i p)) 0 ≡ i
  passing_at i zero h t = absurd (omega arith)
  passing_at i (suc n) h t =
      ⊎_elim
      (λ e. rw (e, passing_yes n (rw e at t)) (get_or-append_seam (passing n p) n [] 0))
      (λ l.
      let room : length (passing i p) < length (passing n p) = omega (arith, length_yes i t, length_rises (suc i) n l) in
      ⊎_elim
      (λ y. rw (passing_yes n y, get_or-append (passing n p) (n ∷ []) 0 _ room) (passing_at i n l t))
      (λ y. rw (passing_no n y) (passing_at i n l t))
      (either (p n)))
      (last_or_before i n h)

  -- there are more than before it
  pub passing_counts : (i n : ℕ) → i < n → p i ≡ true → length (passing i p) < length (passing n p)
  passing_counts i n h t = omega (arith, length_yes i t, length_rises (suc i) n h)

  -- what stands at q passes, and q counts those before it
  pub record Passed (n q i : ℕ) : Type 0 where
    pub below : i < n
    pub passes : p i ≡ true
    pub counts : length (passing i p) ≡ q

  -- what is so below n is so below n + 1
  weaker : (n q i : ℕ) → Passed n q i → Passed (suc n) q i
  weaker n q i s = record { below = omega (arith, s.below); passes = s.passes; counts = s.counts }

  -- what stands at q passes, and q of those before it do
  pub passed : (n q : ℕ) → q < length (passing n p) → Passed n q (get_or (passing n p) q 0)
  unfolding passing
  passed zero q h = absurd (not-suc-le-zero h)
  passed (suc n) q h =
      ⊎_elim
      (λ y.
      ⊎_elim
      (λ (e : q ≡ length (passing n p)). rw (passing_yes n y) (rw e (rw (get_or-append_seam (passing n p) n [] 0) (record { below = omega arith; passes = y; counts = refl }))))
      (λ l. rw (passing_yes n y, get_or-append (passing n p) (n ∷ []) 0 q l) (weaker n q _ (passed n q l)))
      (last_or_before q (length (passing n p)) (rw (length_yes n y) at h)))
      (λ y. rw (passing_no n y) (weaker n q _ (passed n q (rw (passing_no n y) at h))))
      (either (p n))

-- two tests that agree below n
pub passing_same : (n : ℕ) (p q : ℕ → Bool) → ((i : ℕ) → i < n → p i ≡ q i) → passing n p ≡ passing n q
unfolding passing
passing_same zero p q h = refl
passing_same (suc n) p q h = rw (passing_same n p q (λ i l. h i (omega arith)), h n (omega arith))

module _ (f : ℕ → List ℕ) where
  -- the first list begins at 0
  pub start_zero : start f 0 ≡ 0
  unfolding start joined
  start_zero = refl

  -- the next begins where this one ends
  pub start_suc : (k : ℕ) → start f (suc k) ≡ start f k + length (f k)
  unfolding start joined
  start_suc k = length-append (joined k f) (f k)

  -- joined lists end where the next would begin
  pub length_joined : (k : ℕ) → length (joined k f) ≡ start f k
  unfolding start
  length_joined k = refl

  -- beginnings rise
  pub start_rises : (k n : ℕ) → k ≤ n → start f k ≤ start f n
  start_rises k zero h = let e : k ≡ 0 = omega arith in rw e (omega arith)
  start_rises k (suc n) h =
      ⊎_elim (λ e. rw e (omega arith)) (λ l. let r = start_rises k n (omega arith) in omega (arith, start_suc n)) (equal_or_not k (suc n))

  -- the q-th of the k-th list
  pub joined_at : (k n q : ℕ) → k < n → q < length (f k) → get_or (joined n f) (start f k + q) 0 ≡ get_or (f k) q 0
  unfolding joined
  joined_at k zero q h l = absurd (omega arith)
  joined_at k (suc n) q h l =
      ⊎_elim
      (λ e. rw e (rw (← (length_joined n)) (get_or-append-add (joined n f) (f n) q 0)))
      (λ b.
      let room : start f k + q < length (joined n f) = omega (arith, length_joined n, start_suc k, start_rises (suc k) n b) in
      get_or-append (joined n f) (f n) 0 _ room ∙ joined_at k n q b l)
      (last_or_before k n h)

  -- which list a place lies in, and where
  pub record Lies (n x : ℕ) : Type 0 where
    pub list : ℕ
    pub place : ℕ
    pub below : list < n
    pub within : place < length (f list)
    pub is : x ≡ start f list + place

  -- every place lies in a list
  pub lies : (n x : ℕ) → x < start f n → Lies n x
  lies zero x h = absurd (omega (arith, start_zero))
  lies (suc n) x h =
      ⊎_elim
      (λ l. let r = lies n x l in record { list = r.list; place = r.place; below = omega (arith, r.below); within = r.within; is = r.is })
      (λ g. record { list = n; place = x - start f n; below = omega arith; within = omega (arith, start_suc n); is = omega arith })
      (less_or_not x (start f n))
