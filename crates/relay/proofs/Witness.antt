-- From the tests 23 and 24 to what the order theorem asks. Assumes nothing.
use Prim.Native.Nat.{ℕ, zero, suc, ◌<◌, ◌≤◌}
use mathlib.Core.Path.{◌≡◌, refl, sym, ap, ◌∙◌, subst}
use mathlib.Core.Bool.{Bool, true, false, ◌&&◌, cond, true≢false}
use mathlib.Core.List.{List, [], ◌∷◌, ◌++◌}
use native.Mathlib.Omega.{arith}
use native.Mathlib.Decide.{ℕ_discrete}
use lib.Dec.{ltb}
use borrow.Author.Tests.{lt-ltb}
use Rattle.refusals.specs.declared.Refusal.TheVariants.{OrderExchanged}
use Rattle.refusals.specs.Refusal.{Answer}
use Rattle.std.specs.Prelude.{Ok, Err}
use Rattle.refusals.specs.Tests.{is_done}
use Rattle.relay_orders.specs.Order.{count, NamesOnce, shares, above, late, exchanged}
use Rattle.relay_orders.proofs.All.{All, all_map, all_zip, all_always, all_left, all_right, all_without, all_head, any_none}
use Rattle.relay_orders.proofs.Counts.{count_same, count_other, count_insert, found, names_below}
use Rattle.relay.proofs.Rearrange.{Orders}

-- R of each two that stand the other way round: x before a lower y
pub data Keeps (R : ℕ → ℕ → Type 0) : List ℕ → Type 0 where
  end : Keeps R []
  first : {x : ℕ} {xs : List ℕ} → All (λ y. y < x → R x y) xs → Keeps R xs → Keeps R (x ∷ xs)

-- one fewer asks no more
keeps_without : {R : ℕ → ℕ → Type 0} (xs : List ℕ) (y : ℕ) (ys : List ℕ) → Keeps R (xs ++ (y ∷ ys)) → Keeps R (xs ++ ys)
keeps_without [] y ys (Keeps.first t k) = k
keeps_without (x ∷ xs) y ys (Keeps.first t k) = Keeps.first (all_without xs y ys t) (keeps_without xs y ys k)

-- what is asked of one that stands before others
keeps_after : {R : ℕ → ℕ → Type 0} (xs : List ℕ) (y : ℕ) (ys : List ℕ) → Keeps R (xs ++ (y ∷ ys)) → All (λ z. z < y → R y z) ys
keeps_after [] y ys (Keeps.first t k) = t
keeps_after (x ∷ xs) y ys (Keeps.first t k) = keeps_after xs y ys k

-- without the highest, the others are still named once each
names_without : (n : ℕ) (pre post : List ℕ) → NamesOnce (suc n) (pre ++ (n ∷ post)) → NamesOnce n (pre ++ post)
names_without n pre post h = record { once_each = λ k l. go k (h.once_each k (omega arith)) (λ e. omega arith); none_else = λ k l. zeros k l (ℕ_discrete n k) }
  where
    go : (k : ℕ) {m : ℕ} → count k (pre ++ (n ∷ post)) ≡ m → (n ≡ k → ⊥) → count k (pre ++ post) ≡ m
    go k e q = sym (count_other k n (pre ++ post) q) ∙ sym (count_insert k n pre post) ∙ e

    zeros : (k : ℕ) → n ≤ k → Dec (n ≡ k) → count k (pre ++ post) ≡ 0
    zeros k l (yes q) = rw (← q) (omega (arith, count_same n (pre ++ post), count_insert n n pre post, h.once_each n (omega arith)))
    zeros k l (no q) = go k (h.none_else k (omega arith)) q

-- a lower one that may change places with x, after x
abbrev pub FreeIf : (ℕ → ℕ → Type 0) → ℕ → ℕ → Type 0
FreeIf R x y = (y < x) × R x y

-- such a list is one of the orders that the order theorem speaks of
pub orders : (R : ℕ → ℕ → Type 0) (n : ℕ) (xs : List ℕ) → NamesOnce n xs → Keeps R xs → Orders (FreeIf R) n xs
orders R zero [] h k = Orders.none
orders R zero (x ∷ xs) h k = absurd (omega (arith, all_head (names_below h)))
orders R (suc n) xs h k =
    let f = found n xs 0 (h.once_each n (omega arith)) in
    let pre = f.pre in
    let post = f.post in
    let h' : NamesOnce (suc n) (pre ++ (n ∷ post)) = subst (λ ys. NamesOnce (suc n) ys) f.is h in
    let k' : Keeps R (pre ++ (n ∷ post)) = subst (λ ys. Keeps R ys) f.is k in
    let w = names_without n pre post h' in
    let t : All (FreeIf R n) post = all_zip (λ y (l : y < n) (r : y < n → R n y). (l, r l)) (all_right pre post (names_below w)) (keeps_after pre n post k') in
    subst (λ ys. Orders (FreeIf R) (suc n) ys) (sym f.is) (Orders.more pre post t (orders R n (pre ++ post) w (keeps_without pre n post k')))

-- ---- from `exchanged`

-- x stands before a lower y: they share no mechanism
abbrev pub Apart : (ℕ → List ℕ) → ℕ → ℕ → Type 0
Apart entries x y = shares entries y x ≡ false

-- what is not refused
cond_none : (b : Bool) (c : ℕ) (o : Answer) → cond b (Err (OrderExchanged c)) o ≡ Ok tt → (b ≡ false) × (o ≡ Ok tt)
cond_none true c o h = absurd (true≢false (sym (ap is_done h)))
cond_none false c o h = (refl, h)

-- the other of two that don't both hold
and_false : (a b : Bool) → (a && b) ≡ false → a ≡ true → b ≡ false
and_false true b h e = h
and_false false b h e = absurd (true≢false (sym e))

module _ (entries : ℕ → List ℕ) where
  -- of one that isn't late: it shares no mechanism with a higher one before it
  late_none : (before : List ℕ) (c : ℕ) → late entries before c ≡ false → All (λ d. c < d → Apart entries d c) before
  unfolding late above
  late_none before c h = all_map (λ d e l. and_false (ltb c d) (shares entries c d) e (lt-ltb c d l)) (any_none _ before h)

  -- where nothing is refused: none is late by the ones before, nor by one another
  late_and_kept : (before xs : List ℕ) → exchanged entries before xs ≡ Ok tt
      → All (λ d. All (λ c. c < d → Apart entries d c) xs) before × Keeps (Apart entries) xs
  unfolding exchanged
  late_and_kept before [] h = (all_always (λ d. All.nil) before, Keeps.end)
  late_and_kept before (c ∷ rest) h =
      let e = cond_none (late entries before c) c (exchanged entries (before ++ (c ∷ [])) rest) h in
      let r = late_and_kept (before ++ (c ∷ [])) rest e.1 in
      (all_zip (λ d l t. All.cons l t) (late_none before c e.0) (all_left before (c ∷ []) r.0), Keeps.first (all_head (all_right before (c ∷ []) r.0)) r.1)

  -- an order that 24 takes
  pub keeps_order : (xs : List ℕ) → exchanged entries [] xs ≡ Ok tt → Keeps (Apart entries) xs
  keeps_order xs h = (late_and_kept [] xs h).1

-- nothing asked of any two
pub keeps_any : (xs : List ℕ) → Keeps (λ x y. Unit) xs
keeps_any [] = Keeps.end
keeps_any (x ∷ xs) = Keeps.first (all_always (λ y l. tt) xs) (keeps_any xs)
