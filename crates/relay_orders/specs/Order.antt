-- Which orders of checks are taken: refusals 23 and 24 of docs/REFERENCE.md, in its words. Definitions only. Assumes nothing.
use Rattle.std.specs.Prelude.{ℕ, suc, ◌<◌, ◌≤◌, ◌≡◌, Bool, true, false, ◌&&◌, ◌||◌, cond, List, [], ◌∷◌, ◌++◌, eqb, ltb, length, get_or, take}
use Rattle.numbers.specs.Loops.{every}
use Rattle.refusals.specs.declared.Refusal.TheVariants.{OrderNotEachOnce, OrderExchanged}
use Rattle.refusals.specs.Refusal.{Answer}
use Rattle.std.specs.Prelude.{Ok, Err}
use Rattle.refusals.specs.Tests.{unless}
use Rattle.graph_lists.specs.Lists.{has}
use Rattle.graph_lists.specs.Graph.{Graph, check_entries}
use Rattle.relay_settings.specs.declared.Schedule.{Schedule}
use Rattle.relay_settings.specs.declared.Schedule.TheVariants.{Flooding, CheckSerial}

-- how often k stands in xs
unfoldable pub count : ℕ → List ℕ → ℕ
count k [] = 0
count k (x ∷ xs) = cond (eqb x k) (suc (count k xs)) (count k xs)

-- the order names k once
unfoldable pub once : List ℕ → ℕ → Bool
once order k = eqb (count k order) 1

-- 23: the order names each check once: as many names as checks, and each check once among them
unfoldable pub names_once : ℕ → List ℕ → Bool
names_once checks order = eqb (length order) checks && every checks (once order)

-- some x of xs passes the test
abbrev pub any_of : (ℕ → Bool) → List ℕ → Bool
any_of p [] = false
any_of p (x ∷ xs) = p x || any_of p xs

-- the checks c and d share a mechanism; `entries` gives the mechanisms of a check
unfoldable pub shares : (ℕ → List ℕ) → ℕ → ℕ → Bool
shares entries c d = any_of (has (entries d)) (entries c)

-- d is higher than c and shares a mechanism with it
unfoldable pub above : (ℕ → List ℕ) → ℕ → ℕ → Bool
above entries c d = ltb c d && shares entries c d

-- the check c shares a mechanism with a higher one of those named before it
unfoldable pub late : (ℕ → List ℕ) → List ℕ → ℕ → Bool
late entries before c = any_of (above entries c) before

-- the first check that is late, of those that are left after the ones named before
unfoldable pub exchanged : (ℕ → List ℕ) → List ℕ → List ℕ → Answer
exchanged entries before [] = (Ok tt)
exchanged entries before (c ∷ rest) = cond (late entries before c) (Err (OrderExchanged c)) (exchanged entries (before ++ (c ∷ [])) rest)

-- the test 23
unfoldable pub names_fault : ℕ → List ℕ → Answer
names_fault checks order = unless (names_once checks order) OrderNotEachOnce

-- the test 24: Flooding takes any order
unfoldable pub exchange_fault : Schedule → Graph → List ℕ → Answer
exchange_fault Flooding g order = (Ok tt)
exchange_fault CheckSerial g order = exchanged (check_entries g) [] order

-- ---- the same in the reference's words, by place: `relay`'s `Theorems` ties the tests to them, by proofs/OrderWords.antt

-- the order names each check once, and nothing else
pub record NamesOnce (checks : ℕ) (order : List ℕ) : Type 0 where
  pub once_each : (k : ℕ) → k < checks → count k order ≡ 1
  pub none_else : (k : ℕ) → checks ≤ k → count k order ≡ 0

-- any two checks that share a mechanism keep their index order
pub record KeepsOrder (g : Graph) (order : List ℕ) : Type 0 where
  pub keeps : (i j : ℕ) → i < j → j < length order → shares (check_entries g) (get_or order i 0) (get_or order j 0) ≡ true → get_or order i 0 ≤ get_or order j 0

-- c is the first check in the order that shares a mechanism with a higher one named before it
pub record FirstLate (g : Graph) (order : List ℕ) (c : ℕ) : Type 0 where
  pub place : ℕ
  pub inside : place < length order
  pub named : get_or order place 0 ≡ c
  pub is_late : late (check_entries g) (take place order) c ≡ true
  pub earlier : (j : ℕ) → j < place → late (check_entries g) (take j order) (get_or order j 0) ≡ false
