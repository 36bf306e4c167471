-- Lists of numbers as the graph is made of them: those that pass a test, lists laid end to end, and where each begins. Definitions only. Assumes nothing.
use Rattle.std.specs.Prelude.{ℕ, zero, suc, Bool, true, false, ◌&&◌, ◌||◌, cond, List, [], ◌∷◌, ◌++◌, eqb, length, get_or}
use Rattle.numbers.specs.Loops.{table}

-- whether x is among xs
unfoldable pub has : List ℕ → ℕ → Bool
has [] x = false
has (y ∷ ys) x = eqb y x || has ys x

-- those of 0 .. n - 1 that pass, rising
unfoldable pub passing : ℕ → (ℕ → Bool) → List ℕ
passing zero p = []
passing (suc n) p = passing n p ++ cond (p n) (n ∷ []) []

-- f 0, f 1, .. f (n - 1), one after the other
unfoldable pub joined : ℕ → (ℕ → List ℕ) → List ℕ
joined zero f = []
joined (suc n) f = joined n f ++ f n

-- where f i begins when they are joined
unfoldable pub start : (ℕ → List ℕ) → ℕ → ℕ
start f i = length (joined i f)

-- `csr_offsets`: where each of n joined lists begins, and last where they end
unfoldable pub offsets : ℕ → (ℕ → List ℕ) → List ℕ
offsets n f = table (suc n) (start f)

-- whether k stands at the place i
unfoldable pub stands : List ℕ → ℕ → ℕ → Bool
stands xs k i = eqb (get_or xs i 0) k

-- the places of k, rising
unfoldable pub places : List ℕ → ℕ → List ℕ
places xs k = passing (length xs) (stands xs k)

-- whether two lists are the same
unfoldable pub same_list : List ℕ → List ℕ → Bool
same_list [] [] = true
same_list [] (y ∷ ys) = false
same_list (x ∷ xs) [] = false
same_list (x ∷ xs) (y ∷ ys) = eqb x y && same_list xs ys
