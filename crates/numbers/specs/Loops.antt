-- The forms that the definitions of all crates are made of: a loop that counts, a list that is written out, a part of a list.
-- `for x in xs` is mathlib's `foldl`, and `xs[i]` is `get_or xs i d`, which is d past the end of xs. Past the tests of a call no such default is ever
-- met, and what a definition makes of lists that do not fit counts for nothing: an outcome counts only where no test refuses.
-- Definitions only. Assumes nothing.
use Rattle.std.specs.Prelude.{ℕ, zero, suc, ◌-◌, Bool, true, ◌&&◌, List, [], ◌∷◌, ◌++◌, length, get_or, take, drop}

-- `for i in 0..n { s = f(i, s) }`
abbrev pub turns {ℓ} : {S : Type ℓ} → ℕ → (ℕ → S → S) → S → S
turns zero f s = s
turns (suc n) f s = f n (turns n f s)

-- n elements, the i-th f i
abbrev pub table {ℓ} : {A : Type ℓ} → ℕ → (ℕ → A) → List A
table zero f = []
table (suc n) f = table n f ++ (f n ∷ [])

-- 0, 1, .. n - 1
abbrev pub upto : ℕ → List ℕ
upto n = table n (λ (i : ℕ). i)

-- p 0 .. p (n - 1) all hold
abbrev pub every : ℕ → (ℕ → Bool) → Bool
every zero p = true
every (suc n) p = every n p && p n

-- `&xs[a..e]`
abbrev pub part {ℓ} : {A : Type ℓ} → ℕ → ℕ → List A → List A
part a e xs = take (e - a) (drop a xs)

-- xs with `new` written over the part from a to e
abbrev pub spliced {ℓ} : {A : Type ℓ} → List A → ℕ → ℕ → List A → List A
spliced xs a e new = take a xs ++ (new ++ drop e xs)

-- the part of a flat list that the offsets give to i: from offset i to offset i + 1
abbrev pub row {ℓ} : {A : Type ℓ} → List ℕ → ℕ → List A → List A
row off i xs = part (get_or off i 0) (get_or off (suc i) 0) xs

-- `new` written over the front of `old`, whose surplus is kept
abbrev pub over {ℓ} : {A : Type ℓ} → List A → List A → List A
over new old = new ++ drop (length new) old
