-- The lines that `shots` writes, as bytes: single spaces, numbers in decimal without leading zeros. Definitions only. Assumes nothing.
use Rattle.std.specs.Prelude.{ℕ, zero, suc, ◌+◌, ◌/◌, ◌%◌, Bool, cond, List, [], ◌∷◌, ◌++◌, map, eqb, leb, ltb, length}
use Rattle.numbers.specs.Limits.{room_mechanisms}

-- the decimal digits of a number that has at most k
unfoldable pub digits : ℕ → ℕ → List ℕ
digits zero n = []
digits (suc k) n = cond (ltb n 10) ((48 + n) ∷ []) (digits k (n / 10) ++ ((48 + n % 10) ∷ []))

-- a number: 20 digits hold every one of 64 bits
unfoldable pub decimal : ℕ → List ℕ
decimal n = digits 20 n

-- a number behind a word
abbrev pub numbered : List ℕ → ℕ → List ℕ
numbered word n = word ++ decimal n

-- `shot `
abbrev pub shot_word : List ℕ
shot_word = 115 ∷ 104 ∷ 111 ∷ 116 ∷ 32 ∷ []

-- ` refused `
abbrev pub refused_word : List ℕ
refused_word = 32 ∷ 114 ∷ 101 ∷ 102 ∷ 117 ∷ 115 ∷ 101 ∷ 100 ∷ 32 ∷ []

-- `stopped `
abbrev pub stopped_word : List ℕ
stopped_word = 115 ∷ 116 ∷ 111 ∷ 112 ∷ 112 ∷ 101 ∷ 100 ∷ 32 ∷ []

-- `end `
abbrev pub end_word : List ℕ
end_word = 101 ∷ 110 ∷ 100 ∷ 32 ∷ []

-- a space
abbrev pub space : List ℕ
space = 32 ∷ []

-- the end of a line
abbrev pub newline : List ℕ
newline = 10 ∷ []

-- `1` or `0`
unfoldable pub flag : Bool → ℕ
flag b = cond b 1 0

-- the digit of a bit
unfoldable pub bit_digit : ℕ → ℕ
bit_digit b = cond (eqb b 0) 48 49

-- the bits of a correction, mechanism 0 first, after a space; nothing where there are none
unfoldable pub bits_after : List ℕ → List ℕ
bits_after [] = []
bits_after (b ∷ bs) = space ++ map bit_digit (b ∷ bs)

-- a shot that was decoded: its number, converged or not, total iterations, legs, bits
unfoldable pub shot_line : ℕ → Bool → ℕ → ℕ → List ℕ → List ℕ
shot_line n converged total legs bits =
    ((((numbered shot_word n ++ numbered space (flag converged)) ++ numbered space total) ++ numbered space legs) ++ bits_after bits) ++ newline

-- a line of two words, each with a number behind it
unfoldable pub numbers_line : List ℕ → ℕ → List ℕ → ℕ → List ℕ
numbers_line v a w b = (numbered v a ++ numbered w b) ++ newline

-- a shot that was refused, with 20, 21, 27 or 30
unfoldable pub refused_line : ℕ → ℕ → List ℕ
refused_line n code = numbers_line shot_word n refused_word code

-- a refusal that ends the run: its number, and the offset of the record
unfoldable pub stopped_line : ℕ → ℕ → List ℕ
stopped_line code offset = numbers_line stopped_word code space offset

-- the end of a run without one: how many shots there were
unfoldable pub end_line : ℕ → List ℕ
end_line shots = numbered end_word shots ++ newline

-- the line, or nothing where there are more bits than the room has mechanisms, 256
unfoldable pub unless_too_long : List ℕ → List ℕ → List ℕ
unless_too_long bits line = cond (leb (length bits) room_mechanisms) line []
