-- SplitMix64, the public generator, and the gamma that a draw gives. A state and a draw are numbers below 2 ^ 64. Definitions only. Assumes nothing.
use Rattle.std.specs.Prelude.{ℕ, ◌+◌, ◌*◌, ◌/◌, ◌%◌, ◌^◌, false, pos, negsuc, bit_xor, Float}
use Rattle.std.specs.Float.{fin, binary64}
use Rattle.std.specs.Float.Ieee.{of_int}
use Rattle.numbers.specs.Floats.{◌+ᶠ◌, ◌-ᶠ◌, ◌*ᶠ◌}

-- the product modulo 2 ^ 64: `wrapping_mul`
abbrev pub product : ℕ → ℕ → ℕ
product a b = a * b % 2 ^ 64

-- the state after a draw
abbrev pub advanced : ℕ → ℕ
advanced state = (state + 0x9E3779B97F4A7C15) % 2 ^ 64

-- z mixed with itself shifted right by k, and multiplied by m
abbrev pub mixed_by : ℕ → ℕ → ℕ → ℕ
mixed_by k m z = product (bit_xor z (z / 2 ^ k)) m

-- the draw that an advanced state gives
unfoldable pub mixed : ℕ → ℕ
mixed z =
    let a = mixed_by 30 0xBF58476D1CE4E5B9 z in
    let b = mixed_by 27 0x94D049BB133111EB a in
    bit_xor b (b / 2 ^ 31)

-- a draw as a number from 0 to below 1: its top 53 bits times 2^-53
unfoldable pub unit : ℕ → Float
unit u = of_int binary64 (pos (u / 2 ^ 11)) *ᶠ fin false 1 (negsuc 52)

-- the gamma of a draw: low + (high - low) times it
unfoldable pub gamma : Float → Float → ℕ → Float
gamma low high u = low +ᶠ (high -ᶠ low) *ᶠ unit u
