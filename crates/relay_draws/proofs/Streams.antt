-- A stream number says which shot and which leg it is of, and generators that start apart stay apart, output by output. Assumes nothing.
use mathlib.Core.Path.{◌≡◌, refl}
use Prim.Native.Nat.{ℕ, zero, suc, ◌+◌, ◌*◌, ◌/◌, ◌%◌, ◌^◌, ◌<◌, ◌≤◌}
use native.Mathlib.Nat.{mod-lt, lt_of_le_of_lt}
use native.Mathlib.Omega.{arith}
use lib.Bits.{xor_lt}
use lib.Dec.{lit<, lit≤}
use lib.Ieee.{Float}
use lib.Pow.{pow_pos, shr_le}
use Rattle.numbers.specs.Draw.{advanced, mixed_by, mixed}
use Rattle.relay_gammas.specs.Gammas.{stream_number, drawn_on, drawn}
use Rattle.relay_draws.proofs.Mixing.{sum_injective, product_injective, folded, folded_injective}

-- ---- stream numbers

-- a stream number has 64 bits
pub stream_below : (shot r : ℕ) → shot < 2 ^ 48 → r ≤ 65535 → stream_number shot r < 2 ^ 64
unfolding stream_number
stream_below shot r h l = omega arith

-- and says which shot and which leg it is of
pub stream_injective : (shot r shot' r' : ℕ) → r ≤ 65535 → r' ≤ 65535 → stream_number shot r ≡ stream_number shot' r' → (shot ≡ shot') × (r ≡ r')
unfolding stream_number
stream_injective shot r shot' r' l l' e = (omega arith, omega arith)

-- ---- one draw

-- an advanced state has 64 bits
advanced_below : (s : ℕ) → advanced s < 2 ^ 64
advanced_below s = mod-lt (s + 0x9E3779B97F4A7C15) (pow_pos 64)

-- different states are advanced to different ones
advanced_injective : (s t : ℕ) → s < 2 ^ 64 → t < 2 ^ 64 → advanced s ≡ advanced t → s ≡ t
advanced_injective s t h k e = sum_injective (2 ^ 64) 0x9E3779B97F4A7C15 s t (lit≤ tt) h k e

-- a number of 64 bits, folded, has 64 bits
folded_below : (k z : ℕ) → z < 2 ^ 64 → folded k z < 2 ^ 64
folded_below k z h = xor_lt 64 z (z / 2 ^ k) h (lt_of_le_of_lt (shr_le z k) h)

-- folded and multiplied by a number that has an inverse i, different numbers stay different
mixed_by_injective : (k m i a b : ℕ) → 0 < k → m * i % 2 ^ 64 ≡ 1 → a < 2 ^ 64 → b < 2 ^ 64 → mixed_by k m a ≡ mixed_by k m b → a ≡ b
mixed_by_injective k m i a b h inverse l n e =
    folded_injective k a b h (product_injective (2 ^ 64) m i (folded k a) (folded k b) inverse (folded_below k a l) (folded_below k b n) e)

-- different advanced states give different outputs. The two inverses are checked by computation
mixed_injective : (a b : ℕ) → a < 2 ^ 64 → b < 2 ^ 64 → mixed a ≡ mixed b → a ≡ b
unfolding mixed
mixed_injective a b l n e =
    mixed_by_injective 30 0xBF58476D1CE4E5B9 0x96DE1B173F119089 a b (lit< tt) refl l n
    (mixed_by_injective 27 0x94D049BB133111EB 0x319642B2D24D8EC3 (one a) (one b) (lit< tt) refl (product_is_below a) (product_is_below b)
    (folded_injective 31 (two a) (two b) (lit< tt) e))
  where
    one : ℕ → ℕ
    one z = mixed_by 30 0xBF58476D1CE4E5B9 z

    two : ℕ → ℕ
    two z = mixed_by 27 0x94D049BB133111EB (one z)

    product_is_below : (z : ℕ) → one z < 2 ^ 64
    product_is_below z = mod-lt (folded 30 z * 0xBF58476D1CE4E5B9) (pow_pos 64)

-- so different starts give different first outputs
pub first_injective : (s t : ℕ) → s < 2 ^ 64 → t < 2 ^ 64 → mixed (advanced s) ≡ mixed (advanced t) → s ≡ t
first_injective s t h k e = advanced_injective s t h k (mixed_injective (advanced s) (advanced t) (advanced_below s) (advanced_below t) e)

-- ---- and so draw by draw. The interval takes no part

-- a state has 64 bits, where the start has
drawn_below : (low high : Float) (n s : ℕ) → s < 2 ^ 64 → (drawn low high s n).state < 2 ^ 64
unfolding drawn drawn_on
drawn_below low high zero s h = h
drawn_below low high (suc n) s h = advanced_below (drawn low high s n).state

-- different starts have different states after each draw
pub drawn_injective : (low high low' high' : Float) (n s t : ℕ) → s < 2 ^ 64 → t < 2 ^ 64 → (drawn low high s n).state ≡ (drawn low' high' t n).state → s ≡ t
unfolding drawn drawn_on
drawn_injective low high low' high' zero s t h k e = e
drawn_injective low high low' high' (suc n) s t h k e =
    drawn_injective low high low' high' n s t h k
    (advanced_injective (drawn low high s n).state (drawn low' high' t n).state (drawn_below low high n s h) (drawn_below low' high' n t k) e)

-- and different outputs
pub output_injective : (low high low' high' : Float) (n s t : ℕ) → s < 2 ^ 64 → t < 2 ^ 64
    → mixed (drawn low high s (suc n)).state ≡ mixed (drawn low' high' t (suc n)).state → s ≡ t
output_injective low high low' high' n s t h k e =
    drawn_injective low high low' high' (suc n) s t h k
    (mixed_injective (drawn low high s (suc n)).state (drawn low' high' t (suc n)).state (drawn_below low high (suc n) s h) (drawn_below low' high' (suc n) t k) e)
