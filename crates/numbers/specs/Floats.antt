-- binary64 as the Rust uses it: its operators, the constants that it names, `abs`, `is_finite`, the sign that `copysign` reads, and `message_sign`.
-- A float is a value of `lib.Ieee`: `nan`, `inf s`, or `fin s m e`, which is m * 2 ^ e, negative where s is true. Definitions only. Assumes nothing.
use Rattle.std.specs.Prelude.{Bool, true, false, cond, pos, Float}
use Rattle.std.specs.Float.{nan, inf, fin, binary64}
use Rattle.std.specs.Float.Ieee.{add, sub, mul, lt}

-- ---- the operators, each rounded once to the nearest even

-- `x + y`
abbrev pub ◌+ᶠ◌ : Float → Float → Float
x +ᶠ y = add binary64 x y

-- `x - y`
abbrev pub ◌-ᶠ◌ : Float → Float → Float
x -ᶠ y = sub binary64 x y

-- `x * y`
abbrev pub ◌*ᶠ◌ : Float → Float → Float
x *ᶠ y = mul binary64 x y

infixl 60 ◌+ᶠ◌ ◌-ᶠ◌
infixl 70 ◌*ᶠ◌
-- ---- constants

-- 0.0
abbrev pub zero⁺ : Float
zero⁺ = fin false 0 (pos 0)

-- -0.0, from which every sum starts
abbrev pub zero⁻ : Float
zero⁻ = fin true 0 (pos 0)

-- 1.0
abbrev pub one⁺ : Float
one⁺ = fin false 1 (pos 0)

-- -1.0
abbrev pub one⁻ : Float
one⁻ = fin true 1 (pos 0)

-- `LLR_SATURATION`: 30.0
abbrev pub saturation : Float
saturation = fin false 15 (pos 1)

-- ---- what is asked of one float

-- `x.abs()`. A NaN is one value here, so that this says nothing of its bits
unfoldable pub abs : Float → Float
abs nan = nan
abs (inf s) = inf false
abs (fin s m e) = fin false m e

-- `x.is_finite()`
unfoldable pub is_finite : Float → Bool
is_finite nan = false
is_finite (inf s) = false
is_finite (fin s m e) = true

-- the sign that `copysign` reads off x: negative zero is negative, and a NaN is positive
unfoldable pub is_negative : Float → Bool
is_negative nan = false
is_negative (inf s) = s
is_negative (fin s m e) = s

-- `message_sign`: -1 below zero, else 1, so that negative zero and a NaN count as positive
unfoldable pub message_sign : Float → Float
message_sign x = cond (lt x zero⁺) one⁻ one⁺
