-- A code fits 64 bits, and whether its number is 30. Assumes nothing.
use Prim.Native.Nat.{ℕ, ◌<◌, ◌+◌}
use mathlib.Core.Path.{◌≡◌, ◌∙◌, ap, sym}
use native.Mathlib.Omega.{arith}
use mathlib.Core.Bool.{true, false}
use lib.Dec.{eqb}
use borrow.Author.Tests.{eq-eqb, ne_eqb}
use Rattle.refusals.specs.declared.Refusal.{Refusal}
use Rattle.refusals.specs.Refusal.{Answer}
use Rattle.std.specs.Prelude.{Err}
use Rattle.std.specs.Prelude.{Option, None, Some}
use Rattle.refusals.specs.Refusal.{number_of, place_of}
use Rattle.exports_values.specs.Codes.{place_code, code_of}

-- a refusal's number is far below 65,536
pub number_small : (r : Refusal) → number_of r < 65536
number_small Refusal.SizeAboveLimit = omega arith
number_small Refusal.ModelListLength = omega arith
number_small Refusal.BadDetectorOffsets = omega arith
number_small (Refusal.BadPrior place) = omega arith
number_small (Refusal.DetectorOutOfRange place) = omega arith
number_small (Refusal.DetectorRepeated place) = omega arith
number_small Refusal.NoSuchGraph = omega arith
number_small (Refusal.BadProbability place) = omega arith
number_small Refusal.BadClip = omega arith
number_small Refusal.BadAlpha = omega arith
number_small Refusal.BadGamma0 = omega arith
number_small Refusal.BadIterations = omega arith
number_small Refusal.TooManyLegs = omega arith
number_small Refusal.BadLegIterations = omega arith
number_small Refusal.BadGammaInterval = omega arith
number_small Refusal.BadStop = omega arith
number_small Refusal.NoGammaSets = omega arith
number_small Refusal.GammaSetsLength = omega arith
number_small (Refusal.GammaNotFinite place) = omega arith
number_small Refusal.SyndromeLength = omega arith
number_small (Refusal.SyndromeNotBinary place) = omega arith
number_small Refusal.LentListLength = omega arith
number_small Refusal.OrderNotEachOnce = omega arith
number_small (Refusal.OrderExchanged place) = omega arith
number_small Refusal.StateNotFinite = omega arith
number_small Refusal.SeedsLength = omega arith
number_small Refusal.ShotTooLarge = omega arith
number_small (Refusal.ObservableTooLarge place) = omega arith
number_small Refusal.TooManyStores = omega arith
number_small (Refusal.NonFinite place) = omega arith
number_small Refusal.CutRecord = omega arith
number_small Refusal.UnknownKind = omega arith
number_small Refusal.PayloadLength = omega arith
number_small Refusal.ShotTooEarly = omega arith
number_small Refusal.BeyondRoom = omega arith
number_small Refusal.BadSchedule = omega arith
number_small Refusal.DroppedWithOthers = omega arith
number_small (Refusal.LineNotInSubset place) = omega arith
number_small (Refusal.ConstructLeftOut place) = omega arith
number_small (Refusal.NumberOutsideLimits place) = omega arith
number_small (Refusal.ForeignCharacter place) = omega arith
number_small (Refusal.LineLength place) = omega arith
number_small (Refusal.CutShot place) = omega arith
number_small (Refusal.FillingBitSet place) = omega arith
number_small Refusal.AlistMalformed = omega arith
number_small Refusal.AlistDegree = omega arith
number_small Refusal.AlistNumber = omega arith
number_small Refusal.AlistDisagrees = omega arith

-- 65,536 times a place leaves room for it
pub place_small : (p : Option ℕ) → place_code p < 281474976710656
place_small None = omega arith
place_small (Some place) = omega arith

-- a number and a place's code together are the code of the refusal
pub code_as : (a : Answer) (r : Refusal) (p : Option ℕ) (n k : ℕ) → a ≡ Err r → n ≡ number_of r → p ≡ place_of r → k ≡ place_code p → n + k ≡ code_of a
code_as a r p n k is-refused is_number is-place is_code =
    ap (λ x. x + k) is_number ∙ (ap (λ x. number_of r + x) (is_code ∙ ap place_code is-place) ∙ sym (ap code_of is-refused))

-- whether a refusal's number is 30, as the code finds it
pub thirty : (n m : ℕ) → n ≡ m → n ≡ 30 → eqb m 30 ≡ true
thirty n m e h = eq-eqb m 30 (sym e ∙ h)

pub not_thirty : (n m : ℕ) → n ≡ m → (n ≡ 30 → ⊥) → eqb m 30 ≡ false
not_thirty n m e h = ne_eqb m 30 (λ q. h (e ∙ q))
