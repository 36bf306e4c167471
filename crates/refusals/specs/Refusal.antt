-- The number and the place of each refusal, and of an answer: docs/REFERENCE.md has them as a table. 26, 28, 46, 50 to 52, 55 to 58 and 60 to
-- 63 are given by no call yet. Definitions only. Assumes nothing.
use Rattle.std.specs.Prelude.{ℕ, Result}
use Rattle.refusals.specs.declared.Refusal.{Refusal}
use Rattle.refusals.specs.declared.Refusal.TheVariants.{SizeAboveLimit, ModelListLength, BadDetectorOffsets, BadPrior, DetectorOutOfRange}
use Rattle.refusals.specs.declared.Refusal.TheVariants.{DetectorRepeated, NoSuchGraph, BadProbability, BadClip, BadAlpha, BadGamma0}
use Rattle.refusals.specs.declared.Refusal.TheVariants.{BadIterations, TooManyLegs, BadLegIterations, BadGammaInterval, BadStop, NoGammaSets}
use Rattle.refusals.specs.declared.Refusal.TheVariants.{GammaSetsLength, GammaNotFinite, SyndromeLength, SyndromeNotBinary, LentListLength}
use Rattle.refusals.specs.declared.Refusal.TheVariants.{OrderNotEachOnce, OrderExchanged, StateNotFinite, SeedsLength, ShotTooLarge}
use Rattle.refusals.specs.declared.Refusal.TheVariants.{ObservableTooLarge, TooManyStores, NonFinite, CutRecord, UnknownKind, PayloadLength}
use Rattle.refusals.specs.declared.Refusal.TheVariants.{ShotTooEarly, BeyondRoom, BadSchedule, DroppedWithOthers, LineNotInSubset}
use Rattle.refusals.specs.declared.Refusal.TheVariants.{ConstructLeftOut, NumberOutsideLimits, ForeignCharacter, LineLength, CutShot}
use Rattle.refusals.specs.declared.Refusal.TheVariants.{FillingBitSet, AlistMalformed, AlistDegree, AlistNumber, AlistDisagrees}
use Rattle.std.specs.Prelude.{Ok, Err}
use Rattle.std.specs.Prelude.{Option, None, Some}

-- the number in the table
abbrev pub number_of : Refusal → ℕ
number_of SizeAboveLimit = 1
number_of ModelListLength = 2
number_of BadDetectorOffsets = 3
number_of (BadPrior mechanism) = 4
number_of (DetectorOutOfRange mechanism) = 5
number_of (DetectorRepeated mechanism) = 6
number_of NoSuchGraph = 7
number_of (BadProbability mechanism) = 8
number_of BadClip = 9
number_of BadAlpha = 10
number_of BadGamma0 = 11
number_of BadIterations = 12
number_of TooManyLegs = 13
number_of BadLegIterations = 14
number_of BadGammaInterval = 15
number_of BadStop = 16
number_of NoGammaSets = 17
number_of GammaSetsLength = 18
number_of (GammaNotFinite index) = 19
number_of SyndromeLength = 20
number_of (SyndromeNotBinary check) = 21
number_of LentListLength = 22
number_of OrderNotEachOnce = 23
number_of (OrderExchanged check) = 24
number_of StateNotFinite = 25
number_of SeedsLength = 26
number_of ShotTooLarge = 27
number_of (ObservableTooLarge mechanism) = 28
number_of TooManyStores = 29
number_of (NonFinite mechanism) = 30
number_of CutRecord = 40
number_of UnknownKind = 41
number_of PayloadLength = 42
number_of ShotTooEarly = 43
number_of BeyondRoom = 44
number_of BadSchedule = 45
number_of DroppedWithOthers = 46
number_of (LineNotInSubset line) = 50
number_of (ConstructLeftOut line) = 51
number_of (NumberOutsideLimits line) = 52
number_of (ForeignCharacter shot) = 55
number_of (LineLength shot) = 56
number_of (CutShot shot) = 57
number_of (FillingBitSet shot) = 58
number_of AlistMalformed = 60
number_of AlistDegree = 61
number_of AlistNumber = 62
number_of AlistDisagrees = 63

-- the place in the table, where it has one
abbrev pub place_of : Refusal → Option ℕ
place_of SizeAboveLimit = None
place_of ModelListLength = None
place_of BadDetectorOffsets = None
place_of (BadPrior mechanism) = Some mechanism
place_of (DetectorOutOfRange mechanism) = Some mechanism
place_of (DetectorRepeated mechanism) = Some mechanism
place_of NoSuchGraph = None
place_of (BadProbability mechanism) = Some mechanism
place_of BadClip = None
place_of BadAlpha = None
place_of BadGamma0 = None
place_of BadIterations = None
place_of TooManyLegs = None
place_of BadLegIterations = None
place_of BadGammaInterval = None
place_of BadStop = None
place_of NoGammaSets = None
place_of GammaSetsLength = None
place_of (GammaNotFinite index) = Some index
place_of SyndromeLength = None
place_of (SyndromeNotBinary check) = Some check
place_of LentListLength = None
place_of OrderNotEachOnce = None
place_of (OrderExchanged check) = Some check
place_of StateNotFinite = None
place_of SeedsLength = None
place_of ShotTooLarge = None
place_of (ObservableTooLarge mechanism) = Some mechanism
place_of TooManyStores = None
place_of (NonFinite mechanism) = Some mechanism
place_of CutRecord = None
place_of UnknownKind = None
place_of PayloadLength = None
place_of ShotTooEarly = None
place_of BeyondRoom = None
place_of BadSchedule = None
place_of DroppedWithOthers = None
place_of (LineNotInSubset line) = Some line
place_of (ConstructLeftOut line) = Some line
place_of (NumberOutsideLimits line) = Some line
place_of (ForeignCharacter shot) = Some shot
place_of (LineLength shot) = Some shot
place_of (CutShot shot) = Some shot
place_of (FillingBitSet shot) = Some shot
place_of AlistMalformed = None
place_of AlistDegree = None
place_of AlistNumber = None
place_of AlistDisagrees = None

-- ---- an answer

-- what a call answers that has nothing else to say: `Result<(), Refusal>`
abbrev pub Answer : Type 0
Answer = Result (Unit {0}) Refusal

-- the number of what is refused, and 0 where nothing is
abbrev pub answer_number : Answer → ℕ
answer_number (Ok _) = 0
answer_number (Err r) = number_of r

-- the place of what is refused
abbrev pub answer_place : Answer → Option ℕ
answer_place (Ok _) = None
answer_place (Err r) = place_of r
