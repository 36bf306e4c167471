-- Relay's settings: the published operating point, and their tests, 1 and 9 to 19 of docs/REFERENCE.md in their order. Definitions only. Assumes nothing.
use Rattle.std.specs.Prelude.{ℕ, ◌*◌, Bool, true, ◌&&◌, ◌||◌, List, eqb, leb, Float, length, get_or}
use Rattle.std.specs.Float.{nan, binary64}
use Rattle.std.specs.Float.Ieee.{of_bits, lt, le}
use Rattle.numbers.specs.Limits.{max_mechanisms, max_count}
use Rattle.numbers.specs.Floats.{◌-ᶠ◌, zero⁺, one⁺, is_finite}
use Rattle.refusals.specs.declared.Refusal.TheVariants.{SizeAboveLimit, BadClip, BadAlpha, BadGamma0, BadIterations, TooManyLegs, BadLegIterations, BadGammaInterval, BadStop, NoGammaSets, GammaSetsLength, GammaNotFinite}
use Rattle.refusals.specs.Refusal.{Answer}
use Rattle.std.specs.Prelude.{Ok}
use Rattle.refusals.specs.Tests.{unless, or_else, first_of}
use Rattle.relay_settings.specs.declared.Settings.{Settings}
use Rattle.relay_settings.specs.declared.Schedule.TheVariants.{Flooding}
use Rattle.relay_settings.specs.declared.Clip.{Clip}
use Rattle.relay_settings.specs.declared.Clip.TheVariants.{Off, On}
use Rattle.relay_settings.specs.declared.DrawRule.TheVariants.{ByShot}
use Rattle.relay_settings.specs.declared.GammaSource.{GammaSource}
use Rattle.relay_settings.specs.declared.GammaSource.TheVariants.{Explicit, Seeded}

-- `RelayConfig::default`: the published operating point. gamma0 is 0.1, and the interval goes from -0.24 to 0.66, each the binary64 nearest. Its gammas are
-- drawn by shot
abbrev pub published : Settings
published =
    record {
      schedule = Flooding;
      alpha = one⁺;
      clip = Off;
      gamma0 = of_bits binary64 0x3FB999999999999A;
      pre_iterations = 80;
      num_legs = 40;
      leg_iterations = 60;
      gamma_low = of_bits binary64 0xBFCEB851EB851EB8;
      gamma_high = of_bits binary64 0x3FE51EB851EB851F;
      stop_after_converged = 1;
      gamma_source = Seeded ByShot;
    }

-- ---- the tests

-- 9: a clip that is on is finite and above 0
unfoldable pub clip_good : Clip → Bool
clip_good Off = true
clip_good (On limit) = is_finite limit && lt zero⁺ limit

-- 10: alpha is finite and above 0
unfoldable pub alpha_good : Float → Bool
alpha_good alpha = is_finite alpha && lt zero⁺ alpha

-- 12: from 1 to 65,535
unfoldable pub pre_good : ℕ → Bool
pre_good n = leb 1 n && leb n max_count

-- 14: at most 65,535, and 0 only where there are no legs
unfoldable pub leg_iterations_good : ℕ → ℕ → Bool
leg_iterations_good legs n = leb n max_count && (leb 1 n || eqb legs 0)

-- 15: both ends and their span finite, and low not above high
unfoldable pub interval_good : Float → Float → Bool
interval_good low high = is_finite low && (is_finite high && (is_finite (high -ᶠ low) && le low high))

-- 18: at most 65,535 sets, and as many gammas as the sets have mechanisms
unfoldable pub sets_good : ℕ → ℕ → ℕ → Bool
sets_good sets mechanisms gammas = leb sets max_count && eqb gammas (sets * mechanisms)

-- 19 for one gamma of the flat list
unfoldable pub gamma_fault : List Float → ℕ → Answer
gamma_fault gammas i = unless (is_finite (get_or gammas i nan)) (GammaNotFinite i)

-- 17, 18 and 19, of an explicit source alone: some set where there are legs; as many gammas as the sets have mechanisms; each finite.
-- `gammas` is the flat list
unfoldable pub source_fault : GammaSource → ℕ → ℕ → List Float → Answer
source_fault (Seeded rule) legs mechanisms gammas = (Ok tt)
source_fault (Explicit sets) legs mechanisms gammas =
    or_else (unless (leb 1 sets || eqb legs 0) NoGammaSets)
    (or_else (unless (sets_good sets mechanisms (length gammas)) GammaSetsLength)
    (first_of (length gammas) (gamma_fault gammas)))

-- 9, and `validate_config`: 10 to 19
unfoldable pub settings_fault : Settings → ℕ → List Float → Answer
settings_fault t mechanisms gammas =
    or_else (unless (clip_good t.clip) BadClip)
    (or_else (unless (alpha_good t.alpha) BadAlpha)
    (or_else (unless (is_finite t.gamma0) BadGamma0)
    (or_else (unless (pre_good t.pre_iterations) BadIterations)
    (or_else (unless (leb t.num_legs max_count) TooManyLegs)
    (or_else (unless (leg_iterations_good t.num_legs t.leg_iterations) BadLegIterations)
    (or_else (unless (interval_good t.gamma_low t.gamma_high) BadGammaInterval)
    (or_else (unless (leb 1 t.stop_after_converged) BadStop) (source_fault t.gamma_source t.num_legs mechanisms gammas))))))))

-- `check_settings`: 1, so that a place of 19 is below 2 ^ 32, then 9 to 19
unfoldable pub check_settings : Settings → ℕ → List Float → Answer
check_settings t mechanisms gammas = or_else (unless (leb mechanisms max_mechanisms) SizeAboveLimit) (settings_fault t mechanisms gammas)
