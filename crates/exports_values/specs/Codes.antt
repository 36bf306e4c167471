-- How answers and settings pass through the C calling convention, as numbers and lists of fixed length. Definitions only. Assumes nothing.
use Rattle.std.specs.Prelude.{ℕ, zero, suc, ◌+◌, ◌*◌, ◌/◌, ◌%◌, Bool, true, false, cond, List, [], ◌∷◌, eqb, Float}
use Rattle.numbers.specs.Floats.{zero⁺}
use Rattle.refusals.specs.Refusal.{Answer}
use Rattle.std.specs.Prelude.{Ok, Err}
use Rattle.std.specs.Prelude.{Option, None, Some}
use Rattle.refusals.specs.Refusal.{number_of, place_of}
use Rattle.relay_settings.specs.declared.Schedule.{Schedule}
use Rattle.relay_settings.specs.declared.Schedule.TheVariants.{Flooding, CheckSerial}
use Rattle.relay_settings.specs.declared.Clip.{Clip}
use Rattle.relay_settings.specs.declared.Clip.TheVariants.{Off, On}
use Rattle.relay_settings.specs.declared.DrawRule.{DrawRule}
use Rattle.relay_settings.specs.declared.DrawRule.TheVariants.{ByShot, SeedXorLeg}
use Rattle.relay_settings.specs.declared.GammaSource.{GammaSource}
use Rattle.relay_settings.specs.declared.GammaSource.TheVariants.{Explicit, Seeded}
use Rattle.relay_settings.specs.declared.Settings.{Settings}
use Rattle.relay_calls.specs.declared.Decoded.{Decoded}
use Rattle.relay_calls.specs.Answers.{DecodeAnswer}

-- ---- the version

-- the version of the exported calls: raised whenever a call, a list or a code changes its meaning
abbrev pub version : ℕ
version = 5

-- ---- answers

-- 1 for true, 0 for false
abbrev pub bit_of : Bool → ℕ
bit_of true = 1
bit_of false = 0

-- 65,536 times the place, 0 where there is none. The remainder keeps the code within 64 bits for every number. No place reaches 2^32 but the mechanism that
-- a caller hands to `prior_of`, and the index of a list of as many probabilities: else the largest is an index of at most 65,535 times 65,536 gammas.
abbrev pub place_code : Option ℕ → ℕ
place_code None = 0
place_code (Some place) = 65536 * (place % 4294967296)

-- an answer as one number: the refusal's number plus 65,536 times its place, 0 for none
abbrev pub code_of : Answer → ℕ
code_of (Ok _) = 0
code_of (Err r) = number_of r + place_code (place_of r)

-- a refusal's number, out of its code
abbrev pub number_in : ℕ → ℕ
number_in code = code % 65536

-- and its place, where it has one
abbrev pub place_in : ℕ → ℕ
place_in code = code / 65536

-- ---- settings

-- a byte that is 0 is Flooding
abbrev pub schedule_given : ℕ → Schedule
schedule_given zero = Flooding
schedule_given (suc n) = CheckSerial

-- a byte that is 0 is off, and else the clip is on with the magnitude beside it
abbrev pub clip_given : ℕ → Float → Clip
clip_given zero limit = Off
clip_given (suc n) limit = On limit

-- where a byte is 0 the gammas are drawn by shot, where it is 1 they are explicit sets, and else they are drawn from the seed xor the leg
abbrev pub source_given : ℕ → ℕ → GammaSource
source_given zero sets = Seeded ByShot
source_given (suc zero) sets = Explicit sets
source_given (suc (suc n)) sets = Seeded SeedXorLeg

-- the settings of a call, in its order
abbrev pub settings_given : ℕ → Float → ℕ → Float → Float → ℕ → ℕ → ℕ → Float → Float → ℕ → ℕ → ℕ → Settings
settings_given schedule alpha clipOn clip gamma0 pre legs iterations low high stop source sets =
    record {
      schedule = schedule_given schedule;
      alpha = alpha;
      clip = clip_given clipOn clip;
      gamma0 = gamma0;
      pre_iterations = pre;
      num_legs = legs;
      leg_iterations = iterations;
      gamma_low = low;
      gamma_high = high;
      stop_after_converged = stop;
      gamma_source = source_given source sets;
    }

-- a schedule as a byte
abbrev pub byte_of : Schedule → ℕ
byte_of Flooding = 0
byte_of CheckSerial = 1

-- whether a clip is on, as a byte
abbrev pub clip_byte : Clip → ℕ
clip_byte Off = 0
clip_byte (On limit) = 1

-- and its magnitude, positive zero where it is off
abbrev pub clip_float : Clip → Float
clip_float Off = zero⁺
clip_float (On limit) = limit

-- a draw as a byte
abbrev pub rule_byte : DrawRule → ℕ
rule_byte ByShot = 0
rule_byte SeedXorLeg = 2

-- and a source
abbrev pub source_byte : GammaSource → ℕ
source_byte (Seeded rule) = rule_byte rule
source_byte (Explicit sets) = 1

-- the floats of settings: alpha, gamma0, the interval's ends and the clip's magnitude
abbrev pub floats_in : Settings → List Float
floats_in t = t.alpha ∷ (t.gamma0 ∷ (t.gamma_low ∷ (t.gamma_high ∷ (clip_float t.clip ∷ []))))

-- and their counts: pre_iterations, num_legs, leg_iterations, stop_after_converged, whether the clip is on, and the source's byte
abbrev pub counts_in : Settings → List ℕ
counts_in t =
    t.pre_iterations ∷ (t.num_legs ∷ (t.leg_iterations ∷ (t.stop_after_converged ∷ (clip_byte t.clip ∷ (source_byte t.gamma_source ∷ [])))))

-- ---- a decode

-- a decode's answer as a code
abbrev pub decoded_code : DecodeAnswer → ℕ
decoded_code (Ok (Decoded.Converged n t m w)) = 0
decoded_code (Ok (Decoded.NotConverged n t m)) = 0
decoded_code (Err r) = code_of (Err r)

-- beside it four counts: converged (1 or 0), executed legs, total iterations, message stores. Refusal 30 zeroes them, as it does all results, and any other
-- writes nothing
abbrev pub decoded_counts : DecodeAnswer → List ℕ → List ℕ
decoded_counts (Ok (Decoded.Converged n t m w)) old = 1 ∷ (n ∷ (t ∷ (m ∷ [])))
decoded_counts (Ok (Decoded.NotConverged n t m)) old = 0 ∷ (n ∷ (t ∷ (m ∷ [])))
decoded_counts (Err r) old = cond (eqb (number_of r) 30) (0 ∷ (0 ∷ (0 ∷ (0 ∷ [])))) old

-- and the weight, positive zero where there is none
abbrev pub decoded_weight : DecodeAnswer → List Float → List Float
decoded_weight (Ok (Decoded.Converged n t m w)) old = w ∷ []
decoded_weight (Ok (Decoded.NotConverged n t m)) old = zero⁺ ∷ []
decoded_weight (Err r) old = cond (eqb (number_of r) 30) (zero⁺ ∷ []) old
