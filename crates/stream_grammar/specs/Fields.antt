-- The values that payloads hold: a model's lists as the graph takes them, and Relay's settings. Definitions only. Assumes nothing.
use Rattle.std.specs.Prelude.{ℕ, suc, ◌%◌, ◌^◌, Bool, cond, ◌&&◌, List, length, ◌==◌, from_bits, nat_le, Float}
use Rattle.std.specs.Float.{binary64}
use Rattle.numbers.specs.Limits.{room_mechanisms, room_edges}
use Rattle.numbers.specs.Loops.{table}
use Rattle.relay_settings.specs.declared.Settings.{Settings}
use Rattle.relay_settings.specs.declared.Schedule.{Schedule}
use Rattle.relay_settings.specs.declared.Schedule.TheVariants.{Flooding, CheckSerial}
use Rattle.relay_settings.specs.declared.Clip.TheVariants.{Off}
use Rattle.relay_settings.specs.declared.DrawRule.{DrawRule}
use Rattle.relay_settings.specs.declared.DrawRule.TheVariants.{ByShot, SeedXorLeg}
use Rattle.relay_settings.specs.declared.GammaSource.TheVariants.{Seeded}
use Rattle.stream_grammar.specs.declared.Counts.{Counts}
use Rattle.stream_grammar.specs.Stream.{checks, mechanisms, edges, prior_bits, degrees, detector, schedule_byte, alpha_bits, gamma0_bits, pre_iterations, legs, leg_iterations, low_bits, high_bits, stop}

-- ---- a model's counts

unfoldable pub counts_read : List ℕ → Counts
counts_read p = record { checks = checks p; mechanisms = mechanisms p; edges = edges p }

-- ---- a model's lists

-- the mechanism m's prior. Every NaN pattern is the one NaN, which 4 refuses
unfoldable pub prior : List ℕ → ℕ → Float
prior p m = from_bits binary64 (prior_bits p m)

-- where the mechanism m's detectors begin: behind those of the mechanisms before it. It fits 32 bits wherever the degrees sum to the edges
unfoldable pub offset : List ℕ → ℕ → ℕ
offset p m = degrees m p % 2 ^ 32

-- the lists that `build_sparse` takes
pub record ModelLists : Type 0 where
  pub priors : List Float
  pub detector_offsets : List ℕ
  pub detectors : List ℕ

abbrev pub model_lists : List Float → List ℕ → List ℕ → ModelLists
model_lists a b c = record { priors = a; detector_offsets = b; detectors = c }

-- they are no longer than the room
unfoldable pub within_room : ModelLists → Bool
within_room l = nat_le (length l.priors) room_mechanisms && (nat_le (length l.detector_offsets) (suc room_mechanisms) && nat_le (length l.detectors) room_edges)

-- as a payload fills them, each as long as it is; lists beyond the room are left as they were
unfoldable pub model_read : List ℕ → ModelLists → ModelLists
model_read p l =
    let n = length l.priors in
    cond (within_room l) (model_lists (table n (prior p)) (table (length l.detector_offsets) (offset p)) (table (length l.detectors) (detector n p))) l

-- ---- settings

-- 0 is Flooding, 1 CheckSerial; another byte was refused with 45
unfoldable pub schedule_read : ℕ → Schedule
schedule_read b = cond (b == 0) Flooding CheckSerial

-- the draw that settings of a kind mean: of kind 2, which was filed before there was another, the seed xor the leg, and of kind 4 by shot
unfoldable pub rule_read : ℕ → DrawRule
rule_read kind = cond (kind == 2) SeedXorLeg ByShot

-- Relay's settings, of either kind, with the clip off and a seeded source, of which the payload says nothing
unfoldable pub settings_read : ℕ → List ℕ → Settings
settings_read kind p =
    record {
      schedule = schedule_read (schedule_byte p);
      alpha = from_bits binary64 (alpha_bits p);
      clip = Off;
      gamma0 = from_bits binary64 (gamma0_bits p);
      pre_iterations = pre_iterations p;
      num_legs = legs p;
      leg_iterations = leg_iterations p;
      gamma_low = from_bits binary64 (low_bits p);
      gamma_high = from_bits binary64 (high_bits p);
      stop_after_converged = stop p;
      gamma_source = Seeded (rule_read kind);
    }
