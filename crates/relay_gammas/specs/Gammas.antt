-- The gammas of a leg: `prepare_relay_gamma` of relay.rs, with the reference's seeded draw for the Rust's generator; and 27, the seeds that a draw takes.
-- Definitions only. Assumes nothing.
use Rattle.std.specs.Prelude.{ℕ, zero, suc, ◌+◌, ◌-◌, ◌*◌, ◌%◌, ◌^◌, Bool, true, List, [], ◌∷◌, ◌++◌, ltb, Float, replicate}
use Rattle.std.specs.Int.Bits.{bit_xor}
use Rattle.numbers.specs.Draw.{advanced, mixed, gamma}
use Rattle.numbers.specs.Loops.{turns, part}
use Rattle.refusals.specs.declared.Refusal.TheVariants.{ShotTooLarge}
use Rattle.refusals.specs.Refusal.{Answer}
use Rattle.refusals.specs.Tests.{unless}
use Rattle.relay_settings.specs.declared.Settings.{Settings}
use Rattle.relay_settings.specs.declared.DrawRule.{DrawRule}
use Rattle.relay_settings.specs.declared.DrawRule.TheVariants.{ByShot, SeedXorLeg}
use Rattle.relay_settings.specs.declared.GammaSource.{GammaSource}
use Rattle.relay_settings.specs.declared.GammaSource.TheVariants.{Explicit, Seeded}

-- ---- where a leg's generator starts

-- the stream number of a shot and a leg
unfoldable pub stream_number : ℕ → ℕ → ℕ
stream_number shot r = shot * 65536 + r

-- `leg_seed`: the shot's seed xor (r + 1)
unfoldable pub leg_seed : ℕ → ℕ → ℕ
leg_seed seed r = bit_xor seed (suc r)

-- the start of the leg r, by either rule
unfoldable pub start_of : DrawRule → ℕ → ℕ → ℕ
start_of ByShot seed r = stream_number seed r
start_of SeedXorLeg seed r = leg_seed seed r

-- whether a source takes a seed: where gammas are drawn by shot it is a shot number, below 2 ^ 48
unfoldable pub seed_good : GammaSource → ℕ → Bool
seed_good (Explicit sets) seed = true
seed_good (Seeded ByShot) seed = ltb seed (2 ^ 48)
seed_good (Seeded SeedXorLeg) seed = true

-- 27: a seed that its source does not take
unfoldable pub seed_fault : GammaSource → ℕ → Answer
seed_fault source seed = unless (seed_good source seed) ShotTooLarge

-- ---- the draws

-- the generator's state, and the gammas drawn so far
pub record Draws : Type 0 where
  pub state : ℕ
  pub gammas : List Float

-- one more: the state advances, and the draw from it gives the gamma
unfoldable pub drawn_on : Float → Float → Draws → Draws
drawn_on low high d = let z = advanced d.state in record { state = z; gammas = d.gammas ++ (gamma low high (mixed z) ∷ []) }

-- n gammas from a start, a draw each in mechanism order
unfoldable pub drawn : Float → Float → ℕ → ℕ → Draws
drawn low high start n = turns n (λ v d. drawn_on low high d) (record { state = start; gammas = [] })

-- ---- the gammas of a leg

-- the gammas of the relayed leg r, from 1 on: set (r - 1) mod sets of the flat list, or a seeded draw
unfoldable pub relay_gamma : GammaSource → Float → Float → List Float → ℕ → ℕ → ℕ → List Float
relay_gamma (Explicit sets) low high flat mechanisms seed r = let k = (r - 1) % sets in part (k * mechanisms) (k * mechanisms + mechanisms) flat
relay_gamma (Seeded rule) low high flat mechanisms seed r = (drawn low high (start_of rule seed r) mechanisms).gammas

-- the gammas of any leg: leg zero has gamma0 throughout
unfoldable pub gamma_of : Settings → List Float → ℕ → ℕ → ℕ → List Float
gamma_of t flat mechanisms seed zero = replicate mechanisms t.gamma0
gamma_of t flat mechanisms seed (suc r) = relay_gamma t.gamma_source t.gamma_low t.gamma_high flat mechanisms seed (suc r)
