-- What a reader may rely on of the seeded draws: by shot, an output says which shot and which leg it is of; from the seed xor the leg it does not; and which seeds
-- 27 refuses. Each has the sentence above it that it makes good. Assumes nothing.
--
-- Nothing is said of outputs at different places: SplitMix64 has one cycle, and each leg's outputs are a part of it. Nor of gammas, which are made of 53 of the 64 bits.
use mathlib.Core.Path.{◌≡◌, refl, sym, ap, ◌∙◌}
use mathlib.Core.Bool.{true≢false}
use mathlib.Core.List.{List}
use mathlib.Core.Logic.{◌↔◌}
use Prim.Native.Nat.{ℕ, suc, ◌^◌, ◌<◌, ◌≤◌}
use native.Mathlib.Nat.{le_trans}
use lib.Ieee.{Float, nan}
use lib.ListN.{get_or}
use borrow.Author.Tests.{ltb-true, ltb-false, le-ltb}
use Rattle.numbers.specs.Draw.{advanced, mixed, gamma}
use Rattle.refusals.specs.declared.Refusal.TheVariants.{ShotTooLarge}
use Rattle.std.specs.Prelude.{Ok, Err}
use Rattle.refusals.specs.Tests.{unless}
use Rattle.refusals.proofs.Tests.{or_done, unless_done, unless_refused_lem}
use Rattle.relay_settings.specs.declared.DrawRule.{DrawRule}
use Rattle.relay_settings.specs.declared.DrawRule.TheVariants.{ByShot, SeedXorLeg}
use Rattle.relay_settings.specs.declared.GammaSource.{GammaSource}
use Rattle.relay_settings.specs.declared.GammaSource.TheVariants.{Explicit, Seeded}
use Rattle.relay_settings.specs.declared.Settings.{Settings}
use Rattle.relay_settings.proofs.Told.{settings_told}
use Rattle.relay_gammas.specs.Gammas.{stream_number, leg_seed, start_of, seed_good, seed_fault, drawn, relay_gamma, gamma_of}
use Rattle.relay_gammas.proofs.Draws.{drawn_at}
use Rattle.relay_calls.specs.Decode.{Shot}
use Rattle.relay_calls.specs.Calls.{DecodeLists, decode_fault}
use Rattle.relay_draws.specs.Outputs.{state_of, output_of}
use Rattle.relay_draws.proofs.Streams.{stream_below, stream_injective, first_injective, output_injective}

-- ---- stream numbers

-- "the number stays below 2^64"
pub stream_number_below : (shot r : ℕ) → shot < 2 ^ 48 → r ≤ 65535 → stream_number shot r < 2 ^ 64
stream_number_below = stream_below

-- "Different pairs of shot and leg have different stream numbers": those that have the same are the same
pub stream_number_tells : (shot r shot' r' : ℕ) → r ≤ 65535 → r' ≤ 65535 → stream_number shot r ≡ stream_number shot' r' → (shot ≡ shot') × (r ≡ r')
stream_number_tells = stream_injective

-- ---- the generator

-- "Different stream numbers give different first 64-bit outputs": and so do any different starts of 64 bits
pub first_output_tells : (s t : ℕ) → s < 2 ^ 64 → t < 2 ^ 64 → mixed (advanced s) ≡ mixed (advanced t) → s ≡ t
first_output_tells = first_injective

-- ---- the gammas of a leg

-- each gamma of a relayed leg comes of one output
pub gammas_of_outputs : (t : Settings) (rule : DrawRule) (flat : List Float) (mechanisms seed r v : ℕ) → t.gamma_source ≡ Seeded rule → v < mechanisms
    → get_or (gamma_of t flat mechanisms seed (suc r)) v nan ≡ gamma t.gamma_low t.gamma_high (output_of t rule seed (suc r) v)
unfolding gamma_of relay_gamma output_of state_of
gammas_of_outputs t rule flat mechanisms seed r v e h = rw e (drawn_at t.gamma_low t.gamma_high (start_of rule seed (suc r)) mechanisms v h)

-- an output says which shot and which leg it is of, whatever the other settings are
pub outputs_tell : (t t' : Settings) (shot r shot' r' v : ℕ) → shot < 2 ^ 48 → r ≤ 65535 → shot' < 2 ^ 48 → r' ≤ 65535
    → output_of t ByShot shot r v ≡ output_of t' ByShot shot' r' v → (shot ≡ shot') × (r ≡ r')
unfolding output_of state_of start_of
outputs_tell t t' shot r shot' r' v h l h' l' e =
    stream_injective shot r shot' r' l l'
    (output_injective t.gamma_low t.gamma_high t'.gamma_low t'.gamma_high v (stream_number shot r) (stream_number shot' r')
    (stream_below shot r h l) (stream_below shot' r' h' l') e)

-- ---- decodes

module _ (edges : ℕ) (x : Shot) (l : DecodeLists) (passed : decode_fault edges x l ≡ Ok tt) where
  -- 13: no more legs than a stream number can tell apart
  legs_few : x.settings.num_legs ≤ 65535
  unfolding decode_fault
  legs_few = (settings_told x.settings x.graph.mechanisms x.gammas (or_done _ _ (or_done _ _ passed).1).0).legs_few

  -- 27: the seed is a shot number
  shot_small : x.settings.gamma_source ≡ Seeded ByShot → x.seed < 2 ^ 48
  unfolding decode_fault seed_fault seed_good
  shot_small e =
      let told = (or_done _ _ (or_done _ _ (or_done _ _ (or_done _ _ passed).1).1).1).0 in
      ltb-true x.seed (2 ^ 48) (unless_done _ ShotTooLarge (rw e at told))

-- "two legs of two shots whose first draws agree are the same leg of the same shot": of any two decodes whose tests refuse nothing, with a draw by shot. So for the
-- first output, which is that at 0, and for each other
pub draws_tell : (edges edges' : ℕ) (x x' : Shot) (l l' : DecodeLists) → decode_fault edges x l ≡ Ok tt → decode_fault edges' x' l' ≡ Ok tt
    → x.settings.gamma_source ≡ Seeded ByShot → x'.settings.gamma_source ≡ Seeded ByShot
    → (r r' v : ℕ) → r ≤ x.settings.num_legs → r' ≤ x'.settings.num_legs
    → output_of x.settings ByShot x.seed r v ≡ output_of x'.settings ByShot x'.seed r' v → (x.seed ≡ x'.seed) × (r ≡ r')
draws_tell edges edges' x x' l l' p p' s s' r r' v h h' e =
    outputs_tell x.settings x'.settings x.seed r x'.seed r' v
    (shot_small edges x l p s) (le_trans h (legs_few edges x l p))
    (shot_small edges' x' l' p' s') (le_trans h' (legs_few edges' x' l' p'))
    e

-- ---- the rule before

-- "Seed 40 in leg 1 and seed 41 in leg 2 both start the generator at 42"
pub starts_collide : (start_of SeedXorLeg 40 1 ≡ 42) × (start_of SeedXorLeg 41 2 ≡ 42)
unfolding start_of leg_seed
starts_collide = (refl, refl)

-- "so their legs share gammas"
pub gammas_collide : (t : Settings) (flat : List Float) (mechanisms : ℕ) → t.gamma_source ≡ Seeded SeedXorLeg → gamma_of t flat mechanisms 40 1 ≡ gamma_of t flat mechanisms 41 2
unfolding gamma_of relay_gamma
gammas_collide t flat mechanisms e =
    rw e (ap (λ s. (drawn t.gamma_low t.gamma_high s mechanisms).gammas) (starts_collide.0 ∙ sym starts_collide.1))

-- ---- a start that is published

-- the outputs of SplitMix64 from 1234567 are published, and `numbers_vectors` has them: it is where the leg 54,919 of the shot 18 starts
pub published_start : start_of ByShot 18 54919 ≡ 1234567
unfolding start_of stream_number
published_start = refl

-- ---- 27

-- "shot number of 2^48 or more under the new rule with a seeded source", and nothing else
pub seed_refused : (source : GammaSource) (seed : ℕ) → (seed_fault source seed ≡ Err ShotTooLarge) ↔ ((source ≡ Seeded ByShot) × (2 ^ 48 ≤ seed))
unfolding seed_fault seed_good unless
seed_refused source seed = (to source, λ w. rw (w.0, le-ltb seed (2 ^ 48) w.1))
  where
    to : (s : GammaSource) → seed_fault s seed ≡ Err ShotTooLarge → (s ≡ Seeded ByShot) × (2 ^ 48 ≤ seed)
    to (Explicit sets) e = absurd (true≢false (unless_refused_lem _ ShotTooLarge e))
    to (Seeded ByShot) e = (refl, ltb-false seed (2 ^ 48) (unless_refused_lem _ ShotTooLarge e))
    to (Seeded SeedXorLeg) e = absurd (true≢false (unless_refused_lem _ ShotTooLarge e))
