-- The gammas of a leg, as the code has them: a set within the flat list, a draw further, and which leg takes which. Assumes nothing.
use mathlib.Core.Path.{◌≡◌, refl, sym, ap, ◌∙◌}
use mathlib.Core.List.{List, [], ◌∷◌, ◌++◌}
use mathlib.Core.Logic.{⊎_elim}
use Prim.Native.Nat.{ℕ, zero, suc, ◌+◌, ◌*◌, ◌%◌, ◌^◌, ◌<◌, ◌≤◌}
use native.Mathlib.Nat.{mod-lt, mod-eq_of_lt, mod-add-mod, mul-le-mul_right, suc-mul}
use native.Mathlib.Numerals.{add-one}
use native.Mathlib.Omega.{arith}
use lib.Bits.{bit_xor, xor_lt}
use lib.Ieee.{Float, nan}
use lib.ListN.{length, get_or, take, set, replicate, length-append, get_or-append}
use lib.Seq.{take-suc-set, get_or-append_seam}
use Rattle.numbers.proofs.Cases.{last_or_before}
use Rattle.numbers.specs.Loops.{part}
use Rattle.numbers.specs.Draw.{advanced, mixed, gamma}
use Rattle.relay_settings.specs.declared.Settings.{Settings}
use Rattle.relay_settings.specs.declared.DrawRule.{DrawRule}
use Rattle.relay_settings.specs.declared.DrawRule.TheVariants.{SeedXorLeg}
use Rattle.relay_settings.specs.declared.GammaSource.TheVariants.{Seeded}
use Rattle.relay_gammas.specs.Gammas.{stream_number, leg_seed, start_of, Draws, drawn_on, drawn, relay_gamma, gamma_of}

-- a set lies within the flat list
pub set_within : (k r sets m n : ℕ) → k ≡ r % sets → 0 < sets → n ≡ sets * m → k * m + m ≤ n
set_within k r sets m n q h e = rw q (omega (arith, e, mul-le-mul_right m (mod-lt r h), suc-mul (r % sets) m))

-- and is the definition's
pub set_is : (k r sets m : ℕ) (flat out : List Float) → k ≡ r % sets → out ≡ part (k * m) (k * m + m) flat → out ≡ part (r % sets * m) (r % sets * m + m) flat
set_is k r sets m flat out q p = rw q at p

module _ (low high : Float) (start v s : ℕ) (at : s ≡ (drawn low high start v).state) where
  -- the generator, one draw further
  pub draw_state : (z : ℕ) → z ≡ advanced s → z ≡ (drawn low high start (v + 1)).state
  unfolding drawn drawn_on
  draw_state z e = rw (e, at, add-one)

  -- the gammas, one further
  pub draw_turn : (out : List Float) (m : ℕ) (x : Float) → v < length out → take v out ≡ (drawn low high start v).gammas → m ≡ mixed (advanced s)
      → x ≡ gamma low high m → take (v + 1) (set out v x) ≡ (drawn low high start (v + 1)).gammas
  unfolding drawn drawn_on
  draw_turn out m x h p q e = rw (add-one, take-suc-set, h, p, e, q, at)

-- ---- the gammas drawn

module _ (low high : Float) (start : ℕ) where
  -- as many as there are draws
  drawn_many : (n : ℕ) → length (drawn low high start n).gammas ≡ n
  unfolding drawn drawn_on
  drawn_many zero = refl
  drawn_many (suc n) = rw length-append (omega (arith, drawn_many n))

  -- and each by its own draw
  pub drawn_at : (n v : ℕ) → v < n → get_or (drawn low high start n).gammas v nan ≡ gamma low high (mixed (drawn low high start (suc v)).state)
  unfolding drawn drawn_on
  drawn_at zero v h = absurd (omega arith)
  drawn_at (suc n) v h =
      let before = drawn low high start n in
      let new = gamma low high (mixed (advanced before.state)) in
      let many = drawn_many n in
      ⊎_elim
      (λ (e : v ≡ n). rw e (ap (λ i. get_or (before.gammas ++ (new ∷ [])) i nan) (sym many) ∙ get_or-append_seam before.gammas new [] nan))
      (λ (l : v < n). get_or-append before.gammas (new ∷ []) nan v (omega arith) ∙ drawn_at n v l)
      (last_or_before v n h)

-- ---- where a leg's generator starts

-- a stream number as the code reckons it: the lower 48 bits of the shot, shifted, and the leg
pub stream_is : (shot leg : ℕ) → leg ≤ 65535 → shot % 281474976710656 * 65536 + leg ≡ stream_number shot leg % 2 ^ 64
unfolding stream_number
stream_is shot leg h = omega arith

-- the other rule's start has 64 bits
pub xor_is : (seed leg : ℕ) → seed < 2 ^ 64 → leg + 1 < 2 ^ 64 → bit_xor seed (leg + 1) ≡ start_of SeedXorLeg seed leg % 2 ^ 64
unfolding start_of leg_seed
xor_is seed leg h k =
    let small : suc leg < 2 ^ 64 = rw add-one at k in
    rw add-one (sym (mod-eq_of_lt (xor_lt 64 seed (suc leg) h small)))

-- a start counts modulo 2 ^ 64
drawn_modulo : (low high : Float) (start n : ℕ) → (drawn low high (start % 2 ^ 64) n).gammas ≡ (drawn low high start n).gammas
unfolding drawn drawn_on
drawn_modulo low high start zero = refl
drawn_modulo low high start (suc n) = ap (λ (d : Draws). d.gammas) (from n)
  where
    from : (n : ℕ) → drawn low high (start % 2 ^ 64) (suc n) ≡ drawn low high start (suc n)
    from zero = ap (λ (z : ℕ). record { state = z; gammas = [] ++ (gamma low high (mixed z) ∷ []) }) (mod-add-mod start (2 ^ 64) 0x9E3779B97F4A7C15)
    from (suc n) = ap (drawn_on low high) (from n)

-- ---- which leg takes which

-- a leg that is not leg zero
pub relayed : (leg : ℕ) → (leg ≡ 0 → ⊥) → 0 < leg
relayed zero h = absurd (h refl)
relayed (suc r) h = omega arith

-- a seeded draw, from the start as the code reckons it
pub seeded_is : (rule : DrawRule) (low high : Float) (flat out : List Float) (n seed leg start : ℕ) → start ≡ start_of rule seed leg % 2 ^ 64
    → out ≡ (drawn low high start n).gammas → out ≡ relay_gamma (Seeded rule) low high flat n seed leg
unfolding relay_gamma
seeded_is rule low high flat out n seed leg start e p =
    p ∙ ap (λ s. (drawn low high s n).gammas) e ∙ drawn_modulo low high (start_of rule seed leg) n

module _ (t : Settings) (flat out : List Float) (n seed : ℕ) where
  -- leg zero
  pub zero_is : (leg : ℕ) → leg ≡ 0 → out ≡ replicate n t.gamma0 → out ≡ gamma_of t flat n seed leg
  unfolding gamma_of
  zero_is leg e p = rw e p

  -- a relayed leg
  pub relayed_is : (leg : ℕ) → (leg ≡ 0 → ⊥) → out ≡ relay_gamma t.gamma_source t.gamma_low t.gamma_high flat n seed leg
      → out ≡ gamma_of t flat n seed leg
  unfolding gamma_of
  relayed_is zero h p = absurd (h refl)
  relayed_is (suc r) h p = p
