-- What a reader may rely on: a refusal's code says its number and its place. Assumes nothing.
use Prim.Native.Nat.{ℕ, ◌<◌, ◌+◌, ◌*◌, ◌/◌, ◌%◌}
use mathlib.Core.Path.{◌≡◌, ◌∙◌, ap}
use native.Mathlib.Omega.{arith}
use Rattle.refusals.specs.declared.Refusal.{Refusal}
use Rattle.std.specs.Prelude.{Err}
use Rattle.std.specs.Prelude.{Option, None, Some}
use Rattle.refusals.specs.Refusal.{number_of, place_of}
use Rattle.exports_values.specs.Codes.{place_code, code_of, number_in, place_in}
use Rattle.exports_values.proofs.Laws.{number_small}

-- a small number is what is left of its sum with a place's code
below : (n : ℕ) (p : Option ℕ) → n < 65536 → (n + place_code p) % 65536 ≡ n
below n None h = omega (arith, h)
below n (Some place) h = omega (arith, h)

-- the code says the number
pub number_in_lem : (r : Refusal) → number_in (code_of (Err r)) ≡ number_of r
number_in_lem r = below (number_of r) (place_of r) (number_small r)

-- and the place, where there is one below 2^32
pub place_in_lem : (r : Refusal) (place : ℕ) → place_of r ≡ Some place → place < 4294967296 → place_in (code_of (Err r)) ≡ place
place_in_lem r place e h =
    ap (λ p. (number_of r + place_code p) / 65536) e ∙ above (number_of r) (number_small r)
  where
    above : (n : ℕ) → n < 65536 → (n + 65536 * (place % 4294967296)) / 65536 ≡ place
    above n s = omega (arith, h, s)
