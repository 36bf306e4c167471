-- The parity of a check, said with the graph's incidences: what the test of a hard decision asks is that each has the syndrome's. Assumes nothing.
use Prim.Native.Nat.{ℕ, zero, suc, ◌+◌, ◌%◌, ◌<◌, ◌≤◌}
use native.Mathlib.Omega.{arith}
use mathlib.Core.Path.{◌≡◌, refl, sym, ap, ◌∙◌}
use mathlib.Core.Bool.{Bool, true, false, cond}
use mathlib.Core.List.{List, [], ◌∷◌, foldl, foldl-append}
use lib.Bits.{bit_xor, xor_zero_r}
use lib.ListN.{length, get_or}
use borrow.Author.Tests.{eqb-true, eqb-false}
use Rattle.numbers.specs.Loops.{turns, every}
use Rattle.numbers.proofs.Loops.{every_at, every_false}
use Rattle.graph_lists.specs.Lists.{passing}
use Rattle.graph_lists.specs.Graph.{Graph, check_entries, mechanisms_of, own_incidence}
use Rattle.graph_lists.specs.Model.{is_graph}
use Rattle.graph_lists.proofs.Passes.{check_row}
use Rattle.graph_lists.proofs.QuickTests.{all_long, all_pass}
use Rattle.graph_lists.proofs.Sameness.{is_graph_told}
use Rattle.relay_step.specs.Leg.{parity, matches}
use Rattle.relay_laws.specs.BestOfLegs.{parity_at, Satisfies, Fails}

-- ---- over the numbers that pass

-- one bit more of a parity
xor_bit : (n b : ℕ) → b ≤ 1 → bit_xor (n % 2) b ≡ (n + b) % 2
xor_bit n zero h = xor_zero_r (n % 2) ∙ omega arith
xor_bit n (suc zero) h = go (n % 2) refl (omega arith)
  where
    go : (p : ℕ) → n % 2 ≡ p → p < 2 → bit_xor p 1 ≡ (n + 1) % 2
    go zero e l = omega (arith, e)
    go (suc zero) e l = omega (arith, e)
    go (suc (suc p)) e l = absurd (omega arith)
xor_bit n (suc (suc b)) h = absurd (omega arith)

module _ (bits : List ℕ) (each : (m : ℕ) → get_or bits m 0 ≤ 1) (p : ℕ → Bool) where
  -- the sum of the bits that pass
  abbrev summed : ℕ → ℕ
  summed n = turns n (λ m k. k + cond (p m) (get_or bits m 0) 0) 0

  -- one number more, by whether it passes
  one_more : (n : ℕ) (b : Bool) → foldl (λ (q v : ℕ). bit_xor q (get_or bits v 0)) (summed n % 2) (cond b (n ∷ []) []) ≡ (summed n + cond b (get_or bits n 0) 0) % 2
  one_more n true = xor_bit (summed n) (get_or bits n 0) (each n)
  one_more n false = omega arith

  -- the parity over them is that of the sum
  parity_passing : (n : ℕ) → parity bits (passing n p) ≡ summed n % 2
  unfolding parity passing
  parity_passing zero = refl
  parity_passing (suc n) =
      foldl-append (λ (q v : ℕ). bit_xor q (get_or bits v 0)) 0 (passing n p) (cond (p n) (n ∷ []) [])
      ∙ ap (λ (q : ℕ). foldl (λ (q v : ℕ). bit_xor q (get_or bits v 0)) q (cond (p n) (n ∷ []) [])) (parity_passing n)
      ∙ one_more n (p n)

-- ---- of a check

module _ (g : Graph) (is : is_graph g ≡ true) (bits : List ℕ) (each : (m : ℕ) → get_or bits m 0 ≤ 1) where
  -- a check's entries are the mechanisms that share an edge with it
  entries_are : (c : ℕ) → c < g.checks → check_entries g c ≡ mechanisms_of g.mechanisms (own_incidence g) c
  entries_are c h =
      let e = is_graph_told g is in
      check_row (length g.check_var) g (all_long g.checks g.mechanisms (length g.check_var) g (own_incidence g) refl e)
      (all_pass g.checks g.mechanisms (length g.check_var) g (own_incidence g) refl e) c h

  -- so its parity over the entries is that over the incidences
  parity_is : (c : ℕ) → c < g.checks → parity bits (check_entries g c) ≡ parity_at g bits c
  unfolding mechanisms_of parity_at
  parity_is c h = ap (parity bits) (entries_are c h) ∙ parity_passing bits each (own_incidence g c) g.mechanisms

  -- all match
  pub all_match : (syndrome : List ℕ) → every g.checks (matches g bits syndrome) ≡ true → Satisfies g syndrome bits
  unfolding matches
  all_match syndrome e c h = sym (parity_is c h) ∙ eqb-true _ _ (every_at g.checks (matches g bits syndrome) e c h)

  -- not all do
  pub not_all : (syndrome : List ℕ) → every g.checks (matches g bits syndrome) ≡ false → Fails g syndrome bits
  unfolding matches
  not_all syndrome e =
      let f = every_false g.checks (matches g bits syndrome) e in
      record { check = f.0; within = f.1; other = λ q. eqb-false _ _ f.2 (parity_is f.0 f.1 ∙ q) }
