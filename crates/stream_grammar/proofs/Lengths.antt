-- What the code of the test of a model's length computes is what the definition says, over plain numbers. Assumes nothing.
use Rattle.std.proofs.Common.{◌≡◌, ℕ, ◌+◌, ◌-◌, ◌*◌, ◌/◌, ◌<◌, ◌≤◌, false, eqb, sym, arith, ne_eqb}
use Rattle.numbers.proofs.Cases.{same_test}
use Rattle.stream_grammar.specs.Stream.{counts_fit}

module _ (size mechanisms edges : ℕ) where
  pub counts_small : size < 12 → false ≡ counts_fit size mechanisms edges
  unfolding counts_fit
  counts_small h = sym (ne_eqb size _ (λ e. omega arith))

  pub counts_mechanisms : 12 ≤ size → (size - 12) / 12 < mechanisms → false ≡ counts_fit size mechanisms edges
  unfolding counts_fit
  counts_mechanisms h k = sym (ne_eqb size _ (λ e. omega arith))

  pub counts_edges : 12 ≤ size → mechanisms ≤ (size - 12) / 12 → (size - 12 - 12 * mechanisms) / 4 < edges → false ≡ counts_fit size mechanisms edges
  unfolding counts_fit
  counts_edges h k l = sym (ne_eqb size _ (λ e. omega arith))

  pub counts_last : 12 ≤ size → mechanisms ≤ (size - 12) / 12 → eqb (size - 12 - 12 * mechanisms) (4 * edges) ≡ counts_fit size mechanisms edges
  unfolding counts_fit
  counts_last h k =
      same_test (size - 12 - 12 * mechanisms) (4 * edges) size (12 + (12 * mechanisms + 4 * edges)) (λ e. omega arith) (λ e. omega arith)
