-- What a reader may rely on: the contract of `beliefs` leaves no choice. Assumes nothing.
use mathlib.Core.Path.{◌≡◌, sym, ap, ◌∙◌}
use mathlib.Core.Bool.{Bool}
use mathlib.Core.List.{List}
use Prim.Native.Nat.{ℕ}
use lib.Ieee.{Float}
use Rattle.refusals.specs.Refusal.{Answer}
use Rattle.graph_lists.specs.Graph.{Graph}
use Rattle.min_sum.specs.Beliefs.{BeliefsLists, BeliefsOutcome, beliefs_outcome, beliefs}

-- two results that the contract of `beliefs` allows for one input coincide: the answer, and each lent list
pub one_outcome : (edges : ℕ) (priors : List Float) (g : Graph) (syndrome : List ℕ) (iterations : ℕ) (scale : Float) (serial : Bool) (l : BeliefsLists) (a b : Answer)
    (p q : BeliefsLists) → beliefs_outcome a p ≡ beliefs edges priors g syndrome iterations scale serial l → beliefs_outcome b q ≡ beliefs edges priors g syndrome iterations scale serial l
    → (a ≡ b) × (p.posterior ≡ q.posterior) × (p.ewa_posterior ≡ q.ewa_posterior) × (p.c_to_v ≡ q.c_to_v) × (p.v_to_c ≡ q.v_to_c)
one_outcome edges priors g syndrome iterations scale serial l a b p q h k =
    let e = h ∙ sym k in (
      ap (λ (o : BeliefsOutcome). o.answer) e,
      ap (λ (o : BeliefsOutcome). o.left.posterior) e,
      ap
          (λ (o : BeliefsOutcome). o.left.ewa_posterior) e,
      ap (λ (o : BeliefsOutcome). o.left.c_to_v) e,
      ap (λ (o : BeliefsOutcome). o.left.v_to_c) e,
    )
