-- What a check sends, as the code sends it: the least at all positions, and then the next at the position of the least. Assumes nothing.
use mathlib.Core.Path.{◌≡◌, refl, sym, ◌∙◌}
use mathlib.Core.Bool.{Bool}
use mathlib.Core.List.{List}
use Prim.Native.Nat.{ℕ, ◌<◌, ◌≤◌}
use native.Mathlib.Omega.{arith}
use lib.Dec.{eqb}
use lib.Ieee.{Float, nan}
use lib.ListN.{length, get_or, set}
use borrow.Author.Tests.{eq-eqb, ne_eqb}
use Rattle.numbers.specs.Floats.{◌*ᶠ◌}
use Rattle.numbers.proofs.Cases.{either_way}
use Rattle.numbers.proofs.Loops.{tables_agree, but_one}
use Rattle.graph_lists.specs.Messages.{scan_of, scan}
use Rattle.min_sum_pass.specs.MinSum.{sign_without, sent_at, sent_to, check_messages}

-- one minimum for both, in one message
pub one_minimum : (scale sign minimum message : Float) (i : ℕ) → sign_without sign message *ᶠ minimum *ᶠ scale ≡ sent_at scale (scan_of sign minimum minimum 0) i message
unfolding sent_at
one_minimum scale sign minimum message i = rw (either_way (eqb i 0) minimum)

module _ (scale sign min1 min2 : Float) (least : ℕ) (messages : List Float) (n : ℕ) where
  -- elsewhere the least is sent
  elsewhere : (i : ℕ) → (i ≡ least → ⊥)
      → sent_at scale (scan_of sign min1 min1 0) i (get_or messages i nan) ≡ sent_at scale (scan_of sign min1 min2 least) i (get_or messages i nan)
  unfolding sent_at
  elsewhere i h = rw (either_way (eqb i 0) min1, ne_eqb i least h)

  -- at the least's position the next
  there : sign_without sign (get_or messages least nan) *ᶠ min2 *ᶠ scale ≡ sent_at scale (scan_of sign min1 min2 least) least (get_or messages least nan)
  unfolding sent_at
  there = rw (eq-eqb least least refl)

  -- all, where the least is one of them
  least_put : (x : Float) → least < n → x ≡ sign_without sign (get_or messages least nan) *ᶠ min2 *ᶠ scale
      → set (sent_to scale (scan_of sign min1 min1 0) messages n) least x ≡ sent_to scale (scan_of sign min1 min2 least) messages n
  unfolding sent_to
  least_put x h e =
      rw (e ∙ there) (but_one n (λ i. sent_at scale (scan_of sign min1 min2 least) i
      (get_or messages i nan)) (λ i. sent_at scale (scan_of sign min1 min1 0) i (get_or messages i nan)) least nan h (λ i k q. elsewhere i q))

  -- and where it is nobody's
  least_nowhere : n ≤ least → sent_to scale (scan_of sign min1 min1 0) messages n ≡ sent_to scale (scan_of sign min1 min2 least) messages n
  unfolding sent_to
  least_nowhere h = tables_agree n _ _ (λ i k. elsewhere i (λ q. absurd (omega arith)))

-- all that a check sends, in each case
module _ (scale : Float) (odd : Bool) (messages out : List Float) (sign min1 min2 : Float) (least : ℕ)
    (s : scan_of sign min1 min2 least ≡ scan odd messages (length messages))
    (o : out ≡ sent_to scale (scan_of sign min1 min1 0) messages (length messages)) where
  -- the least is one of them: the next is put there
  pub sends_next : (x : Float) → least < length messages → x ≡ sign_without sign (get_or messages least nan) *ᶠ min2 *ᶠ scale
      → set out least x ≡ check_messages scale odd messages
  unfolding check_messages
  sends_next x h e = rw (o, sym s) (least_put scale sign min1 min2 least messages (length messages) x h e)

  -- it is nobody's: nothing is put
  pub sends_least : length messages ≤ least → out ≡ check_messages scale odd messages
  unfolding check_messages
  sends_least h = rw (o, sym s) (least_nowhere scale sign min1 min2 least messages (length messages) h)
