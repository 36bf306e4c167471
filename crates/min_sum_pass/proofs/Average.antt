-- One turn of the loops over all variables, as the code has it: their messages, and the running posterior, whose elements passed are new and whose others
-- are old. Assumes nothing.
use mathlib.Core.Path.{◌≡◌, sym, ap, ◌∙◌}
use mathlib.Core.List.{List}
use Prim.Native.Nat.{ℕ, ◌+◌, ◌<◌, ◌≤◌}
use native.Mathlib.Omega.{arith}
use lib.Ieee.{Float, nan}
use lib.ListN.{length, get_or, take, drop, set}
use lib.Seq.{take_all, drop-set-lt, drop-drop, get_or-drop}
use Rattle.numbers.proofs.Turns.{turns_turn, table_turn}
use Rattle.graph_lists.specs.Graph.{Graph}
use Rattle.min_sum_pass.specs.MinSum.{Messages, raw_posterior, update_variable, variables_to, running_average, averaged_to, averaged}

-- one variable further
pub variables_further : (g : Graph) (priors : List Float) (s t u : Messages) (v : ℕ) → t ≡ variables_to g priors s v → u ≡ update_variable g priors t v
    → u ≡ variables_to g priors s (v + 1)
unfolding variables_to
variables_further g priors s t u v p q = turns_turn _ s t u v p q

-- two lists that are the same from v on are so at v
same_at : (old new : List Float) (v : ℕ) → drop v new ≡ drop v old → get_or new v nan ≡ get_or old v nan
same_at old new v d =
    let e : v ≡ v + 0 = omega arith in
    ap (λ n. get_or new n nan) e ∙ sym (get_or-drop v new 0 nan) ∙ ap (λ l. get_or l 0 nan) d ∙ get_or-drop v old 0 nan ∙ sym (ap (λ n. get_or old n nan) e)

-- and after v, whatever is written there
pub same_after : (old new : List Float) (v : ℕ) (x : Float) → drop v new ≡ drop v old → drop (v + 1) (set new v x) ≡ drop (v + 1) old
same_after old new v x d = drop-set-lt (v + 1) new v x (omega arith) ∙ sym (drop-drop 1 v new) ∙ ap (drop 1) d ∙ drop-drop 1 v old

-- the running posterior, one element further
pub average_turn : (g : Graph) (priors : List Float) (weight : Float) (s : Messages) (old new : List Float) (v : ℕ) (sum x : Float) → v < length new
    → take v new ≡ averaged_to g priors weight s old v → drop v new ≡ drop v old → sum ≡ raw_posterior g priors s v → x ≡ running_average weight (get_or new v nan) sum
    → take (v + 1) (set new v x) ≡ averaged_to g priors weight s old (v + 1)
unfolding averaged_to
average_turn g priors weight s old new v sum x h p d q r = table_turn _ new v x h p (r ∙ rw (same_at old new v d, q))

-- and once all are new
pub average_done : (g : Graph) (priors : List Float) (weight : Float) (s : Messages) (old new : List Float) (v : ℕ) → length new ≤ v → v ≡ g.mechanisms
    → take v new ≡ averaged_to g priors weight s old v → new ≡ averaged g priors weight s old
unfolding averaged
average_done g priors weight s old new v l e p = sym (take_all v new l) ∙ p ∙ ap (averaged_to g priors weight s old) e
