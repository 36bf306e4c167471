-- What a check sends, as the code finds it: a sign flips below zero, which is a product of signs; the least is known by its place, which is its variable's
-- only one; the least is sent at all places, and then the next at the place of the least. Assumes nothing.
use mathlib.Core.Path.{◌≡◌, refl, sym, ap, ◌∙◌}
use mathlib.Core.Bool.{Bool, true, false, cond}
use mathlib.Core.List.{List}
use mathlib.Core.Logic.{◌⊎◌, inl, inr, ⊎_elim}
use Prim.Native.Nat.{ℕ, zero, suc, ◌<◌, ◌≤◌}
use native.Mathlib.Nat.{lt-suc_self}
use native.Mathlib.Omega.{arith}
use lib.Dec.{eqb}
use lib.Ieee.{Float, nan, inf, fin, binary64, lt, neg, mul}
use lib.ListN.{length, get_or, set}
use borrow.Author.Tests.{eq-eqb, ne_eqb}
use Rattle.numbers.specs.Floats.{◌*ᶠ◌, zero⁺, one⁺, one⁻, abs, is_finite, message_sign}
use Rattle.numbers.proofs.Cases.{less_or_not}
use Rattle.numbers.proofs.Loops.{tables_agree, but_one}
use Rattle.graph_lists.specs.Messages.{Scan, scan_of, lowered, flipped_by}
use Rattle.graph_lists.specs.Messages as first
use Rattle.graph_messages.specs.Needs.{Rises}
use Rattle.relay_settings.specs.declared.Clip.{Clip}
use Rattle.relay_check.specs.Check.{no_variable, scanned, scan, saturated, weighed, clipped, sent, sent_to, check_messages}
use Rattle.relay_check.specs.Places.{saturated_magnitude, by_signs}
use Rattle.relay_check.proofs.Signs.{negative_left, negative_right}

-- a sign: 1 or -1
pub data Sign : Float → Type 0 where
  positive : Sign one⁺
  negative : Sign one⁻

-- by whether a message is below zero
sign_next : (sign : Float) (b : Bool) → Sign sign → (sign *ᶠ cond b one⁻ one⁺ ≡ cond b (neg sign) sign) × Sign (cond b (neg sign) sign)
unfolding mul neg
sign_next sign true positive = (refl, negative)
sign_next sign false positive = (refl, positive)
sign_next sign true negative = (refl, positive)
sign_next sign false negative = (refl, negative)

-- a product of signs is one that flips
pub flips : (sign x : Float) → Sign sign → (sign *ᶠ message_sign x ≡ flipped_by sign x) × Sign (flipped_by sign x)
unfolding message_sign flipped_by
flips sign x h = sign_next sign (lt x zero⁺) h

-- what is weighed with a sign of 1, and its negative with one of -1
module _ (alpha sign m : Float) (h : Sign sign) where
  weighed_plus : alpha *ᶠ sign *ᶠ m ≡ alpha *ᶠ (sign *ᶠ one⁺) *ᶠ m
  weighed_plus = ap (λ t. alpha *ᶠ t *ᶠ m) (sym (sign_next sign false h).0)

  weighed_minus : neg (alpha *ᶠ sign *ᶠ m) ≡ alpha *ᶠ (sign *ᶠ one⁻) *ᶠ m
  weighed_minus =
      sym (negative_left binary64 (alpha *ᶠ sign) m)
      ∙ ap (λ t. t *ᶠ m) (sym (negative_right binary64 alpha sign) ∙ ap (λ t. alpha *ᶠ t) (sym (sign_next sign true h).0))

  -- by a message's sign
  weighed_by : (x : Float) (b : Bool) → lt x zero⁺ ≡ b → cond b (neg (alpha *ᶠ sign *ᶠ m)) (alpha *ᶠ sign *ᶠ m) ≡ alpha *ᶠ (sign *ᶠ message_sign x) *ᶠ m
  unfolding message_sign
  weighed_by x true e = rw e weighed_minus
  weighed_by x false e = rw e weighed_plus

-- a minimum, which one comparison saturates
abbrev Minimum : Float → Type 0
Minimum x = saturated_magnitude x ≡ saturated x

magnitude_minimum : (x : Float) → Minimum (abs x)
unfolding saturated_magnitude saturated abs is_finite lt
magnitude_minimum nan = refl
magnitude_minimum (inf s) = refl
magnitude_minimum (fin s m e) = refl

no_minimum : Minimum (inf false)
unfolding abs
no_minimum = magnitude_minimum (inf false)

-- one of two
either_minimum : (b : Bool) (x y : Float) → Minimum x → Minimum y → Minimum (cond b x y)
either_minimum true x y h k = h
either_minimum false x y h k = k

-- the scan by variables, from the scan s by places: whose the least is; or it is nobody's, and both minima are the same
pub record Found (odd : Bool) (variables : List ℕ) (messages : List Float) (n : ℕ) (s : Scan) : Type 0 where
  pub variable : ℕ
  pub is : scan odd variables messages n ≡ scan_of s.total_sign s.min1 s.min2 variable
  pub whose : ((s.holder < n) × (variable ≡ get_or variables s.holder 0)) ⊎ (s.min1 ≡ s.min2)
  pub signed : Sign s.total_sign
  pub least : Minimum s.min1
  pub next : Minimum s.min2

module _ (odd : Bool) (variables : List ℕ) (messages : List Float) where
  -- one message further, by whether it is the least so far
  further : (n : ℕ) (s : Scan) (x : Float) (b : Bool) → x ≡ get_or messages n nan → lt (abs x) s.min1 ≡ b → Found odd variables messages n s
      → Found odd variables messages (suc n) (first.scanned s n x)
  unfolding scan scanned lowered first.scanned
  further n s x true e h f =
      record {
        variable = get_or variables n 0;
        is = rw (f.is, sym e, h, (flips s.total_sign x f.signed).0);
        whose = inl (rw h (lt-suc_self n, refl));
        signed = (flips s.total_sign x f.signed).1;
        least = rw h (magnitude_minimum x);
        next = rw h f.least;
      }
  further n s x false e h f =
      record {
        variable = f.variable;
        is = rw (f.is, sym e, h, (flips s.total_sign x f.signed).0);
        whose = rw h (⊎_elim (λ (w : (s.holder < n) × (f.variable ≡ get_or variables
            s.holder 0)). inl (omega (arith, w.0), w.1)) (λ (w : s.min1 ≡ s.min2). inr (same w (rw w at h))) f.whose);
        signed = (flips s.total_sign x f.signed).1;
        least = rw h f.least;
        next = rw h (either_minimum (lt (abs x) s.min2) (abs x) s.min2 (magnitude_minimum x) f.next);
      }
    where
      same : s.min1 ≡ s.min2 → lt (abs x) s.min2 ≡ false → s.min1 ≡ cond (lt (abs x) s.min2) (abs x) s.min2
      same w k = rw k w

  -- before any
  start_sign : (b : Bool) → Sign (cond b one⁻ one⁺)
  start_sign true = negative
  start_sign false = positive

  pub found : (n : ℕ) → Found odd variables messages n (first.scan odd messages n)
  unfolding scan first.scan
  found zero = record { variable = no_variable; is = refl; whose = inr refl; signed = start_sign odd; least = no_minimum; next = no_minimum }
  found (suc n) = further n (first.scan odd messages n) (get_or messages n nan) (lt (abs (get_or messages n nan)) (first.scan odd messages n).min1) refl refl (found n)

-- one of two, where they are the same
either_way : (b : Bool) (x y : Float) → x ≡ y → cond b y x ≡ x
either_way true x y e = sym e
either_way false x y e = refl

-- two entries that rise are not the same
rise_apart : (xs : List ℕ) (i j : ℕ) → Rises xs → i < length xs → j < length xs → (i ≡ j → ⊥) → eqb (get_or xs i 0) (get_or xs j 0) ≡ false
rise_apart xs i j r h k n = ne_eqb _ _ (λ e. ⊎_elim (λ (l : i < j). absurd (omega (arith, r.rises i j l k, e))) (λ (l : j ≤ i). n (back l e)) (less_or_not i j))
  where
    back : j ≤ i → get_or xs i 0 ≡ get_or xs j 0 → i ≡ j
    back l e = ⊎_elim (λ (m : j < i). absurd (omega (arith, r.rises j i m h, e))) (λ (m : i ≤ j). omega (arith, l, m)) (less_or_not j i)

module _ (alpha : Float) (clip : Clip) (sign min1 min2 : Float) (variables : List ℕ) (messages : List Float) (variable least : ℕ) (r : Rises variables) (many : length messages ≡ length variables)
    (whose : ((least < length messages) × (variable ≡ get_or variables least 0)) ⊎ (min1 ≡ min2)) where
  -- the next minimum is for the least's place
  own : cond (eqb (get_or variables least 0) variable) min2 min1 ≡ min2
  own = ⊎_elim (λ (w : (least < length messages) × (variable ≡ get_or variables least 0)). rw
      (eq-eqb (get_or variables least 0) variable (sym w.1))) (λ (w : min1 ≡ min2). either_way (eqb (get_or variables least 0) variable) min1 min2 w ∙ w) whose

  -- and the least for all others
  others : (i : ℕ) → i < length messages → (i ≡ least → ⊥) → cond (eqb (get_or variables i 0) variable) min2 min1 ≡ min1
  others i h n =
      ⊎_elim (λ (w : (least < length messages) × (variable ≡ get_or variables least 0)). rw (
        w.1,
        rise_apart variables i least r (omega arith) (omega
            (arith, w.0)) n,
      )) (λ (w : min1 ≡ min2). either_way (eqb (get_or variables i 0) variable) min1 min2 w) whose

  -- what a sign chooses
  chosen : (x minus plus : Float) (b : Bool) → lt x zero⁺ ≡ b → minus ≡ clipped clip (alpha *ᶠ (sign *ᶠ one⁻) *ᶠ saturated min1) → plus ≡ clipped clip (alpha *ᶠ (sign *ᶠ one⁺) *ᶠ saturated min1)
      → cond b minus plus ≡ clipped clip (alpha *ᶠ (sign *ᶠ message_sign x) *ᶠ saturated min1)
  unfolding message_sign
  chosen x minus plus true h p q = rw (h, p)
  chosen x minus plus false h p q = rw (h, q)

  module _ (minus plus : Float) (p : minus ≡ clipped clip (alpha *ᶠ (sign *ᶠ one⁻) *ᶠ saturated min1)) (q : plus ≡ clipped clip (alpha *ᶠ (sign *ᶠ one⁺) *ᶠ saturated min1)) where
    -- elsewhere
    elsewhere : (i : ℕ) → i < length messages → (i ≡ least → ⊥)
        → cond (lt (get_or messages i nan) zero⁺) minus plus ≡ sent alpha clip (scan_of sign min1 min2 variable) (get_or variables i 0) (get_or messages i nan)
    unfolding sent weighed
    elsewhere i h n = chosen (get_or messages i nan) minus plus (lt (get_or messages i nan) zero⁺) refl p q ∙ rw (others i h n)

    -- the least's place put right
    least_put : (x : Float) → least < length messages → x ≡ clipped clip (alpha *ᶠ (sign *ᶠ message_sign (get_or messages least nan)) *ᶠ saturated min2)
        → set (by_signs minus plus messages (length messages)) least x ≡ sent_to alpha clip (scan_of sign min1 min2 variable) variables messages (length messages)
    unfolding by_signs sent_to sent weighed
    least_put x h e =
        let w : x ≡ sent alpha clip (scan_of sign min1 min2 variable) (get_or variables least 0) (get_or messages least nan) = e ∙ rw own in
        rw w (but_one (length messages) (λ i. sent alpha clip (scan_of sign min1 min2 variable)
        (get_or variables i 0) (get_or messages i nan)) (λ i. cond (lt (get_or messages i nan) zero⁺) minus plus) least nan h elsewhere)

    -- and where there is none
    least_nowhere : length messages ≤ least → by_signs minus plus messages (length messages) ≡ sent_to alpha clip (scan_of sign min1 min2 variable) variables messages (length messages)
    unfolding by_signs sent_to
    least_nowhere h = tables_agree (length messages) _ _ (λ i k. elsewhere i k (λ e. absurd (omega arith)))

-- all that a check sends, in each case: `least-sent` and `next-sent` are what is weighed with a sign of 1
module _ (alpha : Float) (clip : Clip) (odd : Bool) (variables : List ℕ) (messages out : List Float) (sign min1 min2 : Float) (least : ℕ) (least-sent minus plus : Float)
    (r : Rises variables) (many : length messages ≡ length variables)
    (s : scan_of sign min1 min2 least ≡ first.scan odd messages (length messages))
    (w : least-sent ≡ alpha *ᶠ sign *ᶠ saturated_magnitude min1) (p : minus ≡ clipped clip (neg least-sent)) (q : plus ≡ clipped clip least-sent)
    (o : out ≡ by_signs minus plus messages (length messages)) where
  f : Found odd variables messages (length messages) (scan_of sign min1 min2 least)
  f = rw s (found odd variables messages (length messages))

  least_is : least-sent ≡ alpha *ᶠ sign *ᶠ saturated min1
  least_is = w ∙ ap (λ m. alpha *ᶠ sign *ᶠ m) f.least

  minus_is : minus ≡ clipped clip (alpha *ᶠ (sign *ᶠ one⁻) *ᶠ saturated min1)
  minus_is = p ∙ ap (clipped clip) (ap neg least_is ∙ weighed_minus alpha sign (saturated min1) f.signed)

  plus_is : plus ≡ clipped clip (alpha *ᶠ (sign *ᶠ one⁺) *ᶠ saturated min1)
  plus_is = q ∙ ap (clipped clip) (least_is ∙ weighed_plus alpha sign (saturated min1) f.signed)

  pub sends_next : (next-sent signed x : Float) → least < length messages → next-sent ≡ alpha *ᶠ sign *ᶠ saturated_magnitude min2
      → signed ≡ cond (lt (get_or messages least nan) zero⁺) (neg next-sent) next-sent → x ≡ clipped clip signed
      → set out least x ≡ check_messages alpha clip odd variables messages
  unfolding check_messages
  sends_next next-sent signed x h n e c =
      let y = get_or messages least nan in
      let is : x ≡ clipped clip (alpha *ᶠ (sign *ᶠ message_sign y) *ᶠ saturated min2) =
      c ∙ ap (clipped clip) (e ∙ ap (λ t. cond (lt y zero⁺) (neg t) t) (n ∙ ap (λ m. alpha *ᶠ sign *ᶠ m) f.next) ∙ weighed_by alpha sign (saturated min2) f.signed y (lt y zero⁺) refl) in
      rw (o, f.is) (least_put alpha clip sign min1 min2 variables messages f.variable least r many f.whose minus plus minus_is plus_is x h is)

  pub sends_least : length messages ≤ least → out ≡ check_messages alpha clip odd variables messages
  unfolding check_messages
  sends_least h = rw (o, f.is) (least_nowhere alpha clip sign min1 min2 variables messages f.variable least r many f.whose minus plus minus_is plus_is h)
