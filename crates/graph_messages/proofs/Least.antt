-- The two least of some magnitudes, one more at a time, as the code finds them with no branch. Assumes nothing.
use mathlib.Core.Path.{◌≡◌, refl, sym, ap, ◌∙◌}
use mathlib.Core.Bool.{Bool, true, false, cond, true≢false}
use Prim.Native.Nat.{ℕ}
use lib.Ieee.{Float, nan, inf, fin, lt}
use Rattle.numbers.specs.Floats.{abs}
use Rattle.numbers.proofs.Bits.{abs_number}
use Rattle.numbers.proofs.Order.{lt_one_way, lt_number, number_lt, below_what_is_not}
use Rattle.graph_lists.specs.Messages.{Scan, scan_of, start_scan}
use Rattle.graph_messages.specs.Needs.{Ordered}

-- the magnitude of a magnitude
abs_abs : (x : Float) → abs (abs x) ≡ abs x
unfolding abs
abs_abs nan = refl
abs_abs (inf s) = refl
abs_abs (fin s m e) = refl

-- before any
no_magnitude : Ordered (inf false) (inf false)
unfolding abs lt
no_magnitude = record { magnitude = refl; not_above = refl; follows = λ x h. h }

-- as a scan starts
pub start_ordered : (sign min1 min2 : Float) (least nobody : ℕ) (odd : Bool) → scan_of sign min1 min2 least ≡ start_scan odd nobody → Ordered min1 min2
start_ordered sign min1 min2 least nobody odd e =
    let p : min1 ≡ inf false = ap (λ (s : Scan). s.min1) e in
    let q : min2 ≡ inf false = ap (λ (s : Scan). s.min2) e in
    rw (p, q) no_magnitude

module _ (x min1 min2 : Float) (o : Ordered min1 min2) where
  -- the next least, by a lesser and a greater
  next_cases : (a b : Bool) → lt (abs x) min1 ≡ a → lt (abs x) min2 ≡ b
      → cond (lt (cond b (abs x) min2) min1) min1 (cond b (abs x) min2) ≡ cond a min1 (cond b (abs x) min2)
  next_cases true true p q = rw p
  next_cases true false p q = absurd (true≢false (sym (o.follows x p) ∙ q))
  next_cases false true p q = rw p
  next_cases false false p q = rw o.not_above

  -- whatever the cases
  pub next_is : cond (lt (cond (lt (abs x) min2) (abs x) min2) min1) min1 (cond (lt (abs x) min2) (abs x) min2)
      ≡ cond (lt (abs x) min1) min1 (cond (lt (abs x) min2) (abs x) min2)
  next_is = next_cases (lt (abs x) min1) (lt (abs x) min2) refl refl

  -- they stay ordered
  ordered_cases : (a b : Bool) → lt (abs x) min1 ≡ a → lt (abs x) min2 ≡ b → Ordered (cond a (abs x) min1) (cond a min1 (cond b (abs x) min2))
  ordered_cases true b p q =
      record {
        magnitude = abs_abs x;
        not_above = lt_one_way (abs x) min1 p;
        follows = λ y h. rw (sym o.magnitude) (below_what_is_not y min1 (abs x) h (rw o.magnitude (lt_one_way (abs x) min1 p)) (number_lt (abs x) min1 p));
      }
  ordered_cases false true p q =
      record {
        magnitude = o.magnitude;
        not_above = p;
        follows = λ y h. below_what_is_not y x min1 h p (sym (abs_number x) ∙ lt_number (abs x) min2 q);
      }
  ordered_cases false false p q = o

  -- whatever the cases
  pub ordered_next : Ordered (cond (lt (abs x) min1) (abs x) min1) (cond (lt (abs x) min1) min1 (cond (lt (abs x) min2) (abs x) min2))
  ordered_next = ordered_cases (lt (abs x) min1) (lt (abs x) min2) refl refl
