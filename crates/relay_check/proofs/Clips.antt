-- What a clip makes of a check's messages. Off, it leaves them; on, none is beyond it, each keeps its sign, what is within it stays, and what is beyond becomes it.
-- So with a clip all that a check sends is finite, whatever it was sent. Assumes nothing.
use Prim.Native.Nat.{ℕ, zero, suc, ◌+◌, ◌-◌, ◌*◌, ◌%◌, ◌^◌, ◌<◌, ◌≤◌}
use mathlib.Core.Path.{◌≡◌, refl, sym, ap, ◌∙◌, subst}
use mathlib.Core.Bool.{Bool, true, false, cond, ◌&&◌, true≢false, false≢true}
use mathlib.Core.List.{List}
use mathlib.Core.Logic.{⊎_elim}
use native.Mathlib.Nat.{lt_of_lt_of_le, add_comm, mul_assoc, mul-one, mul-pos}
use native.Mathlib.Omega.{arith}
use lib.Dec.{eqb, leb, ltb}
use lib.IntN.{ℤ, pos, negsuc}
use lib.Pow.{pow-add, pow_pos, pow_mono, pow-lt, shl_lt}
use lib.Ieee.{Float, nan, inf, fin, Format, binary64, prec, emax, low, up, down, units, odd, round, neg, mul, lt, is_nan, fits, unlike}
use lib.Ieee.Digits.{back}
use lib.Ieee.Exact.{HasValue, round_exact}
use lib.Ieee.Fits.{round_is, reach}
use lib.Ieee.Positive.{first_pos}
use lib.ListN.{length, get_or}
use borrow.Author.Tests.{ltb-true, leb-true, lt-ltb, le-ltb}
use Rattle.numbers.specs.Floats.{◌*ᶠ◌, zero⁺, abs, is_finite, is_negative, message_sign}
use Rattle.numbers.specs.Loops.{table}
use Rattle.numbers.proofs.Cases.{either, less_or_not, and_both}
use Rattle.numbers.proofs.Loops.{tables_agree, get_or_table}
use Rattle.numbers.proofs.Order.{lt_one_way}
use Rattle.graph_lists.specs.Messages.{Scan}
use Rattle.relay_settings.specs.declared.Clip.{Clip}
use Rattle.relay_settings.specs.declared.Clip.TheVariants.{Off, On}
use Rattle.relay_settings.specs.Settings.{clip_good, alpha_good}
use Rattle.relay_check.specs.Check.{scan, saturated, weighed, clamped, clipped, sent, sent_to, check_messages}
use Rattle.relay_check.proofs.Sends.{Sign, positive, negative, flips, found}

-- ---- off

-- it leaves every message
pub clip_off : (x : Float) → clipped Off x ≡ x
unfolding clipped
clip_off x = refl

-- so what is sent to a variable is the Rust's message
pub clip_off_sent : (alpha : Float) (s : Scan) (variable : ℕ) (message : Float) → sent alpha Off s variable message ≡ weighed alpha s variable message
unfolding sent
clip_off_sent alpha s variable message = clip_off (weighed alpha s variable message)

-- and so is all that a check sends
pub clip_off_messages : (alpha : Float) (odd : Bool) (variables : List ℕ) (messages : List Float)
    → check_messages alpha Off odd variables messages
    ≡ table (length messages) (λ i. weighed alpha (scan odd variables messages (length messages)) (get_or variables i 0) (get_or messages i nan))
unfolding check_messages sent_to
clip_off_messages alpha odd variables messages =
    tables_agree (length messages) _ _ (λ i h. clip_off_sent alpha (scan odd variables messages (length messages)) (get_or variables i 0) (get_or messages i nan))

-- ---- what needs no good clip

-- a NaN stays
pub nan_stays : (clip : Clip) → clipped clip nan ≡ nan
unfolding clipped clamped lt
nan_stays Off = refl
nan_stays (On nan) = refl
nan_stays (On (inf s)) = refl
nan_stays (On (fin s m e)) = refl

-- ---- a good clip

-- what 9 asks of a clip that is on, and 10 of alpha: it is finite and above 0
data Above : Float → Type 0 where
  above : (m : ℕ) (e : ℤ) → 0 < m * up e → Above (fin false m e)

-- read off the test
above_zero : (x : Float) → (is_finite x && lt zero⁺ x) ≡ true → Above x
unfolding is_finite lt
above_zero nan h = absurd (false≢true h)
above_zero (inf s) h = absurd (false≢true h)
above_zero (fin false m e) h = above m e (omega (arith, ltb-true (0 * down e) (m * up e * 1) h))
above_zero (fin true m e) h = absurd (false≢true h)

-- of a clip
clip_above : (limit : Float) → clip_good (On limit) ≡ true → Above limit
unfolding clip_good
clip_above limit h = above_zero limit h

-- nothing is below itself
lt_itself : (x : Float) → lt x x ≡ false
lt_itself x = ⊎_elim (λ (h : lt x x ≡ true). lt_one_way x x h) (λ (h : lt x x ≡ false). h) (either (lt x x))

-- the clip with a sign has that sign
signed_negative : (limit : Float) (s : Bool) → Above limit → is_negative (cond s (neg limit) limit) ≡ s
unfolding neg is_negative
signed_negative _ true (above m e p) = refl
signed_negative _ false (above m e p) = refl

-- it is below 0 where that is the minus
signed_below : (limit : Float) (s : Bool) → Above limit → lt (cond s (neg limit) limit) zero⁺ ≡ s
unfolding neg lt
signed_below _ true (above m e p) = lt-ltb 0 (m * up e * 1 + 0 * down e) (omega arith)
signed_below _ false (above m e p) = le-ltb (m * up e * 1) (0 * down e) (omega arith)

-- its magnitude is the clip
signed_size : (limit : Float) (s : Bool) → Above limit → abs (cond s (neg limit) limit) ≡ limit
unfolding neg abs
signed_size _ true (above m e p) = refl
signed_size _ false (above m e p) = refl

-- and it is finite
signed_finite : (limit : Float) (s : Bool) → Above limit → is_finite (cond s (neg limit) limit) ≡ true
unfolding neg is_finite
signed_finite _ true (above m e p) = refl
signed_finite _ false (above m e p) = refl

-- what is beyond a clip is below 0 exactly where its sign is minus
beyond_sign : (limit x : Float) → Above limit → lt limit (abs x) ≡ true → lt x zero⁺ ≡ is_negative x
unfolding lt abs is_negative
beyond_sign _ nan (above m e p) h = absurd (false≢true h)
beyond_sign _ (inf true) (above m e p) h = refl
beyond_sign _ (inf false) (above m e p) h = refl
beyond_sign _ (fin false n d) (above m e p) h = le-ltb (n * up d * 1) (0 * down d) (omega arith)
beyond_sign _ (fin true n d) (above m e p) h =
    lt-ltb 0 (n * up d * 1 + 0 * down d) (omega (arith, first_pos (n * up d) (down e) (omega (arith, ltb-true (m * up e * down d) (n * up d * down e) h))))

-- what a clip makes of x: x, or the clip with the sign of x
data Made (limit x : Float) : Float → Type 0 where
  stays : lt limit (abs x) ≡ false → Made limit x x
  becomes : lt limit (abs x) ≡ true → Made limit x (cond (is_negative x) (neg limit) limit)

-- a negative number is raised to the clip's negative, if it is beyond the clip
made_negative : (m n : ℕ) (e d : ℤ) (b : Bool) → lt (fin false m e) (fin false n d) ≡ b → Made (fin false m e) (fin true n d) (clamped (fin false m e) (fin true n d))
unfolding clamped neg lt abs is_negative
made_negative m n e d true h = rw h (becomes h)
made_negative m n e d false h = rw h (stays h)

-- and any other lowered to it
made_positive : (m n : ℕ) (e d : ℤ) (b : Bool) → lt (fin false m e) (fin false n d) ≡ b → Made (fin false m e) (fin false n d) (clamped (fin false m e) (fin false n d))
unfolding clamped neg lt abs is_negative
made_positive m n e d true h = rw h (becomes h)
made_positive m n e d false h = rw h (stays h)

made : (limit x : Float) → Above limit → Made limit x (clipped (On limit) x)
unfolding clipped clamped neg lt abs is_negative
made _ nan (above m e p) = stays refl
made _ (inf true) (above m e p) = becomes refl
made _ (inf false) (above m e p) = becomes refl
made _ (fin true n d) (above m e p) = made_negative m n e d (lt (fin false m e) (fin false n d)) refl
made _ (fin false n d) (above m e p) = made_positive m n e d (lt (fin false m e) (fin false n d)) refl

-- so it is not beyond the clip
made_within : (limit x y : Float) → Above limit → Made limit x y → lt limit (abs y) ≡ false
made_within limit x y good (stays h) = h
made_within limit x y good (becomes h) = rw (signed_size limit (is_negative x) good) (lt_itself limit)

-- it is x, where that is not beyond
made_same : (limit x y : Float) → Made limit x y → lt limit (abs x) ≡ false → y ≡ x
made_same limit x y (stays h) k = refl
made_same limit x y (becomes h) k = absurd (true≢false (sym h ∙ k))

-- and the clip with the sign of x, where it is
made_clip : (limit x y : Float) → Made limit x y → lt limit (abs x) ≡ true → y ≡ cond (is_negative x) (neg limit) limit
made_clip limit x y (stays h) k = absurd (false≢true (sym h ∙ k))
made_clip limit x y (becomes h) k = refl

-- its sign is that of x
made_sign : (limit x y : Float) → Above limit → Made limit x y → is_negative y ≡ is_negative x
made_sign limit x y good (stays h) = refl
made_sign limit x y good (becomes h) = signed_negative limit (is_negative x) good

-- it is below zero where x is
made_below : (limit x y : Float) → Above limit → Made limit x y → lt y zero⁺ ≡ lt x zero⁺
made_below limit x y good (stays h) = refl
made_below limit x y good (becomes h) = signed_below limit (is_negative x) good ∙ sym (beyond_sign limit x good h)

-- a number that is not beyond a clip is finite
within_finite : (limit x : Float) → Above limit → is_nan x ≡ false → lt limit (abs x) ≡ false → is_finite x ≡ true
unfolding lt abs is_nan is_finite
within_finite _ nan (above m e p) n h = absurd (true≢false n)
within_finite _ (inf s) (above m e p) n h = absurd (true≢false h)
within_finite _ (fin s k d) (above m e p) n h = refl

-- so what is made of a number is finite
made_finite : (limit x y : Float) → Above limit → is_nan x ≡ false → Made limit x y → is_finite y ≡ true
made_finite limit x y good n (stays h) = within_finite limit x good n h
made_finite limit x y good n (becomes h) = signed_finite limit (is_negative x) good

-- what is made of an infinity
made_infinite : (limit : Float) (s : Bool) → Above limit → clipped (On limit) (inf s) ≡ cond s (neg limit) limit
unfolding clipped clamped neg lt
made_infinite _ true (above m e p) = refl
made_infinite _ false (above m e p) = refl

-- ---- the same, from the test that a clip passes

module _ (limit : Float) (good : clip_good (On limit) ≡ true) where
  -- no message is beyond the clip, whatever it was
  pub never_beyond : (x : Float) → lt limit (abs (clipped (On limit) x)) ≡ false
  never_beyond x = made_within limit x _ (clip_above limit good) (made limit x (clip_above limit good))

  -- one that is not beyond it is as it was
  pub within_stays : (x : Float) → lt limit (abs x) ≡ false → clipped (On limit) x ≡ x
  within_stays x h = made_same limit x _ (made limit x (clip_above limit good)) h

  -- one that is, strictly greater in magnitude, becomes the clip with its sign
  pub beyond_is_clip : (x : Float) → lt limit (abs x) ≡ true → clipped (On limit) x ≡ cond (is_negative x) (neg limit) limit
  beyond_is_clip x h = made_clip limit x _ (made limit x (clip_above limit good)) h

  -- an infinity becomes it, with its sign
  pub infinite_is_clip : (s : Bool) → clipped (On limit) (inf s) ≡ cond s (neg limit) limit
  infinite_is_clip s = made_infinite limit s (clip_above limit good)

  -- what is no NaN becomes finite
  pub clip_tames : (x : Float) → is_nan x ≡ false → is_finite (clipped (On limit) x) ≡ true
  clip_tames x n = made_finite limit x _ (clip_above limit good) n (made limit x (clip_above limit good))

  -- so nothing becomes an infinity, whatever it was
  pub never_infinite : (x : Float) (s : Bool) → clipped (On limit) x ≡ inf s → ⊥
  unfolding is_nan is_finite
  never_infinite nan s h = true≢false (ap is_nan (sym (nan_stays (On limit)) ∙ h))
  never_infinite (inf t) s h = false≢true (ap is_finite (sym h) ∙ clip_tames (inf t) refl)
  never_infinite (fin t m e) s h = false≢true (ap is_finite (sym h) ∙ clip_tames (fin t m e) refl)

-- each message keeps its sign, a zero too
pub keeps_sign : (clip : Clip) → clip_good clip ≡ true → (x : Float) → is_negative (clipped clip x) ≡ is_negative x
keeps_sign Off good x = ap is_negative (clip_off x)
keeps_sign (On limit) good x = made_sign limit x _ (clip_above limit good) (made limit x (clip_above limit good))

-- it is below zero where it was
pub keeps_below : (clip : Clip) → clip_good clip ≡ true → (x : Float) → lt (clipped clip x) zero⁺ ≡ lt x zero⁺
keeps_below Off good x = ap (λ y. lt y zero⁺) (clip_off x)
keeps_below (On limit) good x = made_below limit x _ (clip_above limit good) (made limit x (clip_above limit good))

-- and so counts as the sign that it was
pub keeps_message_sign : (clip : Clip) → clip_good clip ≡ true → (x : Float) → message_sign (clipped clip x) ≡ message_sign x
unfolding message_sign
keeps_message_sign clip good x = rw (keeps_below clip good x)

-- ---- what a check sends is a number

-- digits make one
odd_number : (d : ℕ) (s : Bool) (q k l : ℕ) → is_nan (odd d s q k l) ≡ false
unfolding odd is_nan
odd_number d s zero k l = refl
odd_number d s (suc q) k l = refl

-- and so do units of a format, though it may be infinite
units_number : (f : Format) (s : Bool) (q k : ℕ) → is_nan (units f s q k) ≡ false
unfolding units is_nan
units_number f s q k = chosen (ltb (q * 2 ^ k) (2 ^ (low f + suc (emax f))))
  where
    chosen : (b : Bool) → is_nan (cond b (odd (suc (prec f)) s q k (low f)) (inf s)) ≡ false
    chosen true = odd_number (suc (prec f)) s q k (low f)
    chosen false = refl

-- so a rounded fraction is one
round_number : (f : Format) (s : Bool) (num den : ℕ) → is_nan (round f s num den) ≡ false
round_number f s num den = rw round_is (units_number f s _ _)

-- and the product of two that are finite
mul_number : (x y : Float) → is_finite x ≡ true → is_finite y ≡ true → is_nan (x *ᶠ y) ≡ false
unfolding mul is_finite
mul_number nan y h k = absurd (false≢true h)
mul_number (inf s) y h k = absurd (false≢true h)
mul_number (fin s m e) nan h k = absurd (false≢true k)
mul_number (fin s m e) (inf t) h k = absurd (false≢true k)
mul_number (fin s m e) (fin t n d) h k = round_number binary64 (unlike s t) (m * up e * (n * up d)) (down e * down d)

-- a saturated minimum is finite
saturated_finite : (x : Float) → is_finite (saturated x) ≡ true
unfolding saturated is_finite
saturated_finite nan = refl
saturated_finite (inf s) = refl
saturated_finite (fin s m e) = refl

-- what has a value is finite
value_finite : (x : Float) (s : Bool) (a c : ℕ) → HasValue x s a c → is_finite x ≡ true
unfolding is_finite
value_finite nan s a c v = absurd v
value_finite (inf t) s a c v = absurd v
value_finite (fin t m e) s a c v = refl

-- the lesser of two powers of two has the lesser exponent
power_within : (i j : ℕ) → 2 ^ i ≤ 2 ^ j → i ≤ j
power_within i j h = ⊎_elim (λ (l : j < i). absurd (omega (arith, pow-lt l))) (λ (l : i ≤ j). l) (less_or_not j i)

-- m times two powers of two
twice : (m i j : ℕ) → m * 2 ^ i * 2 ^ j ≡ m * 2 ^ (i + j)
twice m i j = mul_assoc m (2 ^ i) (2 ^ j) ∙ ap (λ (x : ℕ). m * x) (sym (pow-add 2 i j))

module _ (f : Format) (s : Bool) (m : ℕ) where
  -- m * 2 ^ e, of a format's digits and exponents, is finite when it is rounded
  round_kept : (e : ℤ) → m < 2 ^ prec f → down e ≤ 2 ^ low f → m * up e < 2 ^ suc (emax f) * down e → is_finite (round f s (m * up e * 1) (down e * 1)) ≡ true
  round_kept (pos k) few fine small =
      let top : m * 2 ^ k < 2 ^ suc (emax f) = omega arith in
      let most : m * 2 ^ (k + low f) < 2 ^ (low f + suc (emax f)) = rw (← twice m k (low f), add_comm (low f) (suc (emax f))) (shl_lt (suc (emax f)) (low f) top) in
      value_finite _ s (m * 2 ^ k * 1) 1 (round_exact f s (m * 2 ^ k * 1) 1 m (k + low f) (pow_pos 0) few most (simp mul-one (twice m k (low f))))
  round_kept (negsuc k) few fine small =
      let least : suc k ≤ low f = power_within (suc k) (low f) fine in
      let j = low f - suc k in
      let most : m * 2 ^ j < 2 ^ (low f + suc (emax f)) = lt_of_lt_of_le (shl_lt (prec f) j few) (pow_mono (omega (arith, reach f))) in
      let whole : m * 2 ^ j * 2 ^ suc k ≡ m * 2 ^ low f = twice m j (suc k) ∙ ap (λ (x : ℕ). m * 2 ^ x) (back (low f) (suc k) least) in
      value_finite _ s (m * 1 * 1) (2 ^ suc k * 1)
      (round_exact f s (m * 1 * 1) (2 ^ suc k * 1) m j (mul-pos (pow_pos (suc k)) (pow_pos 0)) few most (simp mul-one (sym whole)))

-- so is what fits, when it is multiplied by 1
fits_kept : (s : Bool) (m : ℕ) (e : ℤ) → 0 < m * up e → fits binary64 (fin false m e) ≡ true → is_finite (round binary64 s (m * up e * 1) (down e * 1)) ≡ true
unfolding fits
fits_kept s zero e p h = absurd (omega arith)
fits_kept s (suc m) e p h =
    let high = and_both (eqb (suc m % 2) 1 && ltb (suc m) (2 ^ 53) && leb (down e) (2 ^ 1074)) (ltb (suc m * up e) (2 ^ 1024 * down e)) h in
    let fine = and_both (eqb (suc m % 2) 1 && ltb (suc m) (2 ^ 53)) (leb (down e) (2 ^ 1074)) high.0 in
    round_kept binary64 s (suc m) e (ltb-true _ _ (and_both (eqb (suc m % 2) 1) (ltb (suc m) (2 ^ 53)) fine.0).1) (leb-true _ _ fine.1) (ltb-true _ _ high.1)

-- a finite binary64 times a sign is finite
signed_kept : (x sign : Float) → Above x → fits binary64 x ≡ true → Sign sign → is_finite (x *ᶠ sign) ≡ true
unfolding mul
signed_kept _ _ (above m e p) h positive = fits_kept false m e p h
signed_kept _ _ (above m e p) h negative = fits_kept true m e p h

-- what a check sends is a number before it is clipped, whatever it was sent
weighed_number : (alpha : Float) (s : Scan) (variable : ℕ) (message : Float) → Above alpha → fits binary64 alpha ≡ true → Sign s.total_sign
    → is_nan (weighed alpha s variable message) ≡ false
unfolding weighed
weighed_number alpha s variable message good fit sign =
    let turned = flips s.total_sign message sign in
    mul_number (alpha *ᶠ (s.total_sign *ᶠ message_sign message)) _ (rw turned.0 (signed_kept alpha _ good fit turned.1)) (saturated_finite _)

-- ---- all that a check sends

-- a message of it
sent_at_lem : (alpha : Float) (clip : Clip) (odd : Bool) (variables : List ℕ) (messages : List Float) (i : ℕ) → i < length messages
    → get_or (check_messages alpha clip odd variables messages) i nan
    ≡ clipped clip (weighed alpha (scan odd variables messages (length messages)) (get_or variables i 0) (get_or messages i nan))
unfolding check_messages sent_to sent
sent_at_lem alpha clip odd variables messages i h = get_or_table (length messages) _ i nan h

module _ (alpha limit : Float) (odd : Bool) (variables : List ℕ) (messages : List Float) where
  -- the total sign is a sign, whatever the messages are
  total_signed : Sign (scan odd variables messages (length messages)).total_sign
  total_signed =
      let f = found odd variables messages (length messages) in
      subst (λ (s : Scan). Sign s.total_sign) (sym f.is) f.signed

  -- no message that is sent is beyond the clip
  pub sent_within : clip_good (On limit) ≡ true → (i : ℕ) → i < length messages
      → lt limit (abs (get_or (check_messages alpha (On limit) odd variables messages) i nan)) ≡ false
  sent_within good i h = rw (sent_at_lem alpha (On limit) odd variables messages i h) (never_beyond limit good _)

  -- and each is finite, whatever the messages that it comes from are. alpha must fit: beyond binary64, alpha times 1 is infinite, and that times 0 a NaN
  pub sent_finite : alpha_good alpha ≡ true → fits binary64 alpha ≡ true → clip_good (On limit) ≡ true → (i : ℕ) → i < length messages
      → is_finite (get_or (check_messages alpha (On limit) odd variables messages) i nan) ≡ true
  unfolding alpha_good
  sent_finite able fit good i h =
      rw (sent_at_lem alpha (On limit) odd variables messages i h)
      (clip_tames limit good _ (weighed_number alpha _ _ _ (above_zero alpha able) fit total_signed))
