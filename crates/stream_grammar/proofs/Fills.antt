-- One degree more of the offsets, the bits of a NaN, and what is read of a model within the room and beyond it. Assumes nothing.
use Rattle.std.proofs.Common.{◌≡◌, ℕ, ◌+◌, ◌%◌, ◌^◌, ◌<◌, ◌≤◌, true, false, ◌&&◌, leb, List, length, sym, refl, ◌∙◌, add-one, lt-ltb, leb-true}
use mathlib.Core.Bool.{false≢true}
use native.Mathlib.Nat.{mod-add-mod}
use lib.Ieee.{Float, nan, inf, fin, binary64, of_bits, is_nan}
use lib.Ieee.Bits.{nan_bits_is, nan_bits_above}
use Rattle.numbers.proofs.Cases.{and_both}
use Rattle.numbers.specs.Loops.{table}
use Rattle.stream_grammar.specs.Stream.{degree, degrees, detector}
use Rattle.stream_grammar.specs.Fields.{prior, offset, ModelLists, model_lists, within_room, model_read}

-- one degree more
pub offset_turn : (p : List ℕ) (m s d r : ℕ) → s ≡ offset p m → d ≡ degree p m → r ≡ (s + d) % 2 ^ 32 → r ≡ offset p (m + 1)
unfolding offset degrees
offset_turn p m s d r a b c = rw (add-one, c, a, b) (mod-add-mod (degrees m p) (2 ^ 32) (degree p m))

-- a NaN's bits
nan_only : (x : Float) → is_nan x ≡ true → x ≡ nan
unfolding is_nan
nan_only nan h = refl
nan_only (inf s) h = absurd (false≢true h)
nan_only (fin s m e) h = absurd (false≢true h)

pub nan_bits : (bits : ℕ) → 9218868437227405312 < bits % 9223372036854775808 → nan ≡ of_bits binary64 bits
nan_bits bits h = sym (nan_only (of_bits binary64 bits) (sym (nan_bits_is binary64 bits) ∙ nan_bits_above binary64 bits ∙ lt-ltb _ _ h))

-- ---- the lists of a model

-- what a test of three sizes tells
pub room_parts : (a b d x y z : ℕ) → (leb a x && (leb b y && leb d z)) ≡ true → (a ≤ x) × (b ≤ y) × (d ≤ z)
room_parts a b d x y z e =
    let p = and_both (leb a x) (leb b y && leb d z) e in
    let q = and_both (leb b y) (leb d z) p.1 in
    (leb-true a x p.0, leb-true b y q.0, leb-true d z q.1)

module _ (p : List ℕ) (priors : List Float) (offsets detectors : List ℕ) where
  abbrev lent : ModelLists
  lent = model_lists priors offsets detectors

  -- beyond the room
  pub lists_left : within_room lent ≡ false → lent ≡ model_read p lent
  unfolding model_read
  lists_left h = rw h

  -- within it
  pub lists_read : (a : List Float) (b d : List ℕ) → within_room lent ≡ true → a ≡ table (length priors) (prior p) → b ≡ table (length offsets) (offset p)
      → d ≡ table (length detectors) (detector (length priors) p) → model_lists a b d ≡ model_read p lent
  unfolding model_read
  lists_read a b d h e f g = rw (h, e, f, g)
