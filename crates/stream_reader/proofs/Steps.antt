-- What the code of one step computes is what the definition says, over plain numbers. Assumes nothing.
use Rattle.std.proofs.Common.{◌≡◌, ℕ, ◌+◌, ◌-◌, ◌*◌, ◌/◌, ◌%◌, ◌^◌, ◌<◌, ◌≤◌, false, eqb, List, length, set, sym, arith, le-ltb, lt-ltb, ne_eqb, le-leb}
use lib.Seq.{set_out}
use borrow.Author.Tests.{lt-leb}
use Rattle.stream_reader.specs.Reading.{grown, summed, byte_kept}

-- ---- the end of a record

pub head_only : (t l : ℕ) → t < 6 → false ≡ eqb t (6 + l)
head_only t l h = sym (ne_eqb t (6 + l) (λ e. omega arith))

-- ---- a number that grows

module _ (value from size at b : ℕ) where
  pub grown_before : at < from → value ≡ grown value from size at b
  unfolding grown
  grown_before h = rw (lt-leb from at h)

  pub grown_after : from ≤ at → size ≤ at - from → value ≡ grown value from size at b
  unfolding grown
  grown_after h k = rw (le-leb from at h, le-ltb at (from + size) (omega arith))

  pub grown_within : (x r : ℕ) → from ≤ at → at - from < size → x ≡ b * 256 ^ (at - from) → r ≡ (value + x) % 2 ^ 64 → r ≡ grown value from size at b
  unfolding grown
  grown_within x r h k e w = rw (le-leb from at h, lt-ltb at (from + size) (omega arith), w, e)

-- ---- the sum of degrees

module _ (sum mechanisms at b : ℕ) where
  pub summed_before : at < 18 → sum ≡ summed sum mechanisms at b
  unfolding summed
  summed_before h = rw (lt-leb 18 at h)

  pub summed_after : 18 ≤ at → mechanisms ≤ (at - 18) / 12 → sum ≡ summed sum mechanisms at b
  unfolding summed
  summed_after h k = rw (le-leb 18 at h, le-ltb ((at - 18) / 12) mechanisms k)

  pub summed_within : (r : ℕ) → 18 ≤ at → (at - 18) / 12 < mechanisms → r ≡ grown sum 8 4 ((at - 18) % 12) b → r ≡ summed sum mechanisms at b
  unfolding summed
  summed_within r h k e = rw (le-leb 18 at h, lt-ltb ((at - 18) / 12) mechanisms k) e

-- ---- the payload as it is kept

module _ (at b : ℕ) (kept : List ℕ) where
  pub keep_none : at < 6 → kept ≡ byte_kept at b kept
  unfolding byte_kept
  keep_none h = rw (lt-leb 6 at h)

  pub keep_out : 6 ≤ at → length kept ≤ at - 6 → kept ≡ byte_kept at b kept
  unfolding byte_kept
  keep_out h k = rw (le-leb 6 at h) (sym (set_out kept (at - 6) b k))

  pub keep_in : 6 ≤ at → set kept (at - 6) b ≡ byte_kept at b kept
  unfolding byte_kept
  keep_in h = rw (le-leb 6 at h)
