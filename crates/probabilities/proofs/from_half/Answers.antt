-- `probabilities::from_half` meets its contract. 1 - p has at least one unit of 2 ^ -53 and at most 2 ^ 52 of them; the shift brings its top bit to bit 52. Assumes nothing.
use mathlib.Core.Path.{◌≡◌, sym, ap, ◌∙◌}
use mathlib.Core.Logic.{⊎_elim}
use Prim.Native.Nat.{ℕ, ◌-◌, ◌*◌, ◌%◌, ◌^◌, ◌≤◌, ◌<◌}
use native.Mathlib.Nat.{mod-eq_of_lt, mul-one}
use native.Mathlib.Omega.{arith}
use lib.Count.{count_leading_zeros}
use Rattle.numbers.proofs.Cases.{less_or_not}
use Rattle.probabilities.proofs.Splits.{Shift, shift_is}
use Rattle.probabilities.proofs.from_half.Goals as goal

-- the shift of 1 - p
shift : (q : ℕ) → 2 ^ 52 ≤ q → q < 2 ^ 53 → Shift (2 ^ 53 - q) (count_leading_zeros 64 (2 ^ 53 - q))
shift q l h = shift_is (2 ^ 53 - q) (omega arith) (omega arith)

-- nothing is shifted out
kept : (n s : ℕ) → Shift n s → n * 2 ^ (s - 11) % 2 ^ 64 ≡ n * 2 ^ (s - 11)
kept n s h = mod-eq_of_lt (omega (arith, h.below))

-- no shift is needed where q is as little as 1 - p
needed : (q s : ℕ) → 2 ^ 52 ≤ q → q < 2 ^ 53 → Shift (2 ^ 53 - q) s → q < (2 ^ 53 - q) * 2 ^ (s - 11) → 0 < s - 11
needed q s l h g o =
    ⊎_elim
    (λ (p : 0 < s - 11). p)
    (λ (p : s - 11 ≤ 0).
    let e : s - 11 ≡ 0 = omega arith in
    absurd (let z : ⊥ = omega (arith, ap (λ (k : ℕ). (2 ^ 53 - q) * 2 ^ k) e, mul-one (2 ^ 53 - q)) in z))
    (less_or_not 0 (s - 11))

pub overflow_sub-shift : goal.overflow_sub-shift
overflow_sub-shift c = (shift c.args.q c.requires.0 c.requires.1).enough

pub split-requires : goal.split-requires
split-requires c =
    let g = shift c.args.q c.requires.0 c.requires.1 in
    let s = count_leading_zeros 64 (2 ^ 53 - c.args.q) in (
      c.requires.0,
      c.requires.1,
      omega (arith, g.from, g.below),
      omega (arith, g.from, g.below),
      λ o. needed c.args.q s c.requires.0 c.requires.1 g (omega (arith, g.from, g.below, o)),
    )

pub returns : goal.returns
returns c =
    let g = shift c.args.q c.requires.0 c.requires.1 in
    let s = count_leading_zeros 64 (2 ^ 53 - c.args.q) in
    let k = kept (2 ^ 53 - c.args.q) s g in (
      omega (arith, c.split.ensures.0, g.few),
      c.split.ensures.1 c.args.q (2 ^ 53 - c.args.q) 0 (omega arith) (omega arith) (sym k ∙ sym (mul-one ((2 ^ 53 - c.args.q) * 2 ^ (s - 11) % 2 ^ 64))),
    )
