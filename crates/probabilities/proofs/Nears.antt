-- Laws of `Near`: sums, multiples, products, 1 over a whole number, and the cut. Assumes nothing.
use mathlib.Core.Path.{◌≡◌, refl, ap}
use mathlib.Core.Logic.{⊎_elim}
use mathlib.Core.Bool.{Bool, true, false, cond}
use Prim.Native.Nat.{ℕ, ◌+◌, ◌*◌, ◌/◌, ◌^◌, ◌≤◌, ◌<◌, min}
use native.Mathlib.Nat.{add-mul, mul_assoc, mul_comm, mul_right_comm, mul-mul-mul_comm, mul-le-mul_right, mul-le-mul, div-add-mod', mod-lt, le_trans, le_of_mul-le-mul_right}
use native.Mathlib.Omega.{arith}
use lib.Dec.{leb}
use borrow.Author.Tests.{leb-true, leb-false}
use Rattle.numbers.proofs.Cases.{less_or_not}
use Rattle.probabilities.specs.Fractions.{Fraction, ratio, plus, times, cut_to, Near}

-- ---- sums

-- a sum's bound from above and from below, over the product of the bottoms
sum_low : (h g x y a b : ℕ) → h * x ≤ a → g * y ≤ b → (h + g) * (x * y) ≤ a * y + b * x
sum_low h g x y a b p q =
    omega (arith, mul-le-mul_right y p, mul-le-mul_right x q, add-mul h g (x * y), mul_assoc h x y, mul_assoc g y x, ap (λ (n : ℕ). g * n) (mul_comm y x))

sum_high : (h g x y a b : ℕ) → a ≤ h * x → b ≤ g * y → a * y + b * x ≤ (h + g) * (x * y)
sum_high h g x y a b p q =
    omega (arith, mul-le-mul_right y p, mul-le-mul_right x q, add-mul h g (x * y), mul_assoc h x y, mul_assoc g y x, ap (λ (n : ℕ). g * n) (mul_comm y x))

pub near_plus : (c d h g : ℕ) (x y : Fraction) → Near c h x → Near d g y → Near (c + d) (h + g) (plus x y)
near_plus c d h g x y p q = record {
  low = omega (arith, sum_low h g x.bottom y.bottom (x.top * 2 ^ 32) (y.top * 2 ^ 32) p.low q.low, mul_right_comm x.top (2 ^ 32) y.bottom, mul_right_comm y.top (2 ^ 32) x.bottom);
  high =
      let e : h + c + (g + d) ≡ h + g + (c + d) = omega arith in
      omega (
        arith,
        sum_high (h + c) (g + d) x.bottom y.bottom (x.top * 2 ^ 32) (y.top * 2 ^ 32) p.high q.high,
        mul_right_comm x.top (2 ^ 32) y.bottom,
        mul_right_comm y.top (2 ^ 32) x.bottom,
        ap (λ (n : ℕ). n * (x.bottom * y.bottom)) e,
      );
}

-- ---- a greater distance, and a multiple

pub near_more : (c d h : ℕ) (x : Fraction) → c ≤ d → Near c h x → Near d h x
near_more c d h x l p = record { low = p.low; high = le_trans p.high (mul-le-mul_right x.bottom (omega arith)) }

pub near_twice : (c h : ℕ) (x : Fraction) → Near c h x → Near (2 * c) (2 * h) (times 2 x)
near_twice c h x p = record {
  low = omega (arith, p.low, mul_assoc 2 h x.bottom);
  high = let e : 2 * (h + c) ≡ 2 * h + 2 * c = omega arith in omega (arith, p.high, mul_assoc 2 (h + c) x.bottom, ap (λ (n : ℕ). n * x.bottom) e);
}

-- ---- 1 over a whole number

pub near_one_over : (w : ℕ) → 0 < w → Near 1 (2 ^ 32 / w) (ratio 1 w)
near_one_over w p = record {
  low = omega (arith, div-add-mod' (2 ^ 32) w);
  high = omega (arith, div-add-mod' (2 ^ 32) w, mod-lt (2 ^ 32) p, add-mul (2 ^ 32 / w) 1 w);
}

-- ---- a product, cut off behind 2 ^ -32

product_low : (h u r a b x y : ℕ) → r * 2 ^ 32 ≤ h * u → h * x ≤ a * 2 ^ 32 → u * y ≤ b * 2 ^ 32 → r * (x * y) ≤ a * b * 2 ^ 32
product_low h u r a b x y e p q =
    omega (
      arith,
      mul-le-mul_right (x * y) e,
      mul_right_comm r (2 ^ 32) (x * y),
      mul-le-mul p q,
      mul-mul-mul_comm h x u y,
      mul-mul-mul_comm a (2 ^ 32) b (2 ^ 32),
    )

product_high : (h u r a b x y : ℕ) → h * u ≤ r * 2 ^ 32 → a * 2 ^ 32 ≤ h * x → b * 2 ^ 32 ≤ u * y → a * b * 2 ^ 32 ≤ r * (x * y)
product_high h u r a b x y e p q =
    omega (
      arith,
      mul-le-mul_right (x * y) e,
      mul_right_comm r (2 ^ 32) (x * y),
      mul-le-mul p q,
      mul-mul-mul_comm h x u y,
      mul-mul-mul_comm a (2 ^ 32) b (2 ^ 32),
    )

pub near_product : (c d e h u a b x y : ℕ) → (h + c) * (u + d) ≤ (h * u / 2 ^ 32 + e) * 2 ^ 32 → Near c h (ratio a x) → Near d u (ratio b y)
    → Near e (h * u / 2 ^ 32) (ratio (a * b) (x * y))
near_product c d e h u a b x y room p q = record {
  low = product_low h u (h * u / 2 ^ 32) a b x y (omega arith) p.low q.low;
  high = product_high (h + c) (u + d) (h * u / 2 ^ 32 + e) a b x y room p.high q.high;
}

-- ---- the same number as another fraction

pub near_same : (c h a x b y : ℕ) → 0 < x → a * y ≡ b * x → Near c h (ratio a x) → Near c h (ratio b y)
near_same c h a x b y px e p = record {
  low = le_of_mul-le-mul_right {k = x} (omega (arith, mul-le-mul_right y p.low, mul_right_comm h x y, mul_right_comm a (2 ^ 32) y, mul_right_comm b (2 ^ 32) x, e)) px;
  high = le_of_mul-le-mul_right {k = x} (omega (arith, mul-le-mul_right y p.high, mul_right_comm (h + c) x y, mul_right_comm a (2 ^ 32) y, mul_right_comm b (2 ^ 32) x, e)) px;
}

-- ---- the cut

pub near_cut : (c n h : ℕ) (x : Fraction) → 0 < x.bottom → Near c h x → Near c (min h (n * 2 ^ 32)) (cut_to n x)
near_cut c n h x b p = go (leb (n * x.bottom) x.top) (leb-true (n * x.bottom) x.top) (leb-false (n * x.bottom) x.top)
  where
    beyond : n * x.bottom ≤ x.top → n * 2 ^ 32 ≤ h + c
    beyond l = le_of_mul-le-mul_right {k = x.bottom} (omega (arith, p.high, mul_right_comm n (2 ^ 32) x.bottom)) b

    within_low : min h (n * 2 ^ 32) * x.bottom ≤ x.top * 2 ^ 32
    within_low = le_trans (mul-le-mul_right x.bottom (let e : min h (n * 2 ^ 32) ≤ h = omega arith in e)) p.low

    within_high : x.top < n * x.bottom → x.top * 2 ^ 32 ≤ (min h (n * 2 ^ 32) + c) * x.bottom
    within_high l =
        ⊎_elim
        (λ (k : h < n * 2 ^ 32). le_trans p.high (mul-le-mul_right x.bottom (let e : h + c ≤ min h (n * 2 ^ 32) + c = omega arith in e)))
        (λ (k : n * 2 ^ 32 ≤ h).
        le_trans
        (let e : x.top * 2 ^ 32 ≤ n * 2 ^ 32 * x.bottom = omega (arith, mul_right_comm n (2 ^ 32) x.bottom) in e)
        (mul-le-mul_right x.bottom (let e : n * 2 ^ 32 ≤ min h (n * 2 ^ 32) + c = omega arith in e)))
        (less_or_not h (n * 2 ^ 32))

    go : (t : Bool) → (t ≡ true → n * x.bottom ≤ x.top) → (t ≡ false → x.top < n * x.bottom) → Near c (min h (n * 2 ^ 32)) (cond t (ratio n 1) x)
    go true above under = record { low = omega arith; high = omega (arith, beyond (above refl)) }
    go false above under = record { low = within_low; high = within_high (under refl) }
