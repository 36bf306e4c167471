-- The sum that is worked out from the inside out stays near the partial sum: within the brackets by 8, the whole by 9. Assumes nothing.
use mathlib.Core.Path.{◌≡◌, sym, ap, ◌∙◌}
use Prim.Native.Nat.{ℕ, zero, suc, ◌+◌, ◌*◌, ◌/◌, ◌^◌, ◌≤◌, ◌<◌}
use native.Mathlib.Nat.{div-le_self, pow-suc, pow-zero, mul_assoc, mul-le-mul_left, mul-le-mul_right, mul-le-mul, mul-pos, one-mul, one-le-pow}
use native.Mathlib.Omega.{arith}
use Rattle.probabilities.specs.Fractions.{Fraction, ratio, plus, Near}
use Rattle.probabilities.specs.Logarithm.{terms, terms_from, partial_sum}
use Rattle.probabilities.specs.Scaled.{nested, series}
use Rattle.probabilities.proofs.Nears.{near_plus, near_product, near_one_over, near_same}

-- ---- bounds

-- t up to 1 / 3 has a square up to 1 / 9
pub squared_small : (t : ℕ) → 3 * t ≤ 2 ^ 32 → 9 * (t * t / 2 ^ 32) ≤ 2 ^ 32
squared_small t h = omega (arith, mul-le-mul h h, mul_assoc 3 t (3 * t), mul-le-mul_left t h, mul-le-mul_right t h)

-- the brackets hold 9 / 8 at most
pub nested_small : (n j u : ℕ) → 9 * u ≤ 2 ^ 32 → 8 * nested n j u ≤ 9 * 2 ^ 32
unfolding nested
nested_small zero j u h = omega arith
nested_small (suc n) j u h =
    omega (arith, nested_small n (suc j) u h, div-le_self (2 ^ 32) (2 * j + 1), mul-le-mul_right (nested n (suc j) u) h, mul_assoc 9 u (nested n (suc j) u))

-- ---- the brackets of a fraction

-- 1 / (2 j + 1) + f / e (1 / (2 j + 3) + f / e (..)), n terms
unfoldable brackets : ℕ → ℕ → ℕ → ℕ → Fraction
brackets zero j f e = ratio 0 1
brackets (suc n) j f e = plus (ratio 1 (2 * j + 1)) (ratio (f * (brackets n (suc j) f e).top) (e * (brackets n (suc j) f e).bottom))

brackets_bottom : (n j f e : ℕ) → 0 < e → 0 < (brackets n j f e).bottom
unfolding brackets
brackets_bottom zero j f e p = omega arith
brackets_bottom (suc n) j f e p = mul-pos {m = 2 * j + 1} (omega arith) (mul-pos p (brackets_bottom n (suc j) f e p))

near_brackets : (n j u f e : ℕ) → 9 * u ≤ 2 ^ 32 → Near 4 u (ratio f e) → Near 8 (nested n j u) (brackets n j f e)
unfolding nested brackets
near_brackets zero j u f e small near = record { low = omega arith; high = omega arith }
near_brackets (suc n) j u f e small near =
    let s = nested n (suc j) u in
    let x = brackets n (suc j) f e in
    near_plus 1 7 (2 ^ 32 / (2 * j + 1)) (u * s / 2 ^ 32) (ratio 1 (2 * j + 1)) (ratio (f * x.top) (e * x.bottom)) (near_one_over (2 * j + 1) (omega arith))
    (near_product 4 8 7 u s f x.top e x.bottom (omega (arith, nested_small n (suc j) u small)) near (near_brackets n (suc j) u f e small near))

-- ---- with the brackets multiplied out

pow_one : (n : ℕ) → n ^ 1 ≡ n
pow_one n = pow-suc n 0 ∙ ap (λ (m : ℕ). m * n) (pow-zero n) ∙ one-mul n

-- the next odd power
pow_next : (n j : ℕ) → n ^ (2 * suc j + 1) ≡ n ^ (2 * j + 1) * (n * n)
pow_next n j =
    let e : 2 * suc j + 1 ≡ suc (suc (2 * j + 1)) = omega arith in
    ap (λ (m : ℕ). n ^ m) e ∙ pow-suc n (suc (2 * j + 1)) ∙ ap (λ (m : ℕ). m * n) (pow-suc n (2 * j + 1)) ∙ mul_assoc (n ^ (2 * j + 1)) n n

-- one pair of brackets: where X / Y is A f x / (D e y), A / (w D) + X / Y is A (1 / w + f x / (e y)) / D
multiplied : (w A D f e x y X Y : ℕ) → X * (D * e * y) ≡ A * f * x * Y → (A * Y + X * (w * D)) * (D * (w * (e * y))) ≡ A * (1 * (e * y) + f * x * w) * (w * D * Y)
multiplied w A D f e x y X Y h = omega (arith, ap (λ (m : ℕ). m * (w * w * D)) h)

module _ (a d : ℕ) where
  -- the terms from the one numbered j on are t ^ (2 j + 1) times the brackets
  terms_brackets : (n j : ℕ) → (terms_from n j (ratio a d)).top * (d ^ (2 * j + 1) * (brackets n j (a * a) (d * d)).bottom) ≡ a ^ (2 * j + 1) * (brackets n j (a * a) (d * d)).top * (terms_from n j (ratio a d)).bottom
  unfolding terms_from brackets
  terms_brackets zero j = omega arith
  terms_brackets (suc n) j =
      let x = brackets n (suc j) (a * a) (d * d) in
      let X = terms_from n (suc j) (ratio a d) in
      let i : X.top * (d ^ (2 * j + 1) * (d * d) * x.bottom) ≡ a ^ (2 * j + 1) * (a * a) * x.top * X.bottom =
      ap (λ (m : ℕ). X.top * (m * x.bottom)) (sym (pow_next d j)) ∙ terms_brackets n (suc j) ∙ ap (λ (m : ℕ). m * x.top * X.bottom) (pow_next a j) in
      multiplied (2 * j + 1) (a ^ (2 * j + 1)) (d ^ (2 * j + 1)) (a * a) (d * d) x.top x.bottom X.top X.bottom i

  -- so the partial sum is t times them
  sum_brackets : a * (brackets terms 0 (a * a) (d * d)).top * (partial_sum (ratio a d)).bottom ≡ (partial_sum (ratio a d)).top * (d * (brackets terms 0 (a * a) (d * d)).bottom)
  unfolding partial_sum
  sum_brackets =
      let x = brackets terms 0 (a * a) (d * d) in
      let X = terms_from terms 0 (ratio a d) in
      ap (λ (m : ℕ). m * x.top * X.bottom) (sym (pow_one a)) ∙ sym (terms_brackets terms 0) ∙ ap (λ (m : ℕ). X.top * (m * x.bottom)) (pow_one d)

-- ---- the whole

terms_bottom : (n j a d : ℕ) → 0 < d → 0 < (terms_from n j (ratio a d)).bottom
unfolding terms_from
terms_bottom zero j a d p = omega arith
terms_bottom (suc n) j a d p = mul-pos (mul-pos (let e : 0 < 2 * j + 1 = omega arith in e) (one-le-pow (2 * j + 1) d p)) (terms_bottom n (suc j) a d p)

pub sum_bottom : (a d : ℕ) → 0 < d → 0 < (partial_sum (ratio a d)).bottom
unfolding partial_sum
sum_bottom a d p = terms_bottom terms 0 a d p

pub near_series : (t a d : ℕ) → 0 < d → 3 * t ≤ 2 ^ 32 → Near 4 t (ratio a d) → Near 9 (series t) (partial_sum (ratio a d))
unfolding series
near_series t a d p small near =
    let u = t * t / 2 ^ 32 in
    let s = nested terms 0 u in
    let x = brackets terms 0 (a * a) (d * d) in
    let y = partial_sum (ratio a d) in
    let little = squared_small t small in
    let square : Near 4 u (ratio (a * a) (d * d)) = near_product 4 4 4 t t a a d d (omega arith) near near in
    near_same 9 (t * s / 2 ^ 32) (a * x.top) (d * x.bottom) y.top y.bottom (mul-pos p (brackets_bottom terms 0 (a * a) (d * d) (mul-pos p p))) (sum_brackets a d)
    (near_product 4 8 9 t s a x.top d x.bottom (omega (arith, nested_small terms 0 u little)) near (near_brackets terms 0 u (a * a) (d * d) little square))

-- and the partial sum of t up to 1 / 3 is 3 / 8 at most
pub series_small : (t : ℕ) → 3 * t ≤ 2 ^ 32 → 8 * series t ≤ 3 * 2 ^ 32
unfolding series
series_small t h =
    let s = nested terms 0 (t * t / 2 ^ 32) in
    omega (arith, nested_small terms 0 (t * t / 2 ^ 32) (squared_small t h), mul-le-mul_right s h, mul_assoc 3 t s)
