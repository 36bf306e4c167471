-- What `leading` and `twos` make of a ratio, and that a power of two in both its numbers changes nothing. Assumes nothing.
use mathlib.Core.Path.{◌≡◌, sym, ap, ◌∙◌, subst}
use mathlib.Core.Logic.{⊎_elim}
use Prim.Native.Nat.{ℕ, zero, suc, ◌+◌, ◌-◌, ◌*◌, ◌/◌, ◌^◌, ◌≤◌, ◌<◌}
use native.Mathlib.Nat.{mul_assoc, mul_comm, mul_right_comm, mul-le-mul_right, mul-lt-mul_of_pos_right, eq_of_mul-eq-mul_right, le-div_iff_mul-le, div-lt_iff_lt-mul, div-add-mod', mod-lt, mul-pos, pow-suc, le_trans, lt_of_lt_of_le}
use native.Mathlib.Omega.{arith}
use lib.Pow.{pow_pos, pow_mono, pow-add}
use lib.Ieee.{size}
use lib.Ieee.Digits.{size-lt, size-le, size_reaches}
use Rattle.numbers.proofs.Cases.{less_or_not}
use Rattle.probabilities.specs.Logarithm.{twos}
use Rattle.probabilities.specs.Scaled.{leading, scaled_after, scaled_size}
use Rattle.probabilities.specs.Ratios.{Split, cut_sum}

-- ---- the powers of two

-- a number from 2 ^ k on has more than k digits
size_above : (k n : ℕ) → 2 ^ k ≤ n → k < size n
size_above k n h =
    ⊎_elim
    (λ (g : k < size n). g)
    (λ (g : size n ≤ k). absurd (let e : n < n = lt_of_lt_of_le (size-lt n) (le_trans (pow_mono g) h) in let z : ⊥ = omega arith in z))
    (less_or_not k (size n))

-- a ratio from 2 ^ k on gives k or more
pub twos_least : (k a b : ℕ) → 0 < b → b * 2 ^ k ≤ a → k ≤ twos a b
unfolding twos
twos_least k a b p h = omega (arith, size_above k (a / b) ((le-div_iff_mul-le p).1 (subst (λ (n : ℕ). n ≤ a) (mul_comm b (2 ^ k)) h)))

-- and one below twice that gives k
pub twos_is : (k a b : ℕ) → 0 < b → b * 2 ^ k ≤ a → a < 2 * (b * 2 ^ k) → twos a b ≡ k
unfolding twos
twos_is k a b p h g =
    let e : 2 ^ suc k * b ≡ 2 * (b * 2 ^ k) = omega (arith, ap (λ (n : ℕ). n * b) (pow-suc 2 k), mul_right_comm (2 ^ k) 2 b, mul_comm b (2 ^ k)) in
    let l : a / b < 2 ^ suc k = (div-lt_iff_lt-mul p).1 (subst (λ (n : ℕ). a < n) (sym e) g) in
    omega (arith, size-le (a / b) (suc k) l, size_above k (a / b) ((le-div_iff_mul-le p).1 (subst (λ (n : ℕ). n ≤ a) (mul_comm b (2 ^ k)) h)))

-- so it is the greatest: b * 2 ^ k is from a half of a to a
module _ (a b : ℕ) (some : 0 < b) (order : b ≤ a) where
  pub twos_under : b * 2 ^ twos a b ≤ a
  unfolding twos
  twos_under =
      let one : 2 ^ 0 ≤ a / b = (le-div_iff_mul-le some).1 (omega arith) in
      let r : 2 ^ (size (a / b) - 1) ≤ a / b = size_reaches (a / b) (size (a / b) - 1) (omega (arith, size_above 0 (a / b) one)) in
      subst (λ (n : ℕ). n ≤ a) (mul_comm (2 ^ (size (a / b) - 1)) b) ((le-div_iff_mul-le some).0 r)

  pub twos_double : a < 2 * (b * 2 ^ twos a b)
  unfolding twos
  twos_double =
      let one : 2 ^ 0 ≤ a / b = (le-div_iff_mul-le some).1 (omega arith) in
      let e : suc (size (a / b) - 1) ≡ size (a / b) = omega (arith, size_above 0 (a / b) one) in
      let l : a < 2 ^ size (a / b) * b = (div-lt_iff_lt-mul some).0 (size-lt (a / b)) in
      omega (arith, l, ap (λ (n : ℕ). 2 ^ n * b) e, ap (λ (n : ℕ). n * b) (pow-suc 2 (size (a / b) - 1)))

-- ---- the leading digits

-- a quotient by its two bounds
quotient_is : (x m h : ℕ) → 0 < m → h * m ≤ x → x < (h + 1) * m → x / m ≡ h
quotient_is x m h p l u =
    omega (arith, (le-div_iff_mul-le {k = m} p).1 l, (div-lt_iff_lt-mul {k = m} p).1 u)

-- a number from 2 ^ k to below 2 ^ (k + 1) has k + 1 digits
size_is : (k n : ℕ) → 2 ^ k ≤ n → n < 2 ^ suc k → size n ≡ suc k
size_is k n l u = omega (arith, size_above k n l, size-le n (suc k) u)

-- `leading` by its two bounds
pub leading_is : (b n h : ℕ) → h * 2 ^ size b ≤ n * 2 ^ 32 → n * 2 ^ 32 < (h + 1) * 2 ^ size b → leading b n ≡ h
unfolding leading
leading_is b n h l u = quotient_is (n * 2 ^ 32) (2 ^ size b) h (pow_pos (size b)) l u

pub leading_low : (b n : ℕ) → leading b n * 2 ^ size b ≤ n * 2 ^ 32
unfolding leading
leading_low b n = omega (arith, div-add-mod' (n * 2 ^ 32) (2 ^ size b))

pub leading_high : (b n : ℕ) → n * 2 ^ 32 < (leading b n + 1) * 2 ^ size b
unfolding leading
leading_high b n = omega (arith, div-add-mod' (n * 2 ^ 32) (2 ^ size b), mod-lt (n * 2 ^ 32) (pow_pos (size b)))

-- of a number itself they are 32 digits
module _ (c : ℕ) (some : 0 < c) where
  pub leading_bits : 2 ^ 31 ≤ leading c c
  unfolding leading
  leading_bits =
      let p : 0 < size c = size_above 0 c some in
      let e : suc (size c - 1) ≡ size c = omega arith in
      (le-div_iff_mul-le (pow_pos (size c))).1
      (omega (arith, size_reaches c (size c - 1) (omega arith), ap (λ (n : ℕ). 2 ^ n) e, pow-suc 2 (size c - 1)))

  pub leading_fits : leading c c < 2 ^ 32
  unfolding leading
  leading_fits = (div-lt_iff_lt-mul (pow_pos (size c))).1 (omega (arith, size-lt c))

-- ---- what the code takes apart

module _ (a b k h l : ℕ) (some : 0 < b) (s : Split a b k h l) where
  split_size : size (b * 2 ^ k) ≡ suc (31 + s.digits)
  split_size =
      size_is (31 + s.digits) (b * 2 ^ k)
      (omega (arith, s.low_low, mul-le-mul_right (2 ^ s.digits) s.bits, pow-add 2 31 s.digits))
      (omega (arith, s.low_high, mul-le-mul_right (2 ^ s.digits) (let e : l + 1 ≤ 2 ^ 32 = omega (arith, s.fits) in e), pow-add 2 31 s.digits))

  -- its digits are 32 above the unit's
  split_power : 2 ^ size (b * 2 ^ k) ≡ 2 ^ 32 * 2 ^ s.digits
  split_power =
      let e : suc (31 + s.digits) ≡ 32 + s.digits = omega arith in
      ap (λ (n : ℕ). 2 ^ n) (split_size ∙ e) ∙ pow-add 2 32 s.digits

  split_high : leading (b * 2 ^ k) a ≡ h
  split_high =
      leading_is (b * 2 ^ k) a h
      (omega (arith, ap (λ (n : ℕ). h * n) split_power, s.high_low))
      (omega (arith, ap (λ (n : ℕ). (h + 1) * n) split_power, s.high_high))

  split_low : leading (b * 2 ^ k) (b * 2 ^ k) ≡ l
  split_low =
      leading_is (b * 2 ^ k) (b * 2 ^ k) l
      (omega (arith, ap (λ (n : ℕ). l * n) split_power, s.low_low))
      (omega (arith, ap (λ (n : ℕ). (l + 1) * n) split_power, s.low_high))

  -- and what is put together of them is the definition's
  pub split_size_of : cut_sum k h l ≡ scaled_size a b
  unfolding cut_sum scaled_size scaled_after
  split_size_of = rw (twos_is k a b some s.least s.double, split_high, split_low)

-- ---- a power of two in both

module _ (a b j : ℕ) (some : 0 < b) (order : b ≤ a) where
  abbrev k : ℕ
  k = twos a b

  moved : (n : ℕ) → n * 2 ^ j * 2 ^ k ≡ n * 2 ^ k * 2 ^ j
  moved n = mul_right_comm n (2 ^ j) (2 ^ k)

  twos_scale : twos (a * 2 ^ j) (b * 2 ^ j) ≡ k
  twos_scale =
      twos_is k (a * 2 ^ j) (b * 2 ^ j) (mul-pos some (pow_pos j))
      (omega (arith, moved b, mul-le-mul_right (2 ^ j) (twos_under a b some order)))
      (omega (arith, moved b, mul-lt-mul_of_pos_right (twos_double a b some order) (pow_pos j), mul_assoc 2 (b * 2 ^ k) (2 ^ j)))

  size_scale : (n : ℕ) → 0 < n → size (n * 2 ^ j) ≡ size n + j
  size_scale n p =
      let q : 0 < size n = size_above 0 n p in
      let e : suc (size n - 1) ≡ size n = omega arith in
      let f : suc (size n - 1 + j) ≡ size n + j = omega arith in
      size_is (size n - 1 + j) (n * 2 ^ j)
      (omega (arith, pow-add 2 (size n - 1) j, mul-le-mul_right (2 ^ j) (size_reaches n (size n - 1) (omega arith))))
      (omega (arith, ap (λ (m : ℕ). 2 ^ m) f, pow-add 2 (size n) j, mul-lt-mul_of_pos_right (size-lt n) (pow_pos j)))
      ∙ f

  leading_scale : (c n : ℕ) → 0 < c → leading (c * 2 ^ j) (n * 2 ^ j) ≡ leading c n
  leading_scale c n p =
      let e : 2 ^ size (c * 2 ^ j) ≡ 2 ^ size c * 2 ^ j = ap (λ (m : ℕ). 2 ^ m) (size_scale c p) ∙ pow-add 2 (size c) j in
      leading_is (c * 2 ^ j) (n * 2 ^ j) (leading c n)
      (omega (arith, ap (λ (m : ℕ). leading c n * m) e, mul-le-mul_right (2 ^ j) (leading_low c n)))
      (omega (arith, ap (λ (m : ℕ). (leading c n + 1) * m) e, mul-lt-mul_of_pos_right (leading_high c n) (pow_pos j)))

  pub scaled_scale : scaled_size (a * 2 ^ j) (b * 2 ^ j) ≡ scaled_size a b
  unfolding scaled_size scaled_after
  scaled_scale =
      let p : 0 < b * 2 ^ k = mul-pos some (pow_pos k) in
      rw (twos_scale, moved b, leading_scale (b * 2 ^ k) a p, leading_scale (b * 2 ^ k) (b * 2 ^ k) p)

-- two ratios whose numbers differ by one power of two
pub scaled_same : (a b c d x y : ℕ) → 0 < b → b ≤ a → a * 2 ^ y ≡ c * 2 ^ x → b * 2 ^ y ≡ d * 2 ^ x → scaled_size a b ≡ scaled_size c d
scaled_same a b c d x y some order e f =
    ⊎_elim
    (λ (g : x < y).
    sym (scaled_scale a b (y - x) some order)
    ∙ ap (λ (n : ℕ). scaled_size n (b * 2 ^ (y - x))) (less a c x y (omega arith) e)
    ∙ ap (λ (n : ℕ). scaled_size c n) (less b d x y (omega arith) f))
    (λ (g : y ≤ x).
    let p = less c a y x g (sym e) in
    let q = less d b y x g (sym f) in
    ap (λ (n : ℕ). scaled_size n b) (sym p)
    ∙ ap (λ (n : ℕ). scaled_size (c * 2 ^ (x - y)) n) (sym q)
    ∙ scaled_scale c d (x - y) (positive (x - y) q) (ordered (x - y) p q))
    (less_or_not x y)
  where
    -- the one with the lesser power is a multiple of the other
    less : (n m i l : ℕ) → i ≤ l → n * 2 ^ l ≡ m * 2 ^ i → n * 2 ^ (l - i) ≡ m
    less n m i l h g =
        let j : l - i + i ≡ l = omega arith in
        eq_of_mul-eq-mul_right (2 ^ i) (pow_pos i) (n * 2 ^ (l - i)) m
        (mul_assoc n (2 ^ (l - i)) (2 ^ i) ∙ ap (λ (k : ℕ). n * k) (sym (pow-add 2 (l - i) i) ∙ ap (λ (k : ℕ). 2 ^ k) j) ∙ g)

    positive : (j : ℕ) → d * 2 ^ j ≡ b → 0 < d
    positive j q = go d q
      where
        go : (n : ℕ) → n * 2 ^ j ≡ b → 0 < n
        go zero r = absurd (let z : ⊥ = omega (arith, r) in z)
        go (suc n) r = omega arith

    ordered : (j : ℕ) → c * 2 ^ j ≡ a → d * 2 ^ j ≡ b → d ≤ c
    ordered j p q =
        ⊎_elim
        (λ (g : c < d). absurd (let z : ⊥ = omega (arith, mul-lt-mul_of_pos_right g (pow_pos j)) in z))
        (λ (g : d ≤ c). g)
        (less_or_not c d)
