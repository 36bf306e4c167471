-- A product's sign goes with its factors': with the negative of a factor it is the negative. Assumes nothing.
use Prim.Native.Nat.{ℕ, zero, suc, ◌*◌, ◌+◌, ◌^◌}
use mathlib.Core.Path.{◌≡◌, refl, ap, ◌∙◌}
use mathlib.Core.Bool.{Bool, true, false, not, cond}
use lib.Dec.{eqb, ltb}
use lib.Ieee.{Float, nan, inf, fin, Format, prec, emax, low, up, down, odd, units, round, neg, mul, unlike}

-- ---- rounding goes by the magnitude

odd_negative : (d : ℕ) (s : Bool) (q k l : ℕ) → odd d (not s) q k l ≡ neg (odd d s q k l)
unfolding odd neg
odd_negative d s zero k l = refl
odd_negative d s (suc q) k l = refl

units_negative : (f : Format) (s : Bool) (q k : ℕ) → units f (not s) q k ≡ neg (units f s q k)
unfolding units neg
units_negative f s q k = go (ltb (q * 2 ^ k) (2 ^ (low f + suc (emax f))))
  where
    go : (b : Bool) → cond b (odd (suc (prec f)) (not s) q k (low f)) (inf (not s)) ≡ neg (cond b (odd (suc (prec f)) s q k (low f)) (inf s))
    go true = odd_negative (suc (prec f)) s q k (low f)
    go false = refl

round_negative : (f : Format) (s : Bool) (a b : ℕ) → round f (not s) a b ≡ neg (round f s a b)
unfolding round
round_negative f s a b = units_negative f s _ _

-- ---- products

unlike_left : (s t : Bool) → unlike (not s) t ≡ not (unlike s t)
unlike_left true true = refl
unlike_left true false = refl
unlike_left false true = refl
unlike_left false false = refl

unlike_right : (s t : Bool) → unlike s (not t) ≡ not (unlike s t)
unlike_right true true = refl
unlike_right true false = refl
unlike_right false true = refl
unlike_right false false = refl

-- an infinity times what may be a zero
infinite_negative : (b s t : Bool) → s ≡ not t → cond b nan (inf s) ≡ neg (cond b nan (inf t))
unfolding neg
infinite_negative true s t e = refl
infinite_negative false s t e = ap inf e

-- of the first factor
pub negative_left : (f : Format) (x y : Float) → mul f (neg x) y ≡ neg (mul f x y)
unfolding mul neg
negative_left f nan y = refl
negative_left f (inf s) nan = refl
negative_left f (inf s) (inf t) = ap inf (unlike_left s t)
negative_left f (inf s) (fin t n d) = infinite_negative (eqb n 0) _ _ (unlike_left s t)
negative_left f (fin s m e) nan = refl
negative_left f (fin s m e) (inf t) = infinite_negative (eqb m 0) _ _ (unlike_left s t)
negative_left f (fin s m e) (fin t n d) =
    ap (λ (b : Bool). round f b (m * up e * (n * up d)) (down e * down d)) (unlike_left s t) ∙ round_negative f (unlike s t) _ _

-- of the second
pub negative_right : (f : Format) (x y : Float) → mul f x (neg y) ≡ neg (mul f x y)
unfolding mul neg
negative_right f nan y = refl
negative_right f (inf s) nan = refl
negative_right f (inf s) (inf t) = ap inf (unlike_right s t)
negative_right f (inf s) (fin t n d) = infinite_negative (eqb n 0) _ _ (unlike_right s t)
negative_right f (fin s m e) nan = refl
negative_right f (fin s m e) (inf t) = infinite_negative (eqb m 0) _ _ (unlike_right s t)
negative_right f (fin s m e) (fin t n d) =
    ap (λ (b : Bool). round f b (m * up e * (n * up d)) (down e * down d)) (unlike_right s t) ∙ round_negative f (unlike s t) _ _
