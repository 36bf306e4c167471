-- A place within or outside a part of a list, and parts that do not meet: a store outside a part leaves it, and two parts may be replaced in either order.
-- Assumes nothing.
use Prim.Native.Nat.{ℕ, ◌+◌, ◌-◌, ◌<◌, ◌≤◌}
use mathlib.Core.Path.{◌≡◌, sym, ◌∙◌, ap}
use mathlib.Core.List.{List}
use mathlib.Core.Logic.{inl, inr}
use native.Mathlib.Omega.{arith}
use native.Mathlib.Decide.{dec_lt}
use lib.ListN.{length, get_or, take, drop, set}
use lib.Seq.{drop-set-lt, drop-set-add, take-set-le, ext_get_or}
use Rattle.numbers.specs.Loops.{part, spliced}
use Rattle.numbers.proofs.Loops.{Outside, length_spliced, spliced_out, spliced_in}

-- i lies outside a .. e, or within it, j after a
pub data Stands (a e i : ℕ) : Type 0 where
  out : Outside a e i → Stands a e i
  within : (j : ℕ) → i ≡ a + j → a + j < e → Stands a e i

-- either
pub stands : (a e i : ℕ) → Stands a e i
stands a e i = go (dec_lt i a) (dec_lt i e)
  where
    go : Dec (i < a) → Dec (i < e) → Stands a e i
    go (yes h) k = out (inl h)
    go (no h) (yes k) = within (i - a) (omega arith) (omega arith)
    go (no h) (no k) = out (inr (omega arith))

module _ {A : Type 0} where
  -- a store outside a part leaves it
  pub part_set : (a e : ℕ) (xs : List A) (i : ℕ) (x : A) → a ≤ e → Outside a e i → part a e (set xs i x) ≡ part a e xs
  part_set a e xs i x h (inl k) = ap (take (e - a)) (drop-set-lt a xs i x k)
  part_set a e xs i x h (inr k) =
      let q : i ≡ a + (i - a) = omega arith in
      ap (λ n. take (e - a) (drop a (set xs n x))) q
      ∙ ap (take (e - a)) (drop-set-add a xs (i - a) x)
      ∙ take-set-le (e - a) (drop a xs) (i - a) x (omega arith)

  -- two parts that do not meet may be replaced in either order
  pub spliced_swap : (xs : List A) (d : A) (a e b f : ℕ) (p q : List A) → a ≤ e → e ≤ b → b ≤ f → f ≤ length xs → length p ≡ e - a → length q ≡ f - b
      → spliced (spliced xs a e p) b f q ≡ spliced (spliced xs b f q) a e p
  spliced_swap xs d a e b f p q h₁ h₂ h₃ h₄ lp lq = ext_get_or d L R (len_l ∙ sym len_r) (λ i _. go i (stands a e i) (stands b f i))
    where
      X : List A
      X = spliced xs a e p

      Y : List A
      Y = spliced xs b f q

      L : List A
      L = spliced X b f q

      R : List A
      R = spliced Y a e p

      len_x : length X ≡ length xs
      len_x = length_spliced xs a e p h₁ (omega arith) lp

      len_y : length Y ≡ length xs
      len_y = length_spliced xs b f q h₃ h₄ lq

      f_x : f ≤ length X
      f_x = omega (arith, len_x)

      e_y : e ≤ length Y
      e_y = omega (arith, len_y)

      len_l : length L ≡ length xs
      len_l = length_spliced X b f q h₃ f_x lq ∙ len_x

      len_r : length R ≡ length xs
      len_r = length_spliced Y a e p h₁ e_y lp ∙ len_y

      go : (i : ℕ) → Stands a e i → Stands b f i → get_or L i d ≡ get_or R i d
      go i (out o) (out u) =
          spliced_out X b f q h₃ f_x lq i d u ∙ spliced_out xs a e p h₁ (omega arith) lp i d o
          ∙ sym (spliced_out Y a e p h₁ e_y lp i d o ∙ spliced_out xs b f q h₃ h₄ lq i d u)
      go i (out o) (within j s r) =
          rw s
          (spliced_in X b f q h₃ f_x lq j d r
          ∙ sym (spliced_out Y a e p h₁ e_y lp (b + j) d (inr (omega arith)) ∙ spliced_in xs b f q h₃ h₄ lq j d r))
      go i (within j s r) (out u) =
          rw s
          (spliced_out X b f q h₃ f_x lq (a + j) d (inl (omega arith)) ∙ spliced_in xs a e p h₁ (omega arith) lp j d r
          ∙ sym (spliced_in Y a e p h₁ e_y lp j d r))
      go i (within j s r) (within j' s' r') = absurd (omega arith)
