-- Numbers that are their own places: what is read and written by them is the part that is read and written by place, and so a check's update is the same by
-- either. Assumes nothing.
use Prim.Native.Nat.{ℕ, zero, suc, ◌+◌, ◌-◌, ◌<◌, ◌≤◌}
use mathlib.Core.Path.{◌≡◌, sym, ◌∙◌, ap}
use mathlib.Core.List.{List, map, ◌++◌, append_assoc}
use native.Mathlib.Omega.{arith}
use lib.Ieee.{Float, nan}
use lib.ListN.{length, get_or, set, take, drop, length-map, get_or-map, get_or-eq_default}
use lib.Seq.{ext_get_or, paste, paste-zero, paste-suc, take-length}
use Rattle.numbers.specs.Loops.{turns, part, spliced, upto}
use Rattle.numbers.proofs.Loops.{length_table, get_or_table, length_part, get_d_part, length_spliced}
use Rattle.graph_lists.specs.Graph.{Graph}
use Rattle.graph_lists.specs.Messages.{Access, by_place}
use Rattle.graph_lists.specs.Sound.{Offsets}
use Rattle.graph_lists.proofs.Cuts.{row_end}
use Rattle.graph_layouts.specs.Numbered.{written_at, by_number}

module _ (a e : ℕ) (all : List Float) (n : ℕ) (h : a ≤ e) (k : e ≤ length all) (many : length all ≡ n) where
  -- the numbers of the part
  abbrev names : List ℕ
  names = part a e (upto n)

  -- are as many as its places
  names_many : length names ≡ e - a
  names_many = length_part a e (upto n) (omega (arith, length_table n (λ (i : ℕ). i)))

  -- and each its own, whatever is taken past their end
  name_at : (i d : ℕ) → i < e - a → get_or names i d ≡ a + i
  name_at i d l = get_d_part a e (upto n) i d (omega arith) ∙ get_or_table n (λ (j : ℕ). j) (a + i) d (omega arith)

  -- read by them
  pub part_read : part a e all ≡ map (λ (m : ℕ). get_or all m nan) names
  part_read =
      ext_get_or nan (part a e all) (map read names) (length_part a e all k ∙ sym (length-map names read ∙ names_many)) (λ i l. at i (omega (arith, length_part a e all k)))
    where
      read : ℕ → Float
      read m = get_or all m nan

      at : (i : ℕ) → i < e - a → get_or (part a e all) i nan ≡ get_or (map read names) i nan
      at i l =
          get_d_part a e all i nan (omega arith)
          ∙ sym (ap (λ (x : Float). get_or (map read names) i x) (sym (get_or-eq_default all nan (omega (arith, many))))
          ∙ get_or-map read names i n
          ∙ ap read (name_at i n l))

  -- the first j of `new` written by them
  written_to : (new : List Float) → length new ≡ e - a → (j : ℕ) → j ≤ e - a
      → turns j (λ i l. set l (get_or names i 0) (get_or new i nan)) all ≡ paste all a new j
  written_to new m zero l = paste-zero all a new
  written_to new m (suc j) l =
      ap (λ (x : ℕ). set (turns j (λ i u. set u (get_or names i 0) (get_or new i nan)) all) x (get_or new j nan)) (name_at j 0 l)
      ∙ ap (λ (x : List Float). set x (a + j) (get_or new j nan)) (written_to new m j (omega arith))
      ∙ paste-suc all a new j nan (omega arith) (omega arith)

  -- and all of it
  pub part_written_at : (new : List Float) → length new ≡ e - a → spliced all a e new ≡ written_at names all new
  unfolding written_at
  part_written_at new m =
      sym (ap (λ (x : ℕ). turns x (λ i l. set l (get_or names i 0) (get_or new i nan)) all) names_many
      ∙ written_to new m (e - a) (omega arith)
      ∙ ap (λ (x : ℕ). (take a all ++ take x new) ++ drop (a + x) all) (sym m)
      ∙ ap (λ (x : List Float). (take a all ++ x) ++ drop (a + length new) all) (take-length new)
      ∙ ap (λ (x : ℕ). (take a all ++ new) ++ drop x all) last
      ∙ append_assoc (take a all) new (drop e all))
    where
      last : a + length new ≡ e
      last = omega arith

-- by number, where each is its own place
abbrev pub own : Graph → Access
own g = by_number (upto (length g.check_var))

module _ (g : Graph) (cut : Offsets g.checks (length g.check_var) g.check_offset) (c : ℕ) (h : c < g.checks) where
  -- where the part of the check begins, and where it ends
  abbrev start : ℕ
  start = get_or g.check_offset c 0

  abbrev end : ℕ
  end = get_or g.check_offset (suc c) 0

  -- it lies within a list of a message for each edge
  room : (all : List Float) → length all ≡ length g.check_var → end ≤ length all
  room all many = omega (arith, many, row_end g.checks (length g.check_var) g.check_offset cut c h)

  -- the check's messages are read alike
  pub read_agrees : (all : List Float) → length all ≡ length g.check_var → by_place.messages_of g c all ≡ (own g).messages_of g c all
  read_agrees all many = part_read start end all (length g.check_var) (cut.rises c h) (room all many) many

  -- what a check makes of its messages of one list, and writes into another
  module _ (make : List Float → List Float) (as_many : (xs : List Float) → length (make xs) ≡ length xs) (from to : List Float)
      (many : length from ≡ length g.check_var) (many' : length to ≡ length g.check_var) where
    -- as many as its places
    made_many : length (make (by_place.messages_of g c from)) ≡ end - start
    made_many = as_many (by_place.messages_of g c from) ∙ length_part start end from (room from many)

    -- is written alike
    pub update_agrees : by_place.with_messages g c to (make (by_place.messages_of g c from)) ≡ (own g).with_messages g c to (make ((own g).messages_of g c from))
    update_agrees =
        part_written_at start end to (length g.check_var) (cut.rises c h) (room to many') many' (make (by_place.messages_of g c from)) made_many
        ∙ ap (λ (xs : List Float). (own g).with_messages g c to (make xs)) (read_agrees from many)

    -- and keeps the length
    pub update_many : length (by_place.with_messages g c to (make (by_place.messages_of g c from))) ≡ length g.check_var
    update_many = length_spliced to start end (make (by_place.messages_of g c from)) (cut.rises c h) (room to many') made_many ∙ many'
