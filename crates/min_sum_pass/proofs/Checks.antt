-- A part that comes back, one check of a pass, skipped or not, from its part as the code reads it, and one turn of each pass over the checks. Assumes nothing.
use mathlib.Core.Path.{◌≡◌, refl, sym, ap, ◌∙◌}
use mathlib.Core.Bool.{Bool, true, false, not, cond}
use mathlib.Core.List.{List, ◌++◌, foldl}
use mathlib.Core.Logic.{⊎_elim}
use Prim.Native.Nat.{ℕ, suc, ◌+◌, ◌-◌, ◌≤◌}
use native.Mathlib.Omega.{arith}
use lib.Dec.{eqb, ltb}
use lib.Ieee.{Float}
use lib.ListN.{length, get_or, take, drop, take-append-drop}
use lib.Seq.{drop-drop}
use Rattle.numbers.specs.Loops.{part, spliced, row}
use Rattle.numbers.proofs.Cases.{either}
use Rattle.numbers.proofs.Turns.{turns_turn}
use Rattle.graph_lists.specs.Graph.{Graph}
use Rattle.graph_lists.specs.Messages.{by_place}
use Rattle.graph_messages.specs.Needs.{walked, of_variables}
use Rattle.min_sum_pass.specs.MinSum.{Messages, messages, check_messages, skipped, raw_posterior, update_variable, update_check, parallel_check, serial_check, checks_to, serial_to}

-- a part written over itself changes nothing
same_part : (a e : ℕ) (xs : List Float) → a ≤ e → spliced xs a e (part a e xs) ≡ xs
same_part a e xs h =
    let whole : a + (e - a) ≡ e = omega arith in
    let rest : drop e xs ≡ drop (e - a) (drop a xs) = sym (drop-drop (e - a) a xs ∙ ap (λ (n : ℕ). drop n xs) whole) in
    ap (λ (l : List Float). take a xs ++ (part a e xs ++ l)) rest
    ∙ ap (λ (l : List Float). take a xs ++ l) (take-append-drop (e - a) (drop a xs))
    ∙ take-append-drop a xs

-- a part that comes back as it was, or as what was sent
pub part_back : (a e : ℕ) (xs sent : List Float) (r : Bool) → a ≤ e
    → take a xs ++ (cond r (part a e xs) sent ++ drop e xs) ≡ cond r xs (spliced xs a e sent)
part_back a e xs sent true h = same_part a e xs h
part_back a e xs sent false h = refl

-- a check, with its part as the code reads it: `few` says that it has too few entries
module _ (checks mechanisms : ℕ) (cv co vm vo : List ℕ) (scale : Float) (syndrome : List ℕ) (c_to_v v_to_c : List Float) (c a e : ℕ) (few : Bool)
    (from : a ≡ get_or co c 0) (to : e ≡ get_or co (suc c) 0) (is : few ≡ ltb (length (part a e cv)) 2) where
  -- then it is skipped
  skips : skipped (walked checks mechanisms cv co vm vo) c ≡ few
  unfolding skipped
  skips = sym (is ∙ rw (from, to))

  -- what it sends
  sends : (out : List Float) → out ≡ spliced c_to_v a e (check_messages scale (not (eqb (get_or syndrome c 0) 0)) (part a e v_to_c))
      → update_check by_place (walked checks mechanisms cv co vm vo) scale syndrome (messages c_to_v v_to_c) c ≡ messages out v_to_c
  unfolding update_check
  sends out w = sym (rw (w, from, to))

  -- a check that is not serial, and is skipped
  parallel_skips : few ≡ true → messages c_to_v v_to_c ≡ parallel_check by_place (walked checks mechanisms cv co vm vo) scale syndrome (messages c_to_v v_to_c) c
  unfolding parallel_check
  parallel_skips h = rw (skips, h)

  -- and that is not
  parallel_sends : (out : List Float) → few ≡ false
      → out ≡ spliced c_to_v a e (check_messages scale (not (eqb (get_or syndrome c 0) 0)) (part a e v_to_c))
      → messages out v_to_c ≡ parallel_check by_place (walked checks mechanisms cv co vm vo) scale syndrome (messages c_to_v v_to_c) c
  unfolding parallel_check
  parallel_sends out h w = rw (skips, h, sends out w)

  -- a serial check that is skipped
  serial_skips : (priors : List Float) → few ≡ true
      → messages c_to_v v_to_c ≡ serial_check by_place (walked checks mechanisms cv co vm vo) scale syndrome priors (messages c_to_v v_to_c) c
  unfolding serial_check
  serial_skips priors h = rw (skips, h)

  -- and that is not
  serial_sends : (priors out : List Float) (u : Messages) → few ≡ false
      → out ≡ spliced c_to_v a e (check_messages scale (not (eqb (get_or syndrome c 0) 0)) (part a e v_to_c))
      → u ≡ foldl (update_variable (of_variables mechanisms vm vo) priors) (messages out v_to_c) (row co c cv)
      → u ≡ serial_check by_place (walked checks mechanisms cv co vm vo) scale syndrome priors (messages c_to_v v_to_c) c
  unfolding serial_check update_variable raw_posterior
  serial_sends priors out u h w t = rw (skips, h, sends out w) t

  -- what the update of a check leaves of the messages to variables
  abbrev sent_by : List Float
  sent_by = cond few c_to_v (spliced c_to_v a e (check_messages scale (not (eqb (get_or syndrome c 0) 0)) (part a e v_to_c)))

  -- a check that is not serial
  pub parallel_is : (out : List Float) → out ≡ sent_by → messages out v_to_c ≡ parallel_check by_place (walked checks mechanisms cv co vm vo) scale syndrome (messages c_to_v v_to_c) c
  parallel_is out w =
      ⊎_elim (λ (h : few ≡ true). ap (λ (l : List Float). messages l v_to_c) (w ∙ rw h) ∙ parallel_skips h) (λ (h : few ≡ false). parallel_sends out h (w ∙ rw h)) (either few)

  -- a serial check that is skipped
  pub serial_skipped : (priors out : List Float) → few ≡ true → out ≡ sent_by
      → messages out v_to_c ≡ serial_check by_place (walked checks mechanisms cv co vm vo) scale syndrome priors (messages c_to_v v_to_c) c
  serial_skipped priors out h w = ap (λ (l : List Float). messages l v_to_c) (w ∙ rw h) ∙ serial_skips priors h

  -- and that is not
  pub serial_sent : (priors out : List Float) (u : Messages) → few ≡ false → out ≡ sent_by
      → u ≡ foldl (update_variable (of_variables mechanisms vm vo) priors) (messages out v_to_c) (row co c cv)
      → u ≡ serial_check by_place (walked checks mechanisms cv co vm vo) scale syndrome priors (messages c_to_v v_to_c) c
  serial_sent priors out u h w t = serial_sends priors out u h (w ∙ rw h) t

-- one check further
pub checks_turn : (g : Graph) (scale : Float) (syndrome : List ℕ) (s t u : Messages) (c : ℕ) → t ≡ checks_to by_place g scale syndrome s c
    → u ≡ parallel_check by_place g scale syndrome t c → u ≡ checks_to by_place g scale syndrome s (c + 1)
unfolding checks_to
checks_turn g scale syndrome s t u c p q = turns_turn _ s t u c p q

-- one serial check further
pub serial_turn : (g : Graph) (scale : Float) (syndrome : List ℕ) (priors : List Float) (s t u : Messages) (c : ℕ) → t ≡ serial_to by_place g scale syndrome priors s c
    → u ≡ serial_check by_place g scale syndrome priors t c → u ≡ serial_to by_place g scale syndrome priors s (c + 1)
unfolding serial_to
serial_turn g scale syndrome priors s t u c p q = turns_turn _ s t u c p q
