-- The steps of a Relay iteration change places where they touch no list at a common place. Assumes nothing.
use Prim.Native.Nat.{ℕ, suc, ◌+◌, ◌-◌, ◌<◌, ◌≤◌}
use mathlib.Core.Path.{◌≡◌, refl, sym, ◌∙◌, ap}
use mathlib.Core.Bool.{false, not}
use mathlib.Core.List.{List, [], ◌∷◌, foldl}
use native.Mathlib.Omega.{arith}
use lib.Dec.{eqb}
use lib.Ieee.{Float, nan}
use lib.ListN.{length, get_or, set}
use lib.Seq.{set_comm}
use borrow.Author.Tests.{eqb-false}
use Rattle.numbers.specs.Floats.{◌+ᶠ◌, ◌-ᶠ◌, zero⁻}
use Rattle.numbers.specs.Loops.{part, row, spliced}
use Rattle.numbers.proofs.Loops.{Outside, length_part, get_d_part, length_spliced, spliced_out}
use Rattle.graph_lists.specs.Lists.{has}
use Rattle.graph_lists.specs.Graph.{Graph, check_entries, var_entries}
use Rattle.graph_lists.specs.Messages.{by_place, total}
use Rattle.graph_lists.proofs.Sound.{Sound}
use Rattle.graph_lists.proofs.Cuts.{offsets_rise, row_end}
use Rattle.relay_settings.specs.declared.Clip.{Clip}
use Rattle.relay_check.specs.Check.{check_messages}
use Rattle.relay_step.specs.Step.{State, state, update_check, written, update_variable, serial_check}
use Rattle.relay_orders.specs.Order.{shares}
use Rattle.relay_orders.proofs.All.{All, nil, cons, all_map, all_places, all_at, all_head, all_tail, any_none, or_left, or_right}
use Rattle.relay_step.proofs.Lengths.{length_sent, written_length}
use Rattle.relay_step.proofs.Parts.{Stands, out, within, stands, part_set, spliced_swap}

-- ---- what the graph and the state are like

-- the message m stands at a check's entry that names the mechanism v
record Owns (vars : List ℕ) (v m : ℕ) : Type 0 where
  inside : m < length vars
  owner : get_or vars m 0 ≡ v

-- a state with a message for each edge, both ways: refusal 22 is for all others
pub record Sized (g : Graph) (s : State) : Type 0 where
  pub out : length s.c_to_v ≡ length g.check_var
  pub back : length s.v_to_c ≡ length g.check_var

-- ---- lists of messages

-- a store elsewhere may come before or after
written_set : (p : Float) (c_to_v : List Float) (m : ℕ) (l : List Float) (x : Float) {ms : List ℕ} → All (λ k. m ≡ k → ⊥) ms
    → written p c_to_v (set l m x) ms ≡ set (written p c_to_v l ms) m x
unfolding written
written_set p c_to_v m l x nil = refl
written_set p c_to_v m l x (cons {x = k} {xs = ms} h t) =
    ap (λ u. written p c_to_v u ms) (set_comm l m k x (p -ᶠ get_or c_to_v k nan) h) ∙ written_set p c_to_v m (set l k (p -ᶠ get_or c_to_v k nan)) x t

-- two writings at other places change places
written_swap : (p q : Float) (c_to_v : List Float) (ms : List ℕ) (l : List Float) {ns : List ℕ} → All (λ n. All (λ m. n ≡ m → ⊥) ms) ns
    → written p c_to_v (written q c_to_v l ns) ms ≡ written q c_to_v (written p c_to_v l ms) ns
unfolding written
written_swap p q c_to_v ms l nil = refl
written_swap p q c_to_v ms l (cons {x = n} {xs = ns} h t) =
    let x = q -ᶠ get_or c_to_v n nan in
    written_swap p q c_to_v ms (set l n x) t ∙ ap (λ u. written q c_to_v u ns) (written_set p c_to_v n l x h)

-- the message m is the same in both lists
abbrev Same : List Float → List Float → ℕ → Type 0
Same c d m = get_or c m nan ≡ get_or d m nan

-- only the messages that are named count
written_same : (p : Float) (c d l : List Float) {ms : List ℕ} → All (Same c d) ms → written p c l ms ≡ written p d l ms
unfolding written
written_same p c d l nil = refl
written_same p c d l (cons {x = m} {xs = ms} h t) =
    ap (λ x. written p c (set l m (p -ᶠ x)) ms) h ∙ written_same p c d (set l m (p -ᶠ get_or d m nan)) t

-- the same of a sum
sum_same : (c d : List Float) (t : Float) {ms : List ℕ} → All (Same c d) ms
    → foldl (λ (u : Float) (m : ℕ). u +ᶠ get_or c m nan) t ms ≡ foldl (λ (u : Float) (m : ℕ). u +ᶠ get_or d m nan) t ms
sum_same c d t nil = refl
sum_same c d t (cons {x = m} {xs = ms} h hs) =
    ap (λ x. foldl (λ (u : Float) (n : ℕ). u +ᶠ get_or c n nan) (t +ᶠ x) ms) h ∙ sum_same c d (t +ᶠ get_or d m nan) hs

-- and of the total
total_same : (c d : List Float) {ms : List ℕ} → All (Same c d) ms → total c ms ≡ total d ms
unfolding total
total_same c d h = sum_same c d zero⁻ h

-- a part that is not written stays
part_written : (a e : ℕ) (p : Float) (c_to_v l : List Float) {ms : List ℕ} → a ≤ e → All (Outside a e) ms → part a e (written p c_to_v l ms) ≡ part a e l
unfolding written
part_written a e p c_to_v l h nil = refl
part_written a e p c_to_v l h (cons {x = m} {xs = ms} o t) =
    part_written a e p c_to_v (set l m (p -ᶠ get_or c_to_v m nan)) h t ∙ part_set a e l m (p -ᶠ get_or c_to_v m nan) h o

-- ---- folds of steps

-- what each step of a fold may come after, the fold may come after
past : {S : Type 0} (Good : S → Type 0) (f : S → ℕ → S) (g : S → S) {xs : List ℕ}
    → All (λ x. (s : S) → Good s → (f (g s) x ≡ g (f s x)) × Good (f s x)) xs → (s : S) → Good s → foldl f (g s) xs ≡ g (foldl f s xs)
past Good f g nil s h = refl
past Good f g (cons {x = x} {xs = xs} t ts) s h = ap (λ u. foldl f u xs) (t s h).0 ∙ past Good f g ts (f s x) (t s h).1

-- ---- has

-- what is not among them differs from each
has_none : (xs : List ℕ) (v : ℕ) → has xs v ≡ false → All (λ x. v ≡ x → ⊥) xs
unfolding has
has_none [] v h = nil
has_none (x ∷ xs) v h = cons (λ e. eqb-false x v (or_left (eqb x v) (has xs v) h) (sym e)) (has_none xs v (or_right (eqb x v) (has xs v) h))

-- of each two, the other way round
all_swap : {P : ℕ → ℕ → Type 0} {xs : List ℕ} (ys : List ℕ) → All (λ x. All (P x) ys) xs → All (λ y. All (λ x. P x y) xs) ys
all_swap [] h = nil
all_swap (y ∷ ys) h = cons (all_map (λ x t. all_head t) h) (all_swap ys (all_map (λ x t. all_tail t) h))

-- states are equal by their lists
state_is : {c c' v v' p p' : List Float} → c ≡ c' → v ≡ v' → p ≡ p' → state c v p ≡ state c' v' p'
state_is h k l = λ i. state (h i) (k i) (l i)

module _ (g : Graph) (sound : Sound g) (alpha : Float) (clip : Clip) (syndrome : List ℕ) (bias : List Float) where
  -- the check c
  abbrev check : State → ℕ → State
  check = update_check by_place g alpha clip syndrome

  -- the variable v
  abbrev variable : State → ℕ → State
  variable = update_variable g bias

  -- where the part of a check begins
  abbrev start : ℕ → ℕ
  start c = get_or g.check_offset c 0

  -- what the check c sends in the state s
  abbrev new : State → ℕ → List Float
  new s c = check_messages alpha clip (not (eqb (get_or syndrome c 0) 0)) (check_entries g c) (row g.check_offset c s.v_to_c)

  -- ---- the graph

  -- a check's part ends within the entries
  part_ends : (c : ℕ) → c < g.checks → start (suc c) ≤ length g.check_var
  part_ends c h = row_end g.checks (length g.check_var) g.check_offset sound.check_parts c h

  -- each entry of a mechanism is a message of its own
  owned : (v k : ℕ) → v < g.mechanisms → k < length (var_entries g v) → Owns g.check_var v (get_or (var_entries g v) k 0)
  owned v k h l = record { inside = (sound.messages_rise v h).below k l; owner = (sound.meets v k h l).is }

  -- parts follow one another
  off_rises : (a b : ℕ) → a < b → b < g.checks → start (suc a) ≤ start b
  off_rises a b h k = offsets_rise g.checks (length g.check_var) g.check_offset sound.check_parts (suc a) b h (omega arith)

  -- so all its entries are
  owned_all : (v : ℕ) → v < g.mechanisms → All (Owns g.check_var v) (var_entries g v)
  owned_all v h = all_places (var_entries g v) (λ k l. owned v k h l)

  -- a mechanism's messages lie outside the part of a check that does not name it
  outside : (c v : ℕ) → c < g.checks → v < g.mechanisms → All (λ x. v ≡ x → ⊥) (check_entries g c) → All (Outside (start c) (start (suc c))) (var_entries g v)
  outside c v h k t = all_map (λ m o. go m o (stands (start c) (start (suc c)) m)) (owned_all v k)
    where
      go : (m : ℕ) → Owns g.check_var v m → Stands (start c) (start (suc c)) m → Outside (start c) (start (suc c)) m
      go m o (out u) = u
      go m o (within j s r) =
          let l = length_part (start c) (start (suc c)) g.check_var (part_ends c h) in
          absurd (all_at t j (omega (arith, l)) (sym (get_d_part (start c) (start (suc c)) g.check_var j 0 r ∙ ap (λ n. get_or g.check_var n 0) (sym s) ∙ o.owner)))

  -- the messages of two mechanisms are others
  others : (v w : ℕ) → v < g.mechanisms → w < g.mechanisms → (v ≡ w → ⊥) → All (λ n. All (λ m. n ≡ m → ⊥) (var_entries g w)) (var_entries g v)
  others v w h k q = all_map (λ n o. all_map (λ m u e. q (sym o.owner ∙ ap (λ i. get_or g.check_var i 0) e ∙ u.owner)) (owned_all w k)) (owned_all v h)

  -- each entry of a check names a mechanism
  names_mechanism : (c : ℕ) → c < g.checks → All (λ v. v < g.mechanisms) (check_entries g c)
  names_mechanism c h = all_places (check_entries g c) go
    where
      go : (j : ℕ) → j < length (check_entries g c) → get_or (check_entries g c) j 0 < g.mechanisms
      go j l =
          let e = length_part (start c) (start (suc c)) g.check_var (part_ends c h) in
          let r : start c + j < start (suc c) = omega (arith, e) in
          rw (get_d_part (start c) (start (suc c)) g.check_var j 0 r) (sound.names.small (start c + j) (omega (arith, part_ends c h)))

  -- ---- the steps

  -- a check's new messages fit its part
  new_length : (c : ℕ) → c < g.checks → (s : State) → Sized g s → length (new s c) ≡ start (suc c) - start c
  new_length c h s z = length_sent alpha clip _ (check_entries g c) (row g.check_offset c s.v_to_c) ∙ length_part (start c) (start (suc c)) s.v_to_c (omega (arith, part_ends c h, z.back))

  -- a check keeps the sizes
  pub keep_check : (c : ℕ) → c < g.checks → (s : State) → Sized g s → Sized g (check s c)
  unfolding update_check
  keep_check c h s z =
      record {
        out = length_spliced s.c_to_v (start c) (start (suc c)) (new s c) (sound.check_parts.rises c h) (omega (arith, part_ends c h, z.out)) (new_length c h s z) ∙ z.out;
        back = z.back;
      }

  -- a variable keeps the sizes
  pub keep_variable : (v : ℕ) (s : State) → Sized g s → Sized g (variable s v)
  unfolding update_variable
  keep_variable v s z = record { out = z.out; back = written_length _ s.c_to_v s.v_to_c (var_entries g v) ∙ z.back }

  -- two checks change places, whatever they share: each reads only what variables sent
  pub swap_checks : (a b : ℕ) → a < b → b < g.checks → (s : State) → Sized g s → check (check s a) b ≡ check (check s b) a
  unfolding update_check
  swap_checks a b h k s z =
      state_is
      (spliced_swap s.c_to_v nan (start a) (start (suc a)) (start b) (start
      (suc b)) (new s a) (new s b) (sound.check_parts.rises a (omega arith)) (off_rises a b h k) (sound.check_parts.rises b k)
      (omega (arith, part_ends b k, z.out)) (new_length a (omega arith) s z) (new_length b k s z))
      refl
      refl

  -- a check, and a mechanism that it does not name
  swap_mixed : (c v : ℕ) → c < g.checks → v < g.mechanisms → All (λ x. v ≡ x → ⊥) (check_entries g c) → (s : State) → Sized g s → variable (check s c) v ≡ check (variable s v) c
  unfolding update_check update_variable
  swap_mixed c v h k t s z =
      let o = outside c v h k t in
      let odd = not (eqb (get_or syndrome c 0) 0) in
      let old = s.c_to_v in
      let ms = var_entries g v in
      let p = get_or bias v nan +ᶠ total old ms in
      let wide = spliced old (start c) (start (suc c)) (new s c) in
      let same : All (Same wide old) ms =
      all_map (λ m u. spliced_out old (start c) (start (suc c)) (new s c) (sound.check_parts.rises c h) (omega (arith, part_ends c h, z.out)) (new_length c h s z) m nan u) o in
      let p-is : get_or bias v nan +ᶠ total wide ms ≡ p = ap (λ x. get_or bias v nan +ᶠ x) (total_same wide old same) in
      let at-is : row g.check_offset c (written p old s.v_to_c ms) ≡ row g.check_offset c s.v_to_c = part_written (start c) (start (suc c)) p old s.v_to_c (sound.check_parts.rises c h) o in
      state_is
      (ap (λ x. spliced old (start c) (start (suc c)) (check_messages alpha clip odd (check_entries g c) x)) (sym at-is))
      (ap (λ x. written x wide s.v_to_c ms) p-is ∙ written_same p wide old s.v_to_c same)
      (ap (set s.posterior v) p-is)

  -- two variables
  swap_variables : (v w : ℕ) → v < g.mechanisms → w < g.mechanisms → (v ≡ w → ⊥) → (s : State) → variable (variable s v) w ≡ variable (variable s w) v
  unfolding update_variable
  swap_variables v w h k q s =
      state_is
      refl
      (written_swap _ _ s.c_to_v (var_entries g w) s.v_to_c (others v w h k q))
      (set_comm s.posterior v w _ _ q)

  -- ---- one check of a serial iteration

  -- a check, after the mechanisms of another
  check_past : (c : ℕ) → c < g.checks → (vs : List ℕ) → All (λ v. v < g.mechanisms) vs → All (λ v. All (λ x. v ≡ x → ⊥) (check_entries g c)) vs
      → (s : State) → Sized g s → foldl variable (check s c) vs ≡ check (foldl variable s vs) c
  check_past c h vs b t = past (Sized g) variable (λ s. check s c) (go vs b t)
    where
      go : (us : List ℕ) → All (λ v. v < g.mechanisms) us → All (λ v. All (λ x. v ≡ x → ⊥) (check_entries g c)) us
          → All (λ v. (s : State) → Sized g s → (variable (check s c) v ≡ check (variable s v) c) × Sized g (variable s v)) us
      go [] nil nil = nil
      go (v ∷ us) (cons k ks) (cons l ls) = cons (λ s z. (swap_mixed c v h k l s z, keep_variable v s z)) (go us ks ls)

  -- a variable, after others
  variable_past : (w : ℕ) → w < g.mechanisms → (vs : List ℕ) → All
      (λ v. v < g.mechanisms) vs → All (λ v. v ≡ w → ⊥) vs → (s : State) → Sized g s → foldl variable (variable s w) vs ≡ variable (foldl variable s vs) w
  variable_past w h vs b t = past (Sized g) variable (λ s. variable s w) (go vs b t)
    where
      go : (us : List ℕ) → All (λ v. v < g.mechanisms) us → All (λ v. v ≡ w → ⊥) us → All (λ v. (s : State) → Sized g s → (variable (variable s w) v ≡ variable
          (variable s v) w) × Sized g (variable s v)) us
      go [] nil nil = nil
      go (v ∷ us) (cons k ks) (cons l ls) = cons (λ s z. (sym (swap_variables v w k h l s), keep_variable v s z)) (go us ks ls)

  -- variables keep the sizes
  keep_variables : (vs : List ℕ) (s : State) → Sized g s → Sized g (foldl variable s vs)
  keep_variables [] s z = z
  keep_variables (v ∷ vs) s z = keep_variables vs (variable s v) (keep_variable v s z)

  -- variables, after others
  variables_past : (vs : List ℕ) → All (λ v. v < g.mechanisms) vs → (ws : List ℕ) → All (λ w. w < g.mechanisms) ws → All (λ w. All (λ v. v ≡ w → ⊥) vs) ws
      → (s : State) → Sized g s → foldl variable (foldl variable s vs) ws ≡ foldl variable (foldl variable s ws) vs
  variables_past vs b [] nil nil s z = refl
  variables_past vs b (w ∷ ws) (cons h hs) (cons t ts) s z =
      ap (λ u. foldl variable u ws) (sym (variable_past w h vs b t s z)) ∙ variables_past vs b ws hs ts (variable s w) (keep_variable w s z)

  -- a check of a serial iteration keeps the sizes
  pub keep_serial : (c : ℕ) → c < g.checks → (s : State) → Sized g s → Sized g (serial_check by_place g alpha clip syndrome bias s c)
  unfolding serial_check
  keep_serial c h s z = keep_variables (check_entries g c) (check s c) (keep_check c h s z)

  -- checks that share no mechanism change places
  pub swap_serial : (a b : ℕ) → b < a → a < g.checks → shares (check_entries g) b a ≡ false → (s : State) → Sized g s
      → serial_check by_place g alpha clip syndrome bias (serial_check by_place g alpha clip syndrome bias s a) b ≡ serial_check by_place g alpha clip syndrome bias (serial_check by_place g alpha clip syndrome bias s b) a
  unfolding serial_check shares
  swap_serial a b h k q s z =
      let l : b < g.checks = omega arith in
      let ea = check_entries g a in
      let eb = check_entries g b in
      let na = names_mechanism a k in
      let nb = names_mechanism b l in
      let t : All (λ v. All (λ x. v ≡ x → ⊥) ea) eb = all_map (λ v e. has_none ea v e) (any_none _ eb q) in
      let u : All (λ x. All (λ v. v ≡ x → ⊥) eb) ea = all_swap ea t in
      let u' : All (λ x. All (λ v. x ≡ v → ⊥) eb) ea = all_map (λ x d. all_map (λ v n e. n (sym e)) d) u in
      let za = keep_check a k s z in
      let zb = keep_check b l s z in
      ap (λ r. foldl variable r eb) (sym (check_past b l ea na u' (check s a) za))
      ∙ ap (λ r. foldl variable (foldl variable r ea) eb) (sym (swap_checks b a h k s z))
      ∙ sym (variables_past eb nb ea na u (check (check s b) a) (keep_check a k (check s b) zb))
      ∙ ap (λ r. foldl variable r ea) (check_past a k eb nb t (check s b) zb)
