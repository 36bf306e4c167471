-- What the quick test asks, by place: lists that pass are the graph of what they tell, and every graph passes. Assumes nothing.
use mathlib.Core.Bool.{Bool, true}
use mathlib.Core.List.{List, map}
use mathlib.Core.Logic.{⊎_elim}
use mathlib.Core.Path.{◌≡◌, refl, sym, ap, ◌∙◌}
use Prim.Native.Nat.{ℕ, zero, suc, ◌+◌, ◌-◌, ◌<◌, ◌≤◌}
use native.Mathlib.Omega.{arith}
use lib.ListN.{length, get_or, length-map}
use lib.Seq.{ext_get_or}
use Rattle.numbers.proofs.Cases.{less_or_not}
use Rattle.numbers.proofs.Loops.{map_at, length_part, get_d_part}
use Rattle.numbers.specs.Loops.{row}
use Rattle.graph_lists.specs.Graph.{Graph, mechanisms_of, flipped, checks_of, entries, graph_of, own_incidence}
use Rattle.graph_lists.specs.Lists.{joined, start, offsets, stands, places}
use Rattle.graph_lists.specs.Sound.{Offsets, Long, Keys, Rising}
use Rattle.graph_lists.specs.Steps.{count_before, first_of_key, row_of}
use Rattle.graph_lists.proofs.Built.{offsets_at, length_offsets, offsets_cut, graph_offsets, Entry, entry, graph_keys, graph_vars, graph_var_offsets}
use Rattle.graph_lists.proofs.Cuts.{offsets_rise, row_of_lem, row_is, row_end, Met}
use Rattle.graph_lists.proofs.Passing.{length_rises, passed, start_suc, joined_at}
use Rattle.graph_lists.proofs.Rising.{few, full, all_full, parts_joined, parts_offsets}
use Rattle.graph_lists.proofs.Rows.{has_at, has_place}
use Rattle.graph_lists.proofs.Sameness.{graph_same}
use Rattle.graph_lists.proofs.Slots.{stands_yes, stands_true, first_suc, first_last, length_bucket}

-- a part between offsets
module _ (rows n : ℕ) (off xs : List ℕ) (o : Offsets rows n off) (many : length xs ≡ n) where
  -- a part's length
  pub row_length : (r : ℕ) → r < rows → length (row off r xs) ≡ get_or off (suc r) 0 - get_or off r 0
  row_length r h = length_part (get_or off r 0) (get_or off (suc r) 0) xs (omega (arith, row_end rows n off o r h))

  -- a part's elements
  pub row_at : (r i : ℕ) → r < rows → i < length (row off r xs) → get_or (row off r xs) i 0 ≡ get_or xs (get_or off r 0 + i) 0
  row_at r i h l = get_d_part (get_or off r 0) (get_or off (suc r) 0) xs i 0 (omega (arith, row_length r h))

-- what the quick test asks
pub record Passes (edges : ℕ) (g : Graph) : Type 0 where
  pub check_cut : Offsets g.checks edges g.check_offset
  pub check_rises : (c : ℕ) → c < g.checks → Rising g.mechanisms (row g.check_offset c g.check_var)
  pub var_cut : Offsets g.mechanisms edges g.var_offset
  pub var_rises : (v : ℕ) → v < g.mechanisms → Rising g.checks (row g.var_offset v g.var_check)
  pub var_meets : (v i : ℕ) → v < g.mechanisms → i < length (row g.var_offset v g.var_check)
      → Met g.check_offset g.check_var v (get_or (row g.var_offset v g.var_check) i 0) (get_or (row g.var_offset v g.var_message) i 0)

-- ---- lists that pass are the graph of what they tell

module _ (edges : ℕ) (g : Graph) (f : Long edges g) (t : Passes edges g) where
  -- the check offsets cut the check entries
  cut : Offsets g.checks (length g.check_var) g.check_offset
  cut = rw f.check_var t.check_cut

  -- the entries of a check are the mechanisms that they tell
  pub check_row : (c : ℕ) → c < g.checks → row g.check_offset c g.check_var ≡ mechanisms_of g.mechanisms (own_incidence g) c
  unfolding mechanisms_of own_incidence
  check_row c h =
      let xs = row g.check_offset c g.check_var in
      all_full (own_incidence g c) g.mechanisms xs (t.check_rises c h) (λ q l. has_at xs q _ l refl) (λ i l e. has_place xs i e)

  -- so are all check entries
  check_var_is : g.check_var ≡ entries g.checks g.mechanisms (own_incidence g)
  unfolding entries
  check_var_is = parts_joined g.checks g.check_offset g.check_var cut _ check_row

  -- and the check offsets
  check_offset_is : g.check_offset ≡ offsets g.checks (mechanisms_of g.mechanisms (own_incidence g))
  check_offset_is = parts_offsets g.checks g.check_offset g.check_var cut _ check_row

  -- every check entry is a mechanism
  pub keys : Keys g.mechanisms g.check_var
  keys = rw check_var_is (graph_keys g.checks g.mechanisms (own_incidence g))

  -- a variable has as many messages as checks
  pub lengths_agree : (v : ℕ) → v < g.mechanisms → length (row g.var_offset v g.var_message) ≡ length (row g.var_offset v g.var_check)
  lengths_agree v h =
      row_length g.mechanisms edges g.var_offset g.var_message t.var_cut f.var_message v h ∙ sym (row_length g.mechanisms edges g.var_offset
      g.var_check t.var_cut f.var_check v h)

  -- the messages of a variable rise, and it stands at each
  pub messages_rise : (v : ℕ) → v < g.mechanisms → Rising (length g.check_var) (row g.var_offset v g.var_message)
  messages_rise v h =
      record {
        below = λ i l.
            let i' = rw (lengths_agree v h) at l in
            let w = t.var_meets v i h i' in
            omega (arith, w.to, row_end g.checks _ g.check_offset cut (get_or (row g.var_offset v g.var_check) i 0) ((t.var_rises v h).below i i'));
        rises = λ i j l m.
            let j' = rw (lengths_agree v h) at m in
            let a = t.var_meets v i h (omega arith) in
            let b = t.var_meets v j h j' in
            omega (
              arith,
              a.to,
              b.from,
              offsets_rise g.checks _ g.check_offset cut (suc (get_or (row g.var_offset v g.var_check) i 0)) (get_or (row g.var_offset v g.var_check) j 0) ((t.var_rises v h).rises i j l j')
                  (omega (arith, (t.var_rises v h).below j j')),
            );
      }

  -- the variable stands at each of its messages
  messages_stand : (v : ℕ) → v < g.mechanisms → (q : ℕ) → q < length (row g.var_offset v g.var_message) → stands g.check_var v (get_or (row g.var_offset v g.var_message) q 0) ≡ true
  messages_stand v h q l = stands_yes g.check_var v _ (t.var_meets v q h (rw (lengths_agree v h) at l)).is

  -- so it has at most as many as it stands at
  degree : (v : ℕ) → v < g.mechanisms → get_or g.var_offset (suc v) 0 ≤ get_or g.var_offset v 0 + count_before g.check_var v (length g.check_var)
  unfolding count_before
  degree v h =
      omega (
        arith,
        row_length g.mechanisms edges g.var_offset g.var_message t.var_cut f.var_message v h,
        few (stands g.check_var v) (length g.check_var) (row g.var_offset v g.var_message) (messages_rise v h) (messages_stand v h),
      )

  -- so no degree is less than it must be, since they sum up to the same
  above : (v : ℕ) → v ≤ g.mechanisms → get_or g.var_offset v 0 ≤ first_of_key g.check_var v
  above zero h = omega (arith, t.var_cut.starts)
  above (suc v) h = omega (arith, above v (omega arith), degree v h, first_suc g.check_var v)

  -- nor more
  under : (d v : ℕ) → v + d ≡ g.mechanisms → first_of_key g.check_var v ≤ get_or g.var_offset v 0
  under zero v e = let w : v ≡ g.mechanisms = omega arith in rw w (omega (arith, t.var_cut.ends, first_last g.mechanisms g.check_var keys, f.check_var))
  under (suc d) v e = omega (arith, under d (suc v) (omega arith), degree v (omega arith), first_suc g.check_var v)

  -- so its part begins where its places do
  starts_at : (v : ℕ) → v ≤ g.mechanisms → get_or g.var_offset v 0 ≡ first_of_key g.check_var v
  starts_at v h = omega (arith, above v h, under (g.mechanisms - v) v (omega arith))

  -- and its messages are its places
  pub messages_row : (v : ℕ) → v < g.mechanisms → row g.var_offset v g.var_message ≡ places g.check_var v
  unfolding places count_before
  messages_row v h =
      full (stands g.check_var v) (length g.check_var) (row g.var_offset v g.var_message) (messages_rise v h) (messages_stand v h)
      (omega (arith, row_length g.mechanisms edges g.var_offset g.var_message t.var_cut f.var_message v h, starts_at v (omega arith), starts_at (suc v) h, first_suc g.check_var v))

  -- the variable offsets cut the messages
  message_cut : Offsets g.mechanisms (length g.var_message) g.var_offset
  message_cut = rw f.var_message t.var_cut

  -- so are all messages
  messages_are : g.var_message ≡ joined g.mechanisms (places g.check_var)
  messages_are = parts_joined g.mechanisms g.var_offset g.var_message message_cut _ messages_row

  -- and the variable offsets
  var_offset_is : g.var_offset ≡ offsets g.mechanisms (places g.check_var)
  var_offset_is = parts_offsets g.mechanisms g.var_offset g.var_message message_cut _ messages_row

  -- the check of each variable entry is the one that its message lies in
  checks_are : g.var_check ≡ map (row_of g.check_offset g.checks) g.var_message
  checks_are = ext_get_or 0 g.var_check _ (f.var_check ∙ sym f.var_message ∙ sym (length-map g.var_message (row_of g.check_offset g.checks))) at
    where
      at : (i : ℕ) → i < length g.var_check → get_or g.var_check i 0 ≡ get_or (map (row_of g.check_offset g.checks) g.var_message) i 0
      at i l =
          let r = row_is g.mechanisms edges g.var_offset t.var_cut i (omega (arith, f.var_check)) in
          let v : ℕ = row_of g.var_offset g.mechanisms i in
          let q : ℕ = i - get_or g.var_offset v 0 in
          let e : get_or g.var_offset v 0 + q ≡ i = omega (arith, r.from) in
          let k : q < length (row g.var_offset v g.var_check) = omega (
            arith,
            r.from,
            r.to,
            row_length g.mechanisms edges g.var_offset g.var_check
                t.var_cut f.var_check v r.below,
          ) in
          let a : get_or (row g.var_offset v g.var_check) q 0 ≡ get_or g.var_check i 0 =
          row_at g.mechanisms edges g.var_offset g.var_check t.var_cut f.var_check v q r.below k ∙ ap (λ (x : ℕ). get_or g.var_check x 0) e in
          let b : get_or (row g.var_offset v g.var_message) q 0 ≡ get_or g.var_message i 0 =
          row_at g.mechanisms edges g.var_offset g.var_message t.var_cut f.var_message v q r.below (rw (lengths_agree v r.below) k) ∙ ap (λ (x : ℕ). get_or g.var_message x 0) e in
          let w = t.var_meets v q r.below k in
          sym a
          ∙ sym (row_of_lem g.checks _ g.check_offset cut (get_or (row
          g.var_offset v g.var_check) q 0) (get_or (row g.var_offset v g.var_message) q 0) ((t.var_rises v r.below).below q k) w.from w.to)
          ∙ ap (row_of g.check_offset g.checks) b
          ∙ sym (map_at (row_of g.check_offset g.checks) g.var_message i (omega (arith, f.var_check, f.var_message)))

  -- so the lists are the graph of what they tell
  pub passes_graph : g ≡ graph_of g.checks g.mechanisms (own_incidence g)
  unfolding graph_of
  passes_graph = graph_same _ _ _ _ _ _ _ _ _ _ _ _ check_var_is check_offset_is vc vm vo
    where
      vc : g.var_check ≡ joined g.mechanisms (checks_of g.checks (own_incidence g))
      vc =
          checks_are
          ∙ ap (map (row_of g.check_offset g.checks)) (messages_are ∙ ap (λ (x : List ℕ). joined g.mechanisms (places x)) check_var_is)
          ∙ ap (λ (x : List ℕ). map (row_of x g.checks) (joined g.mechanisms (places (entries g.checks g.mechanisms (own_incidence g))))) check_offset_is
          ∙ graph_vars g.checks g.mechanisms (own_incidence g)

      vm : g.var_message ≡ joined g.mechanisms (places (entries g.checks g.mechanisms (own_incidence g)))
      vm = messages_are ∙ ap (λ (x : List ℕ). joined g.mechanisms (places x)) check_var_is

      vo : g.var_offset ≡ offsets g.mechanisms (checks_of g.checks (own_incidence g))
      vo = var_offset_is ∙ ap (λ (x : List ℕ). offsets g.mechanisms (places x)) check_var_is ∙ graph_var_offsets g.checks g.mechanisms (own_incidence g)

-- ---- every graph passes

-- the parts of joined rising lists
module _ (checks mechanisms : ℕ) (inc : ℕ → ℕ → Bool) where
  -- the mechanisms of a check rise
  pub parts_rise : (c : ℕ) → c < checks → Rising mechanisms (row (offsets checks (mechanisms_of mechanisms inc)) c (entries checks mechanisms inc))
  parts_rise c h = record { below = λ i l. (has i l).below; rises = λ i j l m. higher i j l m }
    where
      o : Offsets checks (length (entries checks mechanisms inc)) (offsets checks (mechanisms_of mechanisms inc))
      o = graph_offsets checks mechanisms inc

      has : (i : ℕ) → i < length (row (offsets checks (mechanisms_of mechanisms inc)) c (entries checks mechanisms inc))
          → Entry checks mechanisms inc c i (get_or (row (offsets checks (mechanisms_of mechanisms inc)) c (entries checks mechanisms inc)) i 0)
      has i l =
          let a = offsets_at checks c (mechanisms_of mechanisms inc) (omega arith) in
          let n = row_length checks _ _ (entries checks mechanisms inc) o refl c h in
          let k : i < length (mechanisms_of mechanisms inc c) = omega (arith, n, a, offsets_at checks (suc c) (mechanisms_of mechanisms inc) h, start_suc (mechanisms_of mechanisms inc) c) in
          rw (row_at checks _ _ (entries checks mechanisms inc) o refl c i h l, a) (entry checks mechanisms inc c i h k)

      higher : (i j : ℕ) → i < j → j < length (row (offsets checks (mechanisms_of mechanisms inc)) c (entries checks mechanisms inc))
          → get_or (row (offsets checks (mechanisms_of mechanisms inc)) c
          (entries checks mechanisms inc)) i 0 < get_or (row (offsets checks (mechanisms_of mechanisms inc)) c (entries checks mechanisms inc)) j 0
      higher i j l m =
          let x = has i (omega arith) in
          let y = has j m in
          ⊎_elim (λ k. k) (λ k. absurd (omega (arith, length_rises (inc c) _ _ k, x.counts, y.counts))) (less_or_not _ _)

  -- there are as many check entries as variable entries
  pub graph_length : length (entries checks mechanisms inc) ≡ length (joined mechanisms (checks_of checks inc))
  graph_length =
      sym (length_bucket mechanisms (entries checks mechanisms inc) (graph_keys checks mechanisms inc))
      ∙ sym (length-map (joined mechanisms (places (entries checks mechanisms inc))) (row_of (offsets checks (mechanisms_of mechanisms inc)) checks))
      ∙ ap length (graph_vars checks mechanisms inc)

  -- a graph's variable offsets cut its variable entries
  pub graph_var_cut : Offsets mechanisms (length (entries checks mechanisms inc)) (offsets mechanisms (checks_of checks inc))
  graph_var_cut = rw graph_length (offsets_cut mechanisms (checks_of checks inc))

  -- a graph's lists have the lengths of its edges
  pub graph_long : Long (length (entries checks mechanisms inc)) (graph_of checks mechanisms inc)
  unfolding graph_of
  graph_long =
      record {
        check_var = refl;
        check_offset = length_offsets checks _;
        var_check = sym graph_length;
        var_message = length_bucket mechanisms (entries checks mechanisms inc) (graph_keys checks mechanisms inc);
        var_offset = length_offsets mechanisms _;
      }

module _ (checks mechanisms : ℕ) (inc : ℕ → ℕ → Bool) where
  -- the checks of a mechanism rise
  pub var_parts_rise : (v : ℕ) → v < mechanisms → Rising checks (row (offsets mechanisms (checks_of checks inc)) v (joined mechanisms (checks_of checks inc)))
  unfolding entries mechanisms_of checks_of
  var_parts_rise v h = parts_rise mechanisms checks (flipped inc) v h

  -- each holds its message, where the mechanism stands
  pub var_parts_meet : (v i : ℕ) → v < mechanisms → i < length (row (offsets mechanisms (checks_of checks inc)) v (joined mechanisms (checks_of checks inc)))
      → Met (offsets checks (mechanisms_of mechanisms inc)) (entries checks mechanisms inc) v (get_or (row (offsets mechanisms (checks_of checks inc)) v (joined mechanisms (checks_of checks inc))) i 0)
      (get_or (row (offsets mechanisms (checks_of checks inc)) v (joined mechanisms (places (entries checks mechanisms inc)))) i 0)
  unfolding places
  var_parts_meet v i h l =
      let cv = entries checks mechanisms inc in
      let co = offsets checks (mechanisms_of mechanisms inc) in
      let vo = offsets mechanisms (checks_of checks inc) in
      let vc = joined mechanisms (checks_of checks inc) in
      let vm = joined mechanisms (places cv) in
      let keys = graph_keys checks mechanisms inc in
      let long : length vm ≡ length cv = length_bucket mechanisms cv keys in
      let cut = graph_var_cut checks mechanisms inc in
      let nc = row_length mechanisms (length cv) vo vc cut (sym (graph_length checks mechanisms inc)) v h in
      let ng = row_length mechanisms (length cv) vo vm cut long v h in
      let x : ℕ = get_or vo v 0 + i in
      let room : x < length cv = omega (arith, nc, row_end mechanisms (length cv) vo cut v h) in
      let a : get_or (row vo v vc) i 0 ≡ get_or vc x 0 = row_at mechanisms (length cv) vo vc cut (sym (graph_length checks mechanisms inc)) v i h l in
      let b : get_or (row vo v vm) i 0 ≡ get_or vm x 0 = row_at mechanisms (length cv) vo vm cut long v i h (omega arith) in
      let e : get_or vc x 0 ≡ row_of co checks (get_or vm x 0) = ap (λ (y : List ℕ). get_or y x 0) (sym (graph_vars checks mechanisms inc)) ∙ map_at (row_of co checks) vm x (omega arith) in
      let s : get_or vo v 0 ≡ start (places cv) v = ap (λ (y : List ℕ). get_or y v 0) (sym (graph_var_offsets checks mechanisms inc)) ∙ offsets_at mechanisms v (places cv) (omega arith) in
      let s' : get_or vo (suc v) 0 ≡ start (places cv) (suc v) = ap (λ (y : List ℕ). get_or y (suc v) 0) (sym (graph_var_offsets checks mechanisms inc)) ∙ offsets_at mechanisms (suc v) (places cv) h in
      let k : i < length (places cv v) = omega (arith, nc, s, s', start_suc (places cv) v) in
      let w = passed (stands cv v) (length cv) i k in
      let m : get_or vm x 0 ≡ get_or (places cv v) i 0 = ap (λ (y : ℕ). get_or vm (y + i) 0) s ∙ joined_at (places cv) v mechanisms i h k in
      let r = row_is checks (length cv) co (graph_offsets checks mechanisms inc) (get_or (places cv v) i 0) w.below in
      let p : get_or (row vo v vm) i 0 ≡ get_or (places cv v) i 0 = b ∙ m in
      let q : get_or (row vo v vc) i 0 ≡ row_of co checks (get_or (places cv v) i 0) = a ∙ e ∙ ap (row_of co checks) m in
      rw (p, q) (record { from = r.from; to = r.to; is = stands_true cv v _ w.passes })

  -- so every graph passes
  pub graph_passes : Passes (length (entries checks mechanisms inc)) (graph_of checks mechanisms inc)
  unfolding graph_of
  graph_passes =
      record {
        check_cut = graph_offsets checks mechanisms inc;
        check_rises = parts_rise checks mechanisms inc;
        var_cut = graph_var_cut checks mechanisms inc;
        var_rises = var_parts_rise;
        var_meets = var_parts_meet;
      }
