-- The lists of `graph_of` by themselves, and the two bucket passes that build them. Assumes nothing.
use mathlib.Core.Bool.{Bool, true, false, true≢false}
use mathlib.Core.List.{List, map}
use mathlib.Core.Logic.{⊎_elim}
use mathlib.Core.Path.{◌≡◌, sym, ap, ◌∙◌}
use Prim.Native.Nat.{ℕ, zero, suc, ◌+◌, ◌-◌, ◌<◌, ◌≤◌}
use native.Mathlib.Omega.{arith}
use lib.ListN.{length, get_or, length-map}
use Rattle.numbers.proofs.Cases.{either}
use Rattle.numbers.proofs.Loops.{is_table, length_table, get_or_table}
use Rattle.graph_lists.specs.Graph.{graph, mechanisms_of, flipped, checks_of, entries, graph_of, among}
use Rattle.graph_lists.specs.Lists.{passing, joined, start, offsets, places}
use Rattle.graph_lists.specs.Sound.{Offsets, Keys}
use Rattle.graph_lists.specs.Steps.{row_of, Bucketed, Distinct, Valid}
use Rattle.graph_lists.proofs.Passing.{passing_at, passing_counts, passed, passing_same, start_zero, start_suc, length_joined, start_rises, joined_at, lies}
use Rattle.graph_lists.proofs.Rows.{among_yes, among_place, rows_of, map_joined}
use Rattle.graph_lists.proofs.Slots.{length_bucket}

-- lists of the same lengths begin at the same places
pub start_same : (n : ℕ) (g h : ℕ → List ℕ) → ((k : ℕ) → k < n → length (g k) ≡ length (h k)) → (k : ℕ) → k ≤ n → start g k ≡ start h k
start_same n g h e zero l = start_zero g ∙ sym (start_zero h)
start_same n g h e (suc k) l = omega (arith, start_same n g h e k (omega arith), start_suc g k, start_suc h k, e k l)

-- an offset is where a list begins
pub offsets_at : (n i : ℕ) (f : ℕ → List ℕ) → i ≤ n → get_or (offsets n f) i 0 ≡ start f i
unfolding offsets
offsets_at n i f h = get_or_table (suc n) (start f) i 0 (omega arith)

-- lists of the same lengths have the same offsets
pub offsets_same : (n : ℕ) (g h : ℕ → List ℕ) → ((k : ℕ) → k < n → length (g k) ≡ length (h k)) → offsets n g ≡ offsets n h
unfolding offsets
offsets_same n g h e = is_table (suc n) (start h) _ (length_table (suc n) (start g)) (λ i l. get_or_table (suc n) (start g) i 0 l ∙ start_same n g h e i (omega arith))

-- how many offsets there are
pub length_offsets : (n : ℕ) (f : ℕ → List ℕ) → length (offsets n f) ≡ suc n
unfolding offsets
length_offsets n f = length_table (suc n) (start f)

-- joined lists with their offsets
pub offsets_cut : (n : ℕ) (f : ℕ → List ℕ) → Offsets n (length (joined n f)) (offsets n f)
offsets_cut n f =
    record {
      many = length_offsets n f;
      starts = offsets_at n 0 f (omega arith) ∙ start_zero f;
      rises = λ r l. omega (arith, offsets_at n r f (omega arith), offsets_at n (suc r) f l, start_rises f r (suc r) (omega arith));
      ends = offsets_at n n f (omega arith) ∙ sym (length_joined f n);
    }

module _ (checks mechanisms : ℕ) (inc : ℕ → ℕ → Bool) where
  -- a graph's check offsets cut its check entries
  pub graph_offsets : Offsets checks (length (entries checks mechanisms inc)) (offsets checks (mechanisms_of mechanisms inc))
  unfolding entries
  graph_offsets = offsets_cut checks (mechanisms_of mechanisms inc)

  -- what stands at the q-th place of the check c
  pub record Entry (c q m : ℕ) : Type 0 where
    pub below : m < mechanisms
    pub meets : inc c m ≡ true
    pub counts : length (passing m (inc c)) ≡ q

  -- each entry of a check is one of its mechanisms
  pub entry : (c q : ℕ) → c < checks → q < length (mechanisms_of mechanisms inc c) → Entry c q (get_or (entries checks mechanisms inc) (start (mechanisms_of mechanisms inc) c + q) 0)
  unfolding entries mechanisms_of
  entry c q h l =
      let s = passed (inc c) mechanisms q l in
      rw (joined_at (mechanisms_of mechanisms inc) c checks q h l) (record { below = s.below; meets = s.passes; counts = s.counts })

  -- every check entry is a mechanism
  pub graph_keys : Keys mechanisms (entries checks mechanisms inc)
  unfolding entries
  graph_keys =
      record {
        small = λ j l.
            let w = lies (mechanisms_of mechanisms inc) checks j (rw (length_joined (mechanisms_of mechanisms inc) checks) at l) in
            rw w.is (entry w.list w.place w.below w.within).below;
      }

  -- a place between a check's offsets is one of its entries
  pub within : (c i : ℕ) → c < checks → get_or (offsets checks (mechanisms_of mechanisms inc)) c 0 ≤ i → i < get_or (offsets checks (mechanisms_of mechanisms inc)) (suc c) 0
      → (q : ℕ) × (q < length (mechanisms_of mechanisms inc c)) × (i ≡ start (mechanisms_of mechanisms inc) c + q)
  within c i h l m =
      let a = offsets_at checks c (mechanisms_of mechanisms inc) (omega arith) in
      let b = offsets_at checks (suc c) (mechanisms_of mechanisms inc) h in
      (i - start (mechanisms_of mechanisms inc) c, omega (arith, a, b, start_suc (mechanisms_of mechanisms inc) c), omega (arith, a))

  -- no check names a mechanism twice
  graph_distinct : Distinct checks (offsets checks (mechanisms_of mechanisms inc)) (entries checks mechanisms inc)
  graph_distinct =
      record {
        apart = λ r i j h l m n e.
            let b = offsets_at checks (suc r) (mechanisms_of mechanisms inc) h in
            let u = within r i h l (omega arith) in
            let v = within r j h (omega arith) n in
            let x = entry r u.0 h u.1 in
            let y = entry r v.0 h v.1 in
            let z : u.0 ≡ v.0 =
            sym x.counts ∙ ap (λ (k : ℕ). length (passing k (inc r)))
            (ap (λ (k : ℕ). get_or (entries checks mechanisms inc) k 0)
            (sym u.2) ∙ e ∙ ap (λ (k : ℕ). get_or (entries checks mechanisms inc) k 0) v.2) ∙ y.counts in
            omega (arith, u.2, v.2);
      }

  -- a mechanism of a check stands in its part
  at_place : (c m : ℕ) → c < checks → m < mechanisms → inc c m ≡ true → among (offsets checks (mechanisms_of mechanisms inc)) (entries checks mechanisms inc) m c ≡ true
  unfolding mechanisms_of entries
  at_place c m h l t =
      let q : ℕ = length (passing m (inc c)) in
      let n : q < length (mechanisms_of mechanisms inc c) = passing_counts (inc c) m mechanisms l t in
      let a = offsets_at checks c (mechanisms_of mechanisms inc) (omega arith) in
      let b = offsets_at checks (suc c) (mechanisms_of mechanisms inc) h in
      among_yes checks (offsets checks (mechanisms_of mechanisms inc)) (entries checks mechanisms inc) graph_offsets m c
      (start (mechanisms_of mechanisms inc) c + q) h (omega (arith, a)) (omega (arith, b, start_suc (mechanisms_of mechanisms inc) c))
      (joined_at (mechanisms_of mechanisms inc) c checks q h n ∙ passing_at (inc c) m mechanisms l t)

  -- what stands in its part is a mechanism of the check
  met : (c m : ℕ) → c < checks → among (offsets checks (mechanisms_of mechanisms inc)) (entries checks mechanisms inc) m c ≡ true → inc c m ≡ true
  met c m h s =
      let w = among_place checks (offsets checks (mechanisms_of mechanisms inc)) (entries checks mechanisms inc) graph_offsets m c h s in
      let u = within c w.0 h w.1.from w.1.to in
      rw (sym w.1.is ∙ ap (λ (k : ℕ). get_or (entries checks mechanisms inc) k 0) u.2) (entry c u.0 h u.1).meets

  -- a graph's check lists tell its incidences
  pub graph_among : (c m : ℕ) → c < checks → m < mechanisms → among (offsets checks (mechanisms_of mechanisms inc)) (entries checks mechanisms inc) m c ≡ inc c m
  graph_among c m h l = ⊎_elim yes no (either (inc c m))
    where
      yes : inc c m ≡ true → among (offsets checks (mechanisms_of mechanisms inc)) (entries checks mechanisms inc) m c ≡ inc c m
      yes t = at_place c m h l t ∙ sym t

      no : inc c m ≡ false → among (offsets checks (mechanisms_of mechanisms inc)) (entries checks mechanisms inc) m c ≡ inc c m
      no t = ⊎_elim (λ s. absurd (true≢false (sym (met c m h s) ∙ t))) (λ s. s ∙ sym t) (either (among (offsets checks (mechanisms_of mechanisms inc)) (entries checks mechanisms inc) m c))

  -- the checks that name each mechanism
  vars_of : (m : ℕ) → m < mechanisms → map (row_of (offsets checks (mechanisms_of mechanisms inc)) checks) (places (entries checks mechanisms inc) m) ≡ checks_of checks inc m
  unfolding checks_of flipped
  vars_of m h =
      rows_of checks (offsets checks (mechanisms_of mechanisms inc)) (entries checks mechanisms inc) graph_offsets graph_distinct m
      ∙ passing_same checks _ _ (λ c l. graph_among c m l h)

  -- so the parts that the places of the mechanisms lie in are their checks
  pub graph_vars : map (row_of (offsets checks (mechanisms_of mechanisms inc)) checks) (joined mechanisms (places (entries checks mechanisms inc))) ≡ joined mechanisms (checks_of checks inc)
  graph_vars = map_joined _ mechanisms _ _ vars_of

  -- and the places of each mechanism are as many as its checks
  pub graph_var_offsets : offsets mechanisms (places (entries checks mechanisms inc)) ≡ offsets mechanisms (checks_of checks inc)
  graph_var_offsets = offsets_same mechanisms _ _ (λ m l. sym (length-map (places (entries checks mechanisms inc) m) _) ∙ ap length (vars_of m l))

  -- from the check lists the second pass makes the rest, whatever wrote them
  pub second_pass : (check_offset check_var next row_at placeAt : List ℕ) → length placeAt ≡ length check_var → check_var ≡ entries checks mechanisms inc → check_offset ≡ offsets checks (mechanisms_of mechanisms inc)
      → Bucketed check_offset checks mechanisms check_var next row_at placeAt → graph checks mechanisms check_var check_offset row_at placeAt next ≡ graph_of checks mechanisms inc
  unfolding graph_of
  second_pass check_offset check_var next row_at placeAt many em eo b =
      let vc : row_at ≡ joined mechanisms (checks_of checks inc) = b.owners ∙ rw (em, eo) graph_vars in
      let vm : placeAt ≡ joined mechanisms (places (entries checks mechanisms inc)) = b.lists many ∙ rw em in
      let vo : next ≡ offsets mechanisms (checks_of checks inc) = b.starts ∙ rw em graph_var_offsets in
      rw (em, eo, vc, vm, vo)

  -- what the second pass asks of the first
  pub second_valid : (check_offset check_var : List ℕ) → check_var ≡ entries checks mechanisms inc → check_offset ≡ offsets checks (mechanisms_of mechanisms inc)
      → Offsets checks (length check_var) check_offset × Keys mechanisms check_var
  second_valid check_offset check_var em eo = rw (em, eo) (graph_offsets, graph_keys)

module _ (checks mechanisms : ℕ) (off dets : List ℕ) (v : Valid checks mechanisms off dets) where
  -- the parts of the detectors that name a check are its mechanisms
  mechanisms_of_lem : (c : ℕ) → map (row_of off mechanisms) (places dets c) ≡ mechanisms_of mechanisms (among off dets) c
  unfolding mechanisms_of
  mechanisms_of_lem c = rows_of mechanisms off dets v.cut v.distinct c

  -- so are, check by check, the check entries of the model's graph
  pub sparse_entries : map (row_of off mechanisms) (joined checks (places dets)) ≡ entries checks mechanisms (among off dets)
  unfolding entries
  sparse_entries = map_joined _ checks _ _ (λ c l. mechanisms_of_lem c)

  -- and its check offsets
  sparse_offsets : offsets checks (places dets) ≡ offsets checks (mechanisms_of mechanisms (among off dets))
  sparse_offsets = offsets_same checks _ _ (λ c l. sym (length-map (places dets c) _) ∙ ap length (mechanisms_of_lem c))

  -- a valid model has as many edges as detectors
  pub sparse_length : length (entries checks mechanisms (among off dets)) ≡ length dets
  sparse_length = ap length (sym sparse_entries) ∙ length-map (joined checks (places dets)) _ ∙ length_bucket checks dets v.keys

  -- what the first pass writes are the check lists
  pub first_pass : (next row_at placeAt : List ℕ) → Bucketed off mechanisms checks dets next row_at placeAt
      → (row_at ≡ entries checks mechanisms (among off dets)) × (next ≡ offsets checks (mechanisms_of mechanisms (among off dets)))
  first_pass next row_at placeAt b = (b.owners ∙ sparse_entries, b.starts ∙ sparse_offsets)
