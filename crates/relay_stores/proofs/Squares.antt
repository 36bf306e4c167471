-- The formula as the code has it: squared degrees by the offsets, within the edges squared. Assumes nothing.
use mathlib.Core.Path.{◌≡◌, refl, sym, ap, ◌∙◌}
use mathlib.Core.List.{List, []}
use Prim.Native.Nat.{ℕ, zero, suc, ◌+◌, ◌-◌, ◌*◌, ◌<◌, ◌≤◌}
use native.Mathlib.Nat.{mul-le-mul}
use native.Mathlib.Numerals.{add-one}
use native.Mathlib.Omega.{arith}
use lib.ListN.{length, get_or}
use Rattle.numbers.specs.Limits.{max_edges}
use Rattle.numbers.specs.Loops.{turns}
use Rattle.numbers.proofs.Turns.{turns_turn}
use Rattle.graph_lists.specs.Graph.{Graph, graph}
use Rattle.graph_lists.specs.Sound.{Offsets}
use Rattle.graph_lists.proofs.Cuts.{offsets_rise}
use Rattle.graph_lists.proofs.Passes.{row_length}
use Rattle.graph_messages.specs.Needs.{walked, of_variables}
use Rattle.relay_settings.specs.declared.Schedule.{Schedule}
use Rattle.relay_settings.specs.declared.Schedule.TheVariants.{Flooding, CheckSerial}
use Rattle.relay_stores.specs.Stores.{degree, squared_degrees, stores_each}

-- the squared degrees of the first n mechanisms
abbrev pub squares_to : Graph → ℕ → ℕ
squares_to g n = turns n (λ v sum. sum + degree g v * degree g v) 0

-- what is within the square of a, with the square of d, is within that of their sum
within_square : (s a d b : ℕ) → s ≤ a * a → b ≡ a + d → s + d * d ≤ b * b
within_square s a d b h e = let q : b * b ≡ (a + d) * (a + d) = ap (λ m. m * m) e in omega (arith, q)

module _ (mechanisms : ℕ) (vm vo : List ℕ) (o : Offsets mechanisms (length vm) vo) where
  -- a degree is how far its offsets are apart
  degree_is : (v : ℕ) → v < mechanisms → degree (of_variables mechanisms vm vo) v ≡ get_or vo (suc v) 0 - get_or vo v 0
  unfolding degree
  degree_is v h = row_length mechanisms (length vm) vo vm o refl v h

  -- the squares so far are within the square of the messages passed
  squares_within : (v : ℕ) → v ≤ mechanisms → squares_to (of_variables mechanisms vm vo) v ≤ get_or vo v 0 * get_or vo v 0
  squares_within zero h = omega arith
  squares_within (suc v) h =
      within_square _ (get_or vo v 0) (degree (of_variables mechanisms vm vo) v) (get_or vo (suc v) 0) (squares_within v (omega arith)) (omega (arith, degree_is v h, o.rises v h))

  -- and so of the edges that there may be
  pub squares_few : (n : ℕ) → length vm ≤ n → (v : ℕ) → v ≤ mechanisms → squares_to (of_variables mechanisms vm vo) v ≤ n * n
  squares_few n h v l =
      let e : get_or vo v 0 ≤ n = omega (arith, o.ends, offsets_rise mechanisms (length vm) vo o v mechanisms l (omega arith)) in
      omega (arith, squares_within v l, mul-le-mul e e)

  module _ (v sum start end : ℕ) (h : v < mechanisms) (from : start ≡ get_or vo v 0) (to : end ≡ get_or vo (v + 1) 0) where
    -- one mechanism further
    pub squares_turn : sum ≡ squares_to (of_variables mechanisms vm vo) v → sum + (end - start) * (end - start) ≡ squares_to (of_variables mechanisms vm vo) (v + 1)
    squares_turn e =
        let d : end - start ≡ degree (of_variables mechanisms vm vo) v = rw (from, to, add-one) (sym (degree_is v h)) in
        turns_turn _ 0 sum _ v e (ap (λ m. sum + m * m) d)

    -- which is few
    pub turn_few : length vm ≤ max_edges → sum ≡ squares_to (of_variables mechanisms vm vo) v → sum + (end - start) * (end - start) ≤ max_edges * max_edges
    turn_few few e = omega (arith, squares_turn e, squares_few max_edges few (v + 1) (omega arith))

  -- all of them
  pub squares_done : (v sum : ℕ) → length vm ≤ max_edges → v ≤ mechanisms → mechanisms ≤ v → sum ≡ squares_to (of_variables mechanisms vm vo) v
      → (sum ≡ squared_degrees (of_variables mechanisms vm vo)) × (sum ≤ max_edges * max_edges)
  unfolding squared_degrees
  squares_done v sum few h k e =
      let all : v ≡ mechanisms = omega arith in
      (e ∙ ap (squares_to (of_variables mechanisms vm vo)) all, omega (arith, e, squares_few max_edges few v h))

module _ (schedule : Schedule) (mechanisms : ℕ) (cv vm vo : List ℕ) where
  -- what an iteration writes goes by the edges and by the mechanisms' messages: the checks make no difference
  pub each_same : (c c' : ℕ) (co co' vc vc' : List ℕ) → stores_each schedule (graph c mechanisms cv co vc vm vo) ≡ stores_each schedule (graph c' mechanisms cv co' vc' vm vo)
  unfolding squared_degrees degree
  each_same c c' co co' vc vc' = by schedule
    where
      by : (s : Schedule) → stores_each s (graph c mechanisms cv co vc vm vo) ≡ stores_each s (graph c' mechanisms cv co' vc' vm vo)
      by Flooding = refl
      by CheckSerial = refl

  -- what an iteration of CheckSerial writes, as the code has it
  pub each_serial : (r : ℕ) → schedule ≡ CheckSerial → r ≡ squared_degrees (of_variables mechanisms vm vo)
      → length cv + r ≡ stores_each schedule (walked 0 mechanisms cv [] vm vo)
  unfolding squared_degrees degree
  each_serial r e h = ap (λ n. length cv + n) h ∙ ap (λ s. stores_each s (walked 0 mechanisms cv [] vm vo)) (sym e)
