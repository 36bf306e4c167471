-- One leg of a decode, as the code has it: its limit, the leg as executed, what it adds to the records, and its row in the flat list. Assumes nothing.
use mathlib.Core.Path.{◌≡◌, refl, sym, ap, ◌∙◌}
use mathlib.Core.Bool.{Bool, true, false, cond}
use mathlib.Core.List.{List, [], ◌++◌}
use mathlib.Core.Logic.{inr}
use mathlib.Core.Option.{Option}
use Prim.Native.Nat.{ℕ, zero, suc, ◌+◌, ◌-◌, ◌*◌, ◌<◌, ◌≤◌}
use native.Mathlib.Omega.{arith}
use lib.Ieee.{Float}
use lib.ListN.{length, get_or, take, drop, replicate, length-replicate, get_or-replicate}
use lib.Seq.{ext_get_or}
use Rattle.numbers.specs.Loops.{spliced}
use Rattle.numbers.proofs.Loops.{length_spliced, spliced_out, spliced_in}
use Rattle.graph_lists.specs.Messages.{by_place, from_variables, cleared}
use Rattle.graph_messages.specs.Sides.{sides, checks_alone}
use Rattle.graph_messages.specs.declared.rows.Rows.{Rows}
use Rattle.relay_settings.specs.declared.Settings.{Settings}
use Rattle.relay_settings.specs.declared.GammaSource.TheVariants.{Explicit}
use Rattle.relay_step.specs.Step.{State, state, iteration}
use Rattle.relay_gammas.specs.Gammas.{gamma_of}
use Rattle.relay_step.specs.Leg.{Leg, leg, start_leg, hard_decision, matches, satisfied, run_leg, correction_weight}
use Rattle.relay_calls.specs.Decode.{Shot, iteration_limit, step_of, executed_leg}
use Rattle.relay_record.specs.Kept.{Kept, kept, best_after, corrected, kept_with, row_after, kept_after, Blank}
use Rattle.relay_leg.specs.Legs.{shot_by, LegReads}
use Rattle.relay_step.proofs.Parts.{Stands, out, within, stands}
use Rattle.relay_calls.proofs.BestSoFar.{row_room, limit_some}
use Rattle.relay_calls.proofs.LegStores.{leg_few}
use Rattle.relay_record.proofs.Tallies.{Entered}

-- ---- the limit

-- leg zero's
pub limit_zero : (t : Settings) (r : ℕ) → r ≡ 0 → t.pre_iterations ≡ iteration_limit t r
unfolding iteration_limit
limit_zero t r e = rw e

-- a relayed leg's
pub limit_relayed : (t : Settings) (r : ℕ) → (r ≡ 0 → ⊥) → t.leg_iterations ≡ iteration_limit t r
unfolding iteration_limit
limit_relayed t zero h = absurd (h refl)
limit_relayed t (suc r) h = refl

module _ (t : Settings) (flat : List Float) (syndrome : List ℕ) (prior : List Float) (checks variables : Rows) (order : List ℕ) (reads : LegReads t flat syndrome prior checks variables order) where
  -- a leg has some iteration
  pub some_limit : (r : ℕ) → r ≤ t.num_legs → 0 < iteration_limit t r
  some_limit = limit_some t reads.pre_some reads.leg_some

  -- and no more than may be
  pub limit_few : (r : ℕ) → iteration_limit t r ≤ 65535
  unfolding iteration_limit
  limit_few zero = reads.pre_few
  limit_few (suc r) = reads.leg_few

  -- the sets of an explicit source, by the length of a list of gammas
  pub sets_along : (gamma : List Float) (r : ℕ) → length gamma ≡ variables.rows → r ≤ t.num_legs → 0 < r → (sets : ℕ) → t.gamma_source ≡ Explicit sets
      → (0 < sets) × (length flat ≡ sets * length gamma)
  sets_along gamma r e h k sets s = let w = reads.sets_many (omega arith) sets s in (w.0, rw e w.1)

  -- a leg's row lies within the flat list of rows
  pub row_within : (rows : List ℕ) (r : ℕ) → length rows ≡ suc t.num_legs * variables.rows → r ≤ t.num_legs → r * variables.rows + variables.rows ≤ length rows
  row_within rows r e h = omega (arith, e, row_room variables.rows (suc t.num_legs) r (omega arith))

-- ---- the leg as executed

module _ (t : Settings) (flat : List Float) (seed : ℕ) (syndrome : List ℕ) (prior : List Float) (checks variables : Rows) (order : List ℕ) where
  -- it is the definition's leg, and takes no more iterations than its limit
  pub executed_is : (r limit : ℕ) (gamma c v p : List Float) (l : Leg) → gamma ≡ gamma_of t flat variables.rows seed r
      → state c v [] ≡ start_leg (checks_alone checks) prior [] → limit ≡ iteration_limit t r
      → l ≡ run_leg (iteration t.schedule by_place (sides checks variables) t.alpha t.clip syndrome prior gamma order) (satisfied (checks_alone checks) syndrome) limit false 0 (state c v p)
      → (l ≡ executed_leg by_place (shot_by t flat seed syndrome prior checks variables order) r p) × (l.iterations ≤ iteration_limit t r)
  unfolding executed_leg step_of start_leg cleared from_variables satisfied matches
  executed_is r limit gamma c v p l g s e q =
      let u : state c v p ≡ start_leg (sides checks variables) prior p = ap (λ (z : State). state z.c_to_v z.v_to_c p) s in
      let few = leg_few (iteration t.schedule by_place (sides checks variables) t.alpha t.clip syndrome prior gamma order) (satisfied
      (checks_alone checks) syndrome) limit false 0 (state c v p) in
      (q ∙ rw (g, e, u), omega (arith, ap (λ (y : Leg). y.iterations) q, few, e))

-- ---- what a leg adds

module _ (x : Shot) (r : ℕ) (best best' : Option Float) (num num' total total' : ℕ) (ss ss' is is' : List ℕ) (ws ws' : List Float) (row row' cor cor' : List ℕ) (p' : List Float) (l : Leg) where
  -- all that it adds: `row` is its hard decision, and `row'` what it leaves of it
  pub row_turn : (c v : List Float) (b : Bool) (k m : ℕ) → m ≡ x.graph.mechanisms → leg b k (state c v p') ≡ l → row ≡ hard_decision p' → length row ≡ x.graph.mechanisms
      → best' ≡ best_after b best (correction_weight x.prior row m)
      → (num' ≡ num + cond b 1 0) × (total' ≡ total + k)
      → Entered b (correction_weight x.prior row m) k r ss is ws ss' is' ws'
      → row' ≡ cond b row (replicate (length row) 0)
      → cor' ≡ corrected b best (correction_weight x.prior row m) row cor
      → kept best' num' total' (suc r) ss' is' ws' row' cor' p' ≡ kept_with x (kept best num total r ss is ws [] cor []) r l (row_after x l)
  unfolding kept_with row_after
  row_turn c v b k m z e h many q n s w o = rw (q, n.0, n.1, s.0, s.1, s.2, w, many, o, z, ← e, h)

-- ---- the row in the flat list

module _ (rows : List ℕ) (m r : ℕ) (z : Blank (r * m) rows) (h : r * m + m ≤ length rows) where
  -- a blank row written over a blank row
  blank_row : spliced rows (r * m) (r * m + m) (replicate m 0) ≡ rows
  blank_row =
      ext_get_or 0 _ rows (length_spliced rows (r * m) (r * m + m) (replicate m 0) (omega arith) h many) (λ i _. go i (stands (r * m) (r * m + m) i))
    where
      many : length (replicate {A = ℕ} m 0) ≡ r * m + m - r * m
      many = omega (arith, length-replicate {A = ℕ} m 0)

      go : (i : ℕ) → Stands (r * m) (r * m + m) i → get_or (spliced rows (r * m) (r * m + m) (replicate m 0)) i 0 ≡ get_or rows i 0
      go i (out o) = spliced_out rows (r * m) (r * m + m) (replicate m 0) (omega arith) h many i 0 o
      go i (within j e o) =
          rw e
          (spliced_in rows (r * m) (r * m + m) (replicate m 0) (omega arith) h many j 0 o
          ∙ get_or-replicate m j 0 0 (omega arith)
          ∙ sym (z.blank (r * m + j) (omega arith)))

  -- a row that is kept, or cleared again
  row_spliced : (b : Bool) (bits : List ℕ) → spliced rows (r * m) (r * m + m) (cond b bits (replicate m 0)) ≡ cond b (spliced rows (r * m) (r * m + m) bits) rows
  row_spliced true bits = refl
  row_spliced false bits = blank_row

  -- the rows after it are still blank
  pub blank_after : (row tail : List ℕ) → length row ≡ m → tail ≡ drop (r * m + m) rows → Blank (r * m + m) (take (r * m) rows ++ (row ++ tail))
  blank_after row tail e d =
      record {
        blank =
            λ i k.
            rw d
            (spliced_out rows (r * m) (r * m + m) row (omega arith) h (omega arith) i 0 (inr k)
            ∙ z.blank i (omega arith));
      }

  module _ (x : Shot) (mechanisms : x.graph.mechanisms ≡ m) (best best' : Option Float)
      (num num' total total' : ℕ) (ss ss' is is' : List ℕ) (ws ws' : List Float) (row tail cor cor' : List ℕ) (p p' : List Float) (l : Leg) where
    -- the leg's row back in its place
    pub rows_turn : kept best' num' total' (suc r) ss' is' ws' row cor' p' ≡ kept_with x (kept best num total r ss is ws [] cor []) r l (row_after x l)
        → tail ≡ drop (r * m + m) rows
        → kept best' num' total' (suc r) ss' is' ws' (take (r * m) rows ++ (row ++ tail)) cor' p' ≡ kept_after x (kept best num total r ss is ws rows cor p) r l
    unfolding kept_with kept_after row_after
    rows_turn e d =
        let own : row ≡ cond l.converged (hard_decision l.left.posterior) (replicate m 0) = rw (← mechanisms) (ap (λ (k : Kept). k.rows) e) in
        let back : take (r * m) rows ++ (row ++ tail) ≡ cond l.converged (spliced rows (r * m) (r * m + m) (hard_decision l.left.posterior)) rows =
        rw (d, own) (row_spliced l.converged (hard_decision l.left.posterior)) in
        ap (λ (k : Kept). kept k.best k.num_converged k.total_iterations
        k.executed_legs k.leg_state k.leg_iterations k.leg_weight (take (r * m) rows ++ (row ++ tail)) k.correction k.posterior) e
        ∙ rw (back, mechanisms)

-- how far the counts go
pub counts_few : (b : Bool) (k num num' total total' : ℕ) → (num' ≡ num + cond b 1 0) × (total' ≡ total + k) → k ≤ 65535
    → (num' ≤ num + 1) × (total' ≤ total + 65535)
counts_few true k num num' total total' e h = (omega (arith, e.0), omega (arith, e.1))
counts_few false k num num' total total' e h = (omega (arith, e.0), omega (arith, e.1))
