-- What a run says of the legs that it has recorded, one leg more at a time: the leg lists, each leg's row, the sum of the iterations, and which of the converged legs is the
-- best. `relay_laws` says it of what a decode leaves. Assumes nothing.
use Prim.Native.Nat.{ℕ, zero, suc, ◌+◌, ◌-◌, ◌*◌, ◌<◌, ◌≤◌}
use native.Mathlib.Nat.{mul-le-mul_right, suc-mul}
use native.Mathlib.Omega.{arith}
use mathlib.Core.Path.{◌≡◌, refl, sym, ap, ◌∙◌}
use mathlib.Core.Bool.{Bool, true, false, ◌&&◌, false≢true, cond}
use mathlib.Core.List.{List}
use mathlib.Core.Logic.{◌⊎◌, inl, inr, ⊎_elim}
use mathlib.Core.Option.{Option, none, some}
use lib.Ieee.{Float, lt, le}
use lib.ListN.{length, replicate, length-replicate, get_or-replicate}
use lib.Seq.{ext_get_or}
use Rattle.numbers.specs.Floats.{is_finite}
use Rattle.numbers.specs.Loops.{part, spliced}
use Rattle.numbers.proofs.Cases.{last_or_before, less_or_not}
use Rattle.numbers.proofs.Loops.{length_part, get_d_part, length_spliced, spliced_in, spliced_out}
use Rattle.numbers.proofs.Order.{lt_le, le_itself, not_below, below_along, finite_number}
use Rattle.relay_settings.specs.declared.Settings.{Settings}
use Rattle.relay_orders.proofs.Counts.{sum_below}
use Rattle.relay_step.specs.Leg.{Leg, satisfied}
use Rattle.relay_step.proofs.Weights.{hard_many}
use Rattle.relay_calls.specs.Decode.{Shot, iteration_limit, Run, start_run, is_none_or, recorded, correction_of}
use Rattle.relay_calls.proofs.LegEntries.{many, bits_of, weight_of, Held, held_none, held_more}

-- ---- a row of the flat list

-- the row k, of m bits
abbrev pub row_in : ℕ → List ℕ → ℕ → List ℕ
row_in m rows k = part (k * m) (k * m + m) rows

-- it ends where `many` rows end, or before
pub row_room : (m many k : ℕ) → k < many → k * m + m ≤ many * m
row_room m many k h = omega (arith, mul-le-mul_right m h, suc-mul k m)

-- so many bits
pub row_long : (m many k : ℕ) (rows : List ℕ) → length rows ≡ many * m → k < many → length (row_in m rows k) ≡ m
row_long m many k rows e h = length_part (k * m) (k * m + m) rows (omega (arith, e, row_room m many k h)) ∙ omega arith

-- of zeroes, zeroes
row_zero : (m many k : ℕ) → k < many → row_in m (replicate (many * m) 0) k ≡ replicate m 0
row_zero m many k h =
    let long : length (row_in m (replicate (many * m) 0) k) ≡ m = row_long m many k (replicate (many * m) 0) (length-replicate (many * m) 0) h in
    ext_get_or 0 (row_in m (replicate (many * m) 0) k) (replicate m 0) (long ∙ sym (length-replicate m 0))
    (λ j i. get_d_part (k * m) (k * m + m) (replicate (many * m) 0) j 0 (omega (arith, long, i))
    ∙ get_or-replicate (many * m) (k * m + j) 0 0 (omega (arith, long, i, row_room m many k h))
    ∙ sym (get_or-replicate m j 0 0 (omega (arith, long, i))))

-- with the row r written over
module _ (m many r : ℕ) (rows bits : List ℕ) (long : length rows ≡ many * m) (inside : r < many) (fits : length bits ≡ m) where
  abbrev rows_after : List ℕ
  rows_after = spliced rows (r * m) (r * m + m) bits

  ends : r * m + m ≤ length rows
  ends = omega (arith, long, row_room m many r inside)

  fills : length bits ≡ r * m + m - r * m
  fills = omega (arith, fits)

  rows_long : length rows_after ≡ many * m
  rows_long = length_spliced rows (r * m) (r * m + m) bits (omega arith) ends fills ∙ long

  -- it is there
  row_own : row_in m rows_after r ≡ bits
  row_own =
      let own : length (row_in m rows_after r) ≡ m = row_long m many r rows_after rows_long inside in
      ext_get_or 0 (row_in m rows_after r) bits (own ∙ sym fits)
      (λ j i. get_d_part (r * m) (r * m + m) rows_after j 0 (omega (arith, own, i))
      ∙ spliced_in rows (r * m) (r * m + m) bits (omega arith) ends fills j 0 (omega (arith, own, i)))

  -- and another row is as it was
  row_other : (k : ℕ) → k < many → (k ≡ r → ⊥) → row_in m rows_after k ≡ row_in m rows k
  row_other k h n =
      let a : length (row_in m rows_after k) ≡ m = row_long m many k rows_after rows_long h in
      let b : length (row_in m rows k) ≡ m = row_long m many k rows long h in
      ext_get_or 0 (row_in m rows_after k) (row_in m rows k) (a ∙ sym b)
      (λ j i. get_d_part (k * m) (k * m + m) rows_after j 0 (omega (arith, a, i))
      ∙ spliced_out rows (r * m) (r * m + m) bits (omega arith) ends fills (k * m + j) 0 (apart j (omega (arith, a, i)))
      ∙ sym (get_d_part (k * m) (k * m + m) rows j 0 (omega (arith, a, i))))
    where
      apart : (j : ℕ) → j < m → (k * m + j < r * m) ⊎ (r * m + m ≤ k * m + j)
      apart j l = ⊎_elim (λ b. inl (omega (arith, row_room m r k b))) (λ b. inr (omega (arith, row_room m k r (omega arith)))) (less_or_not k r)

-- ---- a leg

-- it may take some iteration, by settings that pass 12 and 14
pub limit_some : (t : Settings) → 0 < t.pre_iterations → (0 < t.num_legs → 0 < t.leg_iterations) → (r : ℕ) → r ≤ t.num_legs → 0 < iteration_limit t r
unfolding iteration_limit
limit_some t pre legs zero h = pre
limit_some t pre legs (suc r) h = legs (omega arith)

-- what a leg that was executed is like: it took some iteration, it converged exactly when its hard decision passes the test, and its weight is finite
pub record Ran (x : Shot) (l : Leg) : Type 0 where
  pub once : 1 ≤ l.iterations
  pub tested : l.converged ≡ satisfied x.graph x.syndrome l.left.posterior
  pub long : length l.left.posterior ≡ x.graph.mechanisms
  pub finite : is_finite (weight_of x l) ≡ true

module _ (x : Shot) (legs : ℕ → Leg) where
  -- ---- the best of the first r legs

  -- the leg that is it, by its weight and its hard decision
  pub record BestAt (r : ℕ) (weight : Float) (correction : List ℕ) : Type 0 where
    pub leg : ℕ
    pub within : leg < r
    pub converged : (legs leg).converged ≡ true
    pub weighs : weight_of x (legs leg) ≡ weight
    pub bits : bits_of x (legs leg) ≡ correction
    pub least : (k : ℕ) → k < r → (legs k).converged ≡ true → le weight (weight_of x (legs k)) ≡ true
    pub earliest : (k : ℕ) → k < leg → (legs k).converged ≡ true → lt weight (weight_of x (legs k)) ≡ true

  -- if there is one
  abbrev pub BestOf : ℕ → Option Float → List ℕ → Type 0
  BestOf r none correction = (k : ℕ) → k < r → (legs k).converged ≡ false
  BestOf r (some weight) correction = BestAt r weight correction

  -- one more
  module _ (r : ℕ) (ran : (k : ℕ) → k < suc r → Ran x (legs k)) where
    -- the best before it stays the best where the new one is not below it
    best_stays : (w : Float) (correction : List ℕ) → BestAt r w correction → ((legs r).converged ≡ true → le w (weight_of x (legs r)) ≡ true) → BestAt (suc r) w correction
    best_stays w correction b new =
        record {
          leg = b.leg;
          within = omega (arith, b.within);
          converged = b.converged;
          weighs = b.weighs;
          bits = b.bits;
          least = λ k l c. ⊎_elim (λ (e : k ≡ r). rw e (new (rw (← e) c))) (λ (h : k < r). b.least k h c) (last_or_before k r l);
          earliest = b.earliest;
        }

    -- a converged one is the best where it is below each before it
    best_new : (legs r).converged ≡ true → ((k : ℕ) → k < r → (legs k).converged ≡ true → lt (weight_of x (legs r)) (weight_of x (legs k)) ≡ true)
        → BestAt (suc r) (weight_of x (legs r)) (bits_of x (legs r))
    best_new c below =
        record {
          leg = r;
          within = omega arith;
          converged = c;
          weighs = refl;
          bits = refl;
          least =
              λ k l d.
              ⊎_elim
              (λ (e : k ≡ r). rw e (le_itself (weight_of x (legs r)) (finite_number (weight_of x (legs r)) (ran r (omega arith)).finite)))
              (λ (h : k < r). lt_le (weight_of x (legs r)) (weight_of x (legs k)) (below k h d))
              (last_or_before k r l);
          earliest = below;
        }

    -- by how it compares with the best before it
    best_compared : (w : Float) (correction : List ℕ) (b : Bool) → lt (weight_of x (legs r)) w ≡ b → (legs r).converged ≡ true → BestAt r w correction
        → BestOf (suc r) (cond b (some (weight_of x (legs r))) (some w)) (cond b (bits_of x (legs r)) correction)
    best_compared w correction true e c best = best_new c (λ k h d. below_along (weight_of x (legs r)) w (weight_of x (legs k)) e (best.least k h d))
    best_compared w correction false e c best =
        let new = finite_number (weight_of x (legs r)) (ran r (omega arith)).finite in
        let old = finite_number w (rw (← best.weighs) (ran best.leg (omega (arith, best.within))).finite) in
        best_stays w correction best (λ _. not_below (weight_of x (legs r)) w new old e)

    -- one that converged
    best_converged : (best : Option Float) (correction : List ℕ) → (legs r).converged ≡ true → BestOf r best correction
        → BestOf (suc r) (cond (is_none_or best (weight_of x (legs r))) (some (weight_of x (legs r))) best) (cond (is_none_or best (weight_of x (legs r))) (bits_of x (legs r)) correction)
    best_converged none correction c out = best_new c (λ k h d. absurd (false≢true (sym (out k h) ∙ d)))
    best_converged (some w) correction c best = best_compared w correction (lt (weight_of x (legs r)) w) refl c best

    -- one that ran out
    best_out : (best : Option Float) (correction : List ℕ) → (legs r).converged ≡ false → BestOf r best correction → BestOf (suc r) best correction
    best_out none correction c out = λ k l. ⊎_elim (λ (e : k ≡ r). rw e c) (λ (h : k < r). out k h) (last_or_before k r l)
    best_out (some w) correction c best = best_stays w correction best (λ d. absurd (false≢true (sym c ∙ d)))

    -- either
    best_more : (b : Bool) → (legs r).converged ≡ b → (best : Option Float) (correction : List ℕ) → BestOf r best correction
        → BestOf (suc r) (cond (b && is_none_or best (weight_of x (legs r))) (some (weight_of x (legs r))) best)
        (cond (b && is_none_or best (weight_of x (legs r))) (bits_of x (legs r)) correction)
    best_more true c best correction h = best_converged best correction c h
    best_more false c best correction h = best_out best correction c h

  -- ---- a run

  -- a leg's row: its correction, or zeroes
  abbrev pub row_for : Leg → List ℕ
  row_for l = cond l.converged (bits_of x l) (replicate x.graph.mechanisms 0)

  -- all of it after r legs
  pub record Holds (r : ℕ) (run : Run) : Type 0 where
    pub held : Held x legs r run
    pub posterior : length run.posterior ≡ x.graph.mechanisms
    pub rows : length run.rows ≡ many x * x.graph.mechanisms
    pub ran : (k : ℕ) → k < r → Ran x (legs k)
    pub row : (k : ℕ) → k < r → row_in x.graph.mechanisms run.rows k ≡ row_for (legs k)
    pub blank : (k : ℕ) → r ≤ k → k < many x → row_in x.graph.mechanisms run.rows k ≡ replicate x.graph.mechanisms 0
    pub total : run.total_iterations ≡ sum_below r (λ k. (legs k).iterations)
    pub best : BestOf r run.best_weight run.best_correction
    pub last : (k : ℕ) → r ≡ suc k → correction_of run none ≡ bits_of x (legs k)

  -- before the first
  pub holds_none : length x.prior ≡ x.graph.mechanisms → Holds 0 (start_run x)
  unfolding start_run
  holds_none e =
      record {
        held = held_none x legs;
        posterior = e;
        rows = length-replicate (many x * x.graph.mechanisms) 0;
        ran = λ k h. absurd (omega arith);
        row = λ k h. absurd (omega arith);
        blank = λ k h l. row_zero x.graph.mechanisms (many x) k l;
        total = refl;
        best = λ k h. absurd (omega arith);
        last = λ k h. absurd (omega arith);
      }

  -- one more
  module _ (r : ℕ) (inside : r < many x) (run : Run) (p : Holds r run) (new : Ran x (legs r)) where
    -- as many bits as mechanisms
    bits_many : length (bits_of x (legs r)) ≡ x.graph.mechanisms
    bits_many = hard_many (legs r).left.posterior ∙ new.long

    -- the rows, by whether it converged
    abbrev rows_by : Bool → List ℕ
    rows_by b = cond b (spliced run.rows (r * x.graph.mechanisms) (r * x.graph.mechanisms + x.graph.mechanisms) (bits_of x (legs r))) run.rows

    rows_by_lem : (b : Bool) → length (rows_by b) ≡ many x * x.graph.mechanisms
    rows_by_lem true = rows_long x.graph.mechanisms (many x) r run.rows (bits_of x (legs r)) p.rows inside bits_many
    rows_by_lem false = p.rows

    own_by : (b : Bool) → row_in x.graph.mechanisms (rows_by b) r ≡ cond b (bits_of x (legs r)) (replicate x.graph.mechanisms 0)
    own_by true = row_own x.graph.mechanisms (many x) r run.rows (bits_of x (legs r)) p.rows inside bits_many
    own_by false = p.blank r (omega arith) inside

    other_by : (b : Bool) (k : ℕ) → k < many x → (k ≡ r → ⊥) → row_in x.graph.mechanisms (rows_by b) k ≡ row_in x.graph.mechanisms run.rows k
    other_by true k h n = row_other x.graph.mechanisms (many x) r run.rows (bits_of x (legs r)) p.rows inside bits_many k h n
    other_by false k h n = refl

    -- each leg so far
    all_ran : (k : ℕ) → k < suc r → Ran x (legs k)
    all_ran k h = ⊎_elim (λ (e : k ≡ r). rw e new) (λ (l : k < r). p.ran k l) (last_or_before k r h)

    pub holds_more : Holds (suc r) (recorded x run r (legs r))
    unfolding recorded
    holds_more =
        record {
          held = held_more x legs r inside run p.held;
          posterior = new.long;
          rows = rows_by_lem (legs r).converged;
          ran = all_ran;
          row =
              λ k h.
              ⊎_elim
              (λ (e : k ≡ r). rw e (own_by (legs r).converged))
              (λ (l : k < r). other_by (legs r).converged k (omega arith) (λ e. omega arith) ∙ p.row k l)
              (last_or_before k r h);
          blank = λ k h l. other_by (legs r).converged k l (λ e. omega arith) ∙ p.blank k (omega arith) l;
          total = ap (λ (n : ℕ). n + (legs r).iterations) p.total;
          best = best_more r all_ran (legs r).converged refl run.best_weight run.best_correction p.best;
          last = λ k e. let q : r ≡ k = omega (arith, e) in rw (← q) refl;
        }
