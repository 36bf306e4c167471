-- What a run leaves, over the lists that were lent, is the best of its legs. Assumes nothing.
use Prim.Native.Nat.{ℕ, ◌+◌, ◌-◌, ◌*◌, ◌<◌, ◌≤◌}
use native.Mathlib.Omega.{arith}
use mathlib.Core.Path.{◌≡◌, refl, sym, ap, ◌∙◌}
use mathlib.Core.Bool.{Bool, true, false, true≢false, false≢true, cond}
use mathlib.Core.List.{List}
use mathlib.Core.Option.{Option, none, some}
use lib.Ieee.{Float, nan}
use lib.ListN.{length, get_or, drop, replicate, length-append, get_or-append}
use lib.Seq.{ext_get_or}
use Rattle.numbers.specs.Loops.{over}
use Rattle.numbers.proofs.Loops.{length_part, get_d_part}
use Rattle.std.specs.Prelude.{Ok}
use Rattle.graph_lists.specs.Model.{is_graph}
use Rattle.relay_step.specs.Leg.{Leg, satisfied}
use Rattle.relay_step.proofs.Weights.{hard_bits_lem, hard_many}
use Rattle.relay_calls.specs.declared.LegRecord.{LegRecord}
use Rattle.relay_calls.specs.Records.{values_of, record_of_leg}
use Rattle.relay_calls.specs.Decode.{Shot, Run, correction_of}
use Rattle.relay_calls.specs.Calls.{DecodeLists, Summary, summary, summary_of, answered, left_by}
use Rattle.relay_calls.proofs.LegEntries.{Entry, many, bits_of, weight_of, record_for}
use Rattle.relay_orders.proofs.Counts.{sum_below}
use Rattle.relay_stores.proofs.Sums.{sum_same}
use Rattle.relay_calls.proofs.BestSoFar.{row_in, row_room, row_long, BestAt, BestOf, Holds}
use Rattle.relay_laws.specs.BestOfLegs.{Filed, filed, AreBits, Satisfies, Fails, leg_of, iterations_of, row_of, ConvergedAt, Blank, RowHolds, BestOfLegs}
use Rattle.relay_laws.proofs.LegLists.{entry_over, answered_legs}
use Rattle.relay_laws.proofs.Parity.{all_match, not_all}

-- the iterations of a leg are its record's
iterations_of_lem : (b : Bool) (w : Float) (i : ℕ) → iterations_of (record_of_leg b w i) ≡ i
iterations_of_lem true w i = refl
iterations_of_lem false w i = refl

-- a row where the list goes on
row_over : (m many k : ℕ) (rows old : List ℕ) → length rows ≡ many * m → k < many → row_in m (over rows old) k ≡ row_in m rows k
row_over m many k rows old e h =
    let room = row_room m many k h in
    let own : length (row_in m rows k) ≡ m = row_long m many k rows e h in
    let long : length (row_in m (over rows old) k) ≡ m = part_long (over rows old) (omega (arith, e, room, length-append rows (drop (length rows) old))) in
    ext_get_or 0 (row_in m (over rows old) k) (row_in m rows k) (long ∙ sym own)
    (λ j i. get_d_part (k * m) (k * m + m) (over rows old) j 0 (omega (arith, long, i))
    ∙ get_or-append rows (drop (length rows) old) 0 (k * m + j) (omega (arith, e, room, long, i))
    ∙ sym (get_d_part (k * m) (k * m + m) rows j 0 (omega (arith, long, i))))
  where
    part_long : (xs : List ℕ) → k * m + m ≤ length xs → length (row_in m xs k) ≡ m
    part_long xs l = length_part (k * m) (k * m + m) xs l ∙ omega arith

module _ (x : Shot) (is : is_graph x.graph ≡ true) (l : DecodeLists) (run : Run) (legs : ℕ → Leg) (n : ℕ) (first : 1 ≤ n) (within : n ≤ many x) (p : Holds x legs n run) where
  -- how many mechanisms there are
  abbrev mechanisms : ℕ
  mechanisms = x.graph.mechanisms

  -- ---- a leg's hard decision

  bits_are : (k : ℕ) → k < n → AreBits mechanisms (bits_of x (legs k))
  bits_are k h = record { many = hard_many (legs k).left.posterior ∙ (p.ran k h).long; each = hard_bits_lem (legs k).left.posterior }

  -- of a leg that converged
  bits_satisfy : (k : ℕ) → k < n → (legs k).converged ≡ true → Satisfies x.graph x.syndrome (bits_of x (legs k))
  unfolding satisfied
  bits_satisfy k h c = all_match x.graph is (bits_of x (legs k)) (hard_bits_lem (legs k).left.posterior) x.syndrome (sym (p.ran k h).tested ∙ c)

  -- of one that did not
  bits_fail : (k : ℕ) → k < n → (legs k).converged ≡ false → Fails x.graph x.syndrome (bits_of x (legs k))
  unfolding satisfied
  bits_fail k h c = not_all x.graph is (bits_of x (legs k)) (hard_bits_lem (legs k).left.posterior) x.syndrome (sym (p.ran k h).tested ∙ c)

  -- ---- over what is filed, whatever was answered and corrected

  module _ (said : Summary) (correction : List ℕ) (counted : said.executed_legs ≡ n) where
    -- what is filed
    abbrev pub f : Filed
    f =
        record {
          graph = x.graph;
          prior = x.prior;
          syndrome = x.syndrome;
          legs = many x;
          said = said;
          leg_state = over run.leg_state l.leg_state;
          leg_iterations = over run.leg_iterations l.leg_iterations;
          leg_weight = over run.leg_weight l.leg_weight;
          rows = over run.rows l.rows;
          correction = correction;
        }

    -- a leg's record, by its entry
    leg_is : (k : ℕ) (r : LegRecord) → k < many x → Entry run.leg_state run.leg_iterations run.leg_weight k r → leg_of f k ≡ r
    unfolding leg_of
    leg_is k r h e =
        entry_over run.leg_state run.leg_iterations l.leg_state l.leg_iterations run.leg_weight l.leg_weight k r
        (omega (arith, p.held.states)) (omega (arith, p.held.iterations)) (omega (arith, p.held.weights)) e

    -- of one that was executed
    leg_said : (k : ℕ) → k < n → leg_of f k ≡ record_for x (legs k)
    leg_said k h = leg_is k (record_for x (legs k)) (omega arith) (p.held.done k h)

    -- its row
    row_is : (k : ℕ) → k < many x → row_of f k ≡ row_in mechanisms run.rows k
    unfolding row_of
    row_is k h = row_over mechanisms (many x) k run.rows l.rows p.rows h

    row_said : (k : ℕ) (b : Bool) → k < n → (legs k).converged ≡ b → row_of f k ≡ cond b (bits_of x (legs k)) (replicate mechanisms 0)
    row_said k b h c = row_is k (omega arith) ∙ p.row k h ∙ ap (λ (b : Bool). cond b (bits_of x (legs k)) (replicate mechanisms 0)) c

    -- and its weight in the list, by its entry
    weight_is : (k : ℕ) (r : LegRecord) → k < many x → Entry run.leg_state run.leg_iterations run.leg_weight k r → get_or f.leg_weight k nan ≡ (values_of r).leg_weight
    weight_is k r h e = get_or-append run.leg_weight (drop (length run.leg_weight) l.leg_weight) nan k (omega (arith, p.held.weights)) ∙ e.weight

    -- what a converged record tells
    record Told (k : ℕ) (w : Float) : Type 0 where
      pub executed : k < n
      pub converged : (legs k).converged ≡ true
      pub weight : weight_of x (legs k) ≡ w

    told : (k : ℕ) (w : Float) → ConvergedAt f k w → Told k w
    told k w c =
        let h : k < n = omega (arith, c.executed, counted) in
        go h (legs k).converged refl (sym (leg_said k h) ∙ c.says)
      where
        go : k < n → (b : Bool) → (legs k).converged ≡ b → record_of_leg b (weight_of x (legs k)) (legs k).iterations ≡ LegRecord.Converged w c.iterations → Told k w
        go h false e q = absurd (let z : ◌≡◌ {A = ℕ} 0 1 = cc in omega arith)
        go h true e q = record { executed = h; converged = e; weight = cc }

    -- and where one stands
    converged_at : (k : ℕ) → k < n → (legs k).converged ≡ true → ConvergedAt f k (weight_of x (legs k))
    converged_at k h c =
        record {
          executed = omega (arith, counted);
          iterations = (legs k).iterations;
          says = leg_said k h ∙ ap (λ (b : Bool). record_of_leg b (weight_of x (legs k)) (legs k).iterations) c;
        }

    -- the iterations that its record tells
    iterations_said : (k : ℕ) → k < n → iterations_of (leg_of f k) ≡ (legs k).iterations
    iterations_said k h = ap iterations_of (leg_said k h) ∙ iterations_of_lem (legs k).converged (weight_of x (legs k)) (legs k).iterations

    -- 4
    total_said : said.total_iterations ≡ run.total_iterations → said.total_iterations ≡ sum_below said.executed_legs (λ k. iterations_of (leg_of f k))
    total_said e =
        e
        ∙ p.total
        ∙ sum_same n (λ k. (legs k).iterations) (λ k. iterations_of (leg_of f k)) (λ k h. sym (iterations_said k h))
        ∙ ap (λ (k : ℕ). sum_below k (λ k. iterations_of (leg_of f k))) (sym counted)

    each_ran : (k : ℕ) → k < said.executed_legs → 1 ≤ iterations_of (leg_of f k)
    each_ran k h = let i : k < n = omega (arith, counted) in omega (arith, iterations_said k i, (p.ran k i).once)

    -- 5
    row_holds : (k : ℕ) (w : Float) → ConvergedAt f k w → RowHolds f k w
    row_holds k w c =
        let t = told k w c in
        let row : row_of f k ≡ bits_of x (legs k) = row_said k true t.executed t.converged in
        record {
          bits = rw row (bits_are k t.executed);
          satisfies = rw row (bits_satisfy k t.executed t.converged);
          again = rw row (sym t.weight);
          finite = rw (← t.weight) (p.ran k t.executed).finite;
        }

    out_is_blank : (k i : ℕ) → k < said.executed_legs → leg_of f k ≡ LegRecord.RanOut i → Blank f k
    out_is_blank k i h e =
        let j : k < n = omega (arith, counted) in
        go j (legs k).converged refl (sym (leg_said k j) ∙ e)
      where
        go : k < n → (b : Bool) → (legs k).converged ≡ b → record_of_leg b (weight_of x (legs k)) (legs k).iterations ≡ LegRecord.RanOut i → Blank f k
        go j true c q = absurd (let z : ◌≡◌ {A = ℕ} 0 1 = cc in omega arith)
        go j false c q =
            record {
              row = row_said k false j c;
              weight =
                  weight_is k (record_for x (legs k)) (omega arith) (p.held.done k j)
                  ∙ ap (λ (b : Bool). (values_of (record_of_leg b (weight_of x (legs k)) (legs k).iterations)).leg_weight) c;
            }

    -- a leg that was not executed
    rest_is : (k : ℕ) → said.executed_legs ≤ k → k < many x → Entry run.leg_state run.leg_iterations run.leg_weight k LegRecord.NotExecuted
    rest_is k h i = p.held.rest k (omega (arith, counted)) i

    not_executed_is : (k : ℕ) → said.executed_legs ≤ k → k < many x → leg_of f k ≡ LegRecord.NotExecuted
    not_executed_is k h i = leg_is k LegRecord.NotExecuted i (rest_is k h i)

    left_is_blank : (k : ℕ) → said.executed_legs ≤ k → k < many x → Blank f k
    left_is_blank k h i =
        record { row = row_is k i ∙ p.blank k (omega (arith, counted)) i; weight = weight_is k LegRecord.NotExecuted i (rest_is k h i) }

  -- ---- the answer

  module _ (total stores : ℕ) (all : total ≡ run.total_iterations) where
    -- a leg converged: the best of them
    best_some : (w : Float) (correction : List ℕ) → BestAt x legs n w correction → BestOfLegs (f (summary (Ok tt) true n total stores (some w)) correction refl)
    best_some w correction b =
        let s = summary (Ok tt) true n total stores (some w) in
        let at : ConvergedAt (f s correction refl) b.leg w = rw b.weighs at (converged_at s correction refl b.leg b.within b.converged) in
        let row : row_of (f s correction refl) b.leg ≡ correction = row_said s correction refl b.leg true b.within b.converged ∙ b.bits in
        let holds = row_holds s correction refl b.leg w at in
        record {
          bits = rw (← row) holds.bits;
          converges = (λ _. (b.leg, w, at), λ _. refl);
          least =
              λ _.
              record {
                leg = b.leg;
                weight = w;
                converged = at;
                row = row;
                answered = refl;
                least = λ r v c. let t = told s correction refl r v c in rw (← t.weight) (b.least r t.executed t.converged);
                earliest = λ r v h c. let t = told s correction refl r v c in rw (← t.weight) (b.earliest r h t.converged);
              };
          satisfies = λ _. rw (← row) holds.satisfies;
          fails = λ e. absurd (true≢false e);
          no_weight = λ e. absurd (true≢false e);
          total = total_said s correction refl all;
          some_leg = first;
          legs_within = within;
          ran = each_ran s correction refl;
          rows_hold = row_holds s correction refl;
          out_blank = out_is_blank s correction refl;
          not_executed = not_executed_is s correction refl;
          left_blank = left_is_blank s correction refl;
        }

    -- none did: the hard decision of the last
    best_none : ((k : ℕ) → k < n → (legs k).converged ≡ false) → BestOfLegs (f (summary (Ok tt) false n total stores none) run.hard_bits refl)
    best_none out =
        let s = summary (Ok tt) false n total stores none in
        let k = n - 1 in
        let i : k < n = omega arith in
        let is_last : run.hard_bits ≡ bits_of x (legs k) = p.last k (omega arith) in
        record {
          bits = rw is_last (bits_are k i);
          converges = (
            λ e. absurd (false≢true e),
            λ c. absurd (let t = told s run.hard_bits refl c.0 c.1 c.2 in false≢true (sym (out c.0 t.executed) ∙ t.converged)),
          );
          least = λ e. absurd (false≢true e);
          satisfies = λ e. absurd (false≢true e);
          fails = λ _. rw is_last (bits_fail k i (out k i));
          no_weight = λ _. refl;
          total = total_said s run.hard_bits refl all;
          some_leg = first;
          legs_within = within;
          ran = each_ran s run.hard_bits refl;
          rows_hold = row_holds s run.hard_bits refl;
          out_blank = out_is_blank s run.hard_bits refl;
          not_executed = not_executed_is s run.hard_bits refl;
          left_blank = left_is_blank s run.hard_bits refl;
        }

-- however a run ended: over its lists, and those that were lent
pub best_of_run : (edges : ℕ) (x : Shot) (l : DecodeLists) (run : Run) (legs : ℕ → Leg) (stores : ℕ) → is_graph x.graph ≡ true → 1 ≤ run.executed_legs → run.executed_legs ≤ many x
    → Holds x legs run.executed_legs run → BestOfLegs (filed x (answered run stores run.best_weight) (left_by edges x run l))
unfolding left_by
best_of_run edges x l run legs stores is first within p = go run.best_weight p.best
  where
    go : (best : Option Float) → BestOf x legs run.executed_legs best run.best_correction
        → BestOfLegs (f x is l run legs run.executed_legs first within p (summary_of (answered run stores best)) (correction_of run best) (answered_legs run stores best))
    go none out = best_none x is l run legs run.executed_legs first within p run.total_iterations stores refl out
    go (some w) b = best_some x is l run legs run.executed_legs first within p run.total_iterations stores refl w run.best_correction b
