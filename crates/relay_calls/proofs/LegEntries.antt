-- The leg lists of a run, one leg more at a time: at the place of each leg that was executed stand the values of its record, and behind them those of legs that were not.
-- Assumes nothing.
use Prim.Native.Nat.{ℕ, suc, ◌<◌, ◌≤◌}
use native.Mathlib.Omega.{arith}
use mathlib.Core.Path.{◌≡◌, ◌∙◌}
use mathlib.Core.List.{List}
use mathlib.Core.Logic.{⊎_elim}
use lib.Ieee.{Float, nan}
use lib.ListN.{length, get_or, length-set, length-replicate, get_or-replicate}
use lib.Seq.{get_or-set_same, get_or-set_other}
use Rattle.numbers.proofs.Cases.{last_or_before}
use Rattle.relay_step.specs.Leg.{Leg, hard_decision, correction_weight}
use Rattle.relay_calls.specs.declared.LegRecord.{LegRecord}
use Rattle.relay_calls.specs.Records.{values_of, record_of_leg}
use Rattle.relay_calls.specs.Decode.{Shot, Run, start_run, recorded}

-- at the place k of lists stand the values of r
pub record Entry (ss is : List ℕ) (ws : List Float) (k : ℕ) (r : LegRecord) : Type 0 where
  pub state : get_or ss k 0 ≡ (values_of r).leg_state
  pub iterations : get_or is k 0 ≡ (values_of r).leg_iterations
  pub weight : get_or ws k nan ≡ (values_of r).leg_weight

module _ (x : Shot) where
  -- how many legs may be
  abbrev pub many : ℕ
  many = suc x.settings.num_legs

  -- a leg's hard decision, the weight of that, and the leg's record
  abbrev pub bits_of : Leg → List ℕ
  bits_of l = hard_decision l.left.posterior

  abbrev pub weight_of : Leg → Float
  weight_of l = correction_weight x.prior (bits_of l) x.graph.mechanisms

  abbrev pub record_for : Leg → LegRecord
  record_for l = record_of_leg l.converged (weight_of l) l.iterations

-- of these legs
module _ (x : Shot) (legs : ℕ → Leg) where
  -- what the lists hold after r of them
  pub record Held (r : ℕ) (run : Run) : Type 0 where
    pub states : length run.leg_state ≡ many x
    pub iterations : length run.leg_iterations ≡ many x
    pub weights : length run.leg_weight ≡ many x
    pub done : (k : ℕ) → k < r → Entry run.leg_state run.leg_iterations run.leg_weight k (record_for x (legs k))
    pub rest : (k : ℕ) → r ≤ k → k < many x → Entry run.leg_state run.leg_iterations run.leg_weight k LegRecord.NotExecuted

  -- before the first
  pub held_none : Held 0 (start_run x)
  unfolding start_run
  held_none =
      record {
        states = length-replicate (many x) 0;
        iterations = length-replicate (many x) 0;
        weights = length-replicate (many x) _;
        done = λ k h. absurd (omega arith);
        rest = λ k h l. record { state = get_or-replicate (many x) k 0 0 l; iterations = get_or-replicate (many x) k 0 0 l; weight = get_or-replicate (many x) k _ nan l };
      }

  -- one more
  pub held_more : (r : ℕ) → r < many x → (run : Run) → Held r run → Held (suc r) (recorded x run r (legs r))
  unfolding recorded
  held_more r h run p =
      let new = recorded x run r (legs r) in
      let own : Entry new.leg_state new.leg_iterations new.leg_weight r (record_for x (legs r)) =
      record {
        state = get_or-set_same run.leg_state r _ 0 (omega (arith, p.states));
        iterations = get_or-set_same run.leg_iterations r _ 0 (omega (arith, p.iterations));
        weight = get_or-set_same run.leg_weight r _ nan (omega (arith, p.weights));
      } in
      let others : (k : ℕ) (q : LegRecord) → (k ≡ r → ⊥) → Entry run.leg_state run.leg_iterations run.leg_weight k q
      → Entry new.leg_state new.leg_iterations new.leg_weight k q =
      λ k q n e.
      record {
        state = get_or-set_other run.leg_state r k _ 0 n ∙ e.state;
        iterations = get_or-set_other run.leg_iterations r k _ 0 n ∙ e.iterations;
        weight = get_or-set_other run.leg_weight r k _ nan n ∙ e.weight;
      } in
      record {
        states = length-set run.leg_state r _ ∙ p.states;
        iterations = length-set run.leg_iterations r _ ∙ p.iterations;
        weights = length-set run.leg_weight r _ ∙ p.weights;
        done = λ k l. ⊎_elim (λ (e : k ≡ r). rw e own) (λ m. others k (record_for x (legs k)) (λ e. omega arith) (p.done k m)) (last_or_before k r l);
        rest = λ k l m. others k LegRecord.NotExecuted (λ e. omega arith) (p.rest k (omega arith) m);
      }
