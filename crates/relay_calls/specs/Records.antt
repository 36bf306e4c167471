-- A leg's record: the values that stand for it in the leg lists, and the record that they are read as. Definitions only. Assumes nothing.
use Rattle.std.specs.Prelude.{ℕ, zero, suc, Bool, true, false, ◌&&◌, cond, List, ltb, Float, length, get_or}
use Rattle.std.specs.Float.{nan}
use Rattle.numbers.specs.Floats.{zero⁺}
use Rattle.relay_calls.specs.declared.LegRecord.{LegRecord}

-- the values that stand for a record in the leg lists
pub record LegValues : Type 0 where
  pub leg_state : ℕ
  pub leg_iterations : ℕ
  pub leg_weight : Float

-- values of their parts
abbrev pub leg_values : ℕ → ℕ → Float → LegValues
leg_values s i w = record { leg_state = s; leg_iterations = i; leg_weight = w }

-- the values of each record: 2, 1 and 0, beside iterations and weight
abbrev pub values_of : LegRecord → LegValues
values_of (LegRecord.Converged weight iterations) = leg_values 2 iterations weight
values_of (LegRecord.RanOut iterations) = leg_values 1 iterations zero⁺
values_of LegRecord.NotExecuted = leg_values 0 0 zero⁺

-- the record of a leg that has run so many iterations: it converged with its weight, or ran out
abbrev pub record_of_leg : Bool → Float → ℕ → LegRecord
record_of_leg true weight iterations = LegRecord.Converged weight iterations
record_of_leg false weight iterations = LegRecord.RanOut iterations

-- what a leg's state, iterations and weight say: 2 is converged, 1 ran out, and anything else was not executed
abbrev pub record_of : ℕ → ℕ → Float → LegRecord
record_of zero iterations weight = LegRecord.NotExecuted
record_of (suc zero) iterations weight = LegRecord.RanOut iterations
record_of (suc (suc zero)) iterations weight = LegRecord.Converged weight iterations
record_of (suc (suc (suc n))) iterations weight = LegRecord.NotExecuted

-- `leg_record`: the leg r out of the leg lists; outside one of them it was not executed
unfoldable pub leg_record : List ℕ → List ℕ → List Float → ℕ → LegRecord
leg_record leg_state leg_iterations leg_weight r =
    cond (ltb r (length leg_state) && (ltb r (length leg_iterations) && ltb r (length leg_weight)))
    (record_of (get_or leg_state r 0) (get_or leg_iterations r 0) (get_or leg_weight r nan))
    LegRecord.NotExecuted
