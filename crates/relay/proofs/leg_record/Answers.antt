-- `relay::leg_record` meets its contract. Outside a list nothing is read; inside all three the values give the record.
-- Assumes nothing.
use Rattle.relay_calls.proofs.Calls.{record_no_state, record_no_iterations, record_no_weight, record_read}
use Rattle.relay.proofs.leg_record.Goals as goal

pub returns-then-r-leg_state : goal.returns-then-r-leg_state
returns-then-r-leg_state c = record_no_state _ _ _ _ c.if-r-leg_state.true

pub returns-then-r-leg_iterations : goal.returns-then-r-leg_iterations
returns-then-r-leg_iterations c = record_no_iterations _ _ _ _ c.if-r-leg_state.false c.if-r-leg_iterations.true

pub returns-then-r-leg_weight : goal.returns-then-r-leg_weight
returns-then-r-leg_weight c = record_no_weight _ _ _ _ c.if-r-leg_state.false c.if-r-leg_iterations.false c.if-r-leg_weight.true

pub returns : goal.returns
returns c = record_read _ _ _ _ _ _ c.if-r-leg_state.false
    c.if-r-leg_iterations.false c.if-r-leg_weight.false
    c.at.ensures c.record_of.ensures
