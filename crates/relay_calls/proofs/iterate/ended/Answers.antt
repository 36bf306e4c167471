-- `relay_calls::iterate::ended` meets its contract. The state stays where nothing is refused, and else each list is cleared.
-- Assumes nothing.
use mathlib.Core.Path.{sym, ◌∙◌}
use Rattle.relay_calls.proofs.Calls.{ended_stays, ended_zeroed}
use Rattle.relay_calls.proofs.iterate.ended.Goals as goal

pub returns-then-is_err-clause-left : goal.returns-then-is_err-clause-left
returns-then-is_err-clause-left c = ended_zeroed _ _ c.args.c_to_v.now c.args.v_to_c.now c.args.posterior.now _ _ _
    (sym c.is_err.ensures.value ∙ c.if-is_err.true) c.clear.ensures c.clear-then-is_err.ensures c.clear-then-is_err-2.ensures

pub returns-else-is_err-clause-left : goal.returns-else-is_err-clause-left
returns-else-is_err-clause-left c = ended_stays _ _ _ (sym c.is_err.ensures.value ∙ c.if-is_err.false)
