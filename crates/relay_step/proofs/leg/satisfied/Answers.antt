-- `relay_step::leg::satisfied` meets its contract. The hard decision, and then the test of all checks on it, are the definition's.
-- Assumes nothing.
use Rattle.relay_step.specs.Leg.{satisfied}
use Rattle.relay_step.proofs.leg.satisfied.Goals as goal

pub returns-clause-test : goal.returns-clause-test
unfolding satisfied
returns-clause-test c = rw (← c.hard_decision.ensures) c.all_match.ensures
