-- `relay_step::leg::all_match` meets its contract. The invariant: the checks passed match.
-- Assumes nothing.
use Rattle.numbers.proofs.Cases.{every_refuse}
use mathlib.Core.Path.{ap}
use mathlib.Core.Bool.{not}
use Rattle.relay_step.proofs.leg.all_match.Goals as goal

pub returns-then-not-matches : goal.returns-then-not-matches
returns-then-not-matches c = every_refuse _ c.loop-c.c _ _ c.loop-c-test.true c.matches.ensures (ap not c.if-not-matches.true)
