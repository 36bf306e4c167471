-- `relay_step::leg::all_match` meets its contract. The invariant: the checks passed match.
-- Assumes nothing.
use mathlib.Core.Path.{◌≡◌}
use mathlib.Core.Bool.{true}
use Rattle.numbers.specs.Loops.{every}
use Rattle.graph_messages.specs.Sides.{checks_alone}
use Rattle.relay_step.specs.Leg.{matches}
use Rattle.relay_step.proofs.leg.all_match.Given as goal

abbrev pub invariant-loop-c : goal.invariant-loop-c
invariant-loop-c l = every l.c (matches (checks_alone l.checks) l.bits l.syndrome) ≡ true
