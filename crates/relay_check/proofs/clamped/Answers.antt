-- `relay_check::clamped` meets its contract: each arm is one case of the comparison. Assumes nothing.
use Rattle.relay_check.specs.Check.{clamped}
use Rattle.relay_check.proofs.clamped.Goals as goal

pub returns-then-limit-x : goal.returns-then-limit-x
unfolding clamped
returns-then-limit-x c = rw (← c.raised-x.ensures, c.if-limit-x.true)

pub returns : goal.returns
unfolding clamped
returns c = rw (← c.raised-x.ensures, c.if-limit-x.false)
