-- `refusals_tests::or_else` meets its contract. It goes by whether the first is done. Assumes nothing.
use mathlib.Core.Path.{sym, ◌∙◌}
use Rattle.refusals.specs.Tests.{or_else}
use Rattle.refusals_tests.proofs.or_else.Goals as goal

pub returns-then-is_done : goal.returns-then-is_done
unfolding or_else
returns-then-is_done c = rw (sym c.is_done.ensures ∙ c.if-is_done.true)

pub returns : goal.returns
unfolding or_else
returns c = rw (sym c.is_done.ensures ∙ c.if-is_done.false)
