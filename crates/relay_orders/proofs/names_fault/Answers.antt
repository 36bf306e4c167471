-- `relay_orders::names_fault` meets its contract. It answers by the test. Assumes nothing.
use mathlib.Core.Path.{sym, ◌∙◌}
use Rattle.refusals.specs.Tests.{unless}
use Rattle.relay_orders.specs.Order.{names_fault}
use Rattle.relay_orders.proofs.names_fault.Goals as goal

pub returns-then-not-names_each_once : goal.returns-then-not-names_each_once
unfolding names_fault unless
returns-then-not-names_each_once c = rw (sym c.names_each_once.ensures ∙ c.if-not-names_each_once.true)

pub returns : goal.returns
unfolding names_fault unless
returns c = rw (sym c.names_each_once.ensures ∙ c.if-not-names_each_once.false)
