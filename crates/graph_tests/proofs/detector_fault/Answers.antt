-- `graph_tests::detector_fault` meets its contract. Each answer is the definition at what the tests said. Assumes nothing.
use mathlib.Core.Path.{sym, ◌∙◌}
use Rattle.graph_lists.proofs.ModelTests.{detector_range, detector_repeat, detector_fine}
use Rattle.graph_tests.proofs.detector_fault.Goals as goal

pub returns-then-checks-d : goal.returns-then-checks-d
returns-then-checks-d c = detector_range _ _ _ _ _ c.at-d.ensures c.if-checks-d.true

pub returns-then-repeated : goal.returns-then-repeated
returns-then-repeated c = detector_repeat _ _ _ _ _ c.at-d.ensures c.if-checks-d.false (sym c.repeated.ensures ∙ c.if-repeated.true)

pub returns : goal.returns
returns c = detector_fine _ _ _ _ _ c.at-d.ensures c.if-checks-d.false (sym c.repeated.ensures ∙ c.if-repeated.false)
