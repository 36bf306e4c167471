-- `relay_calls::iterate::stepped` meets its contract. The step, its end and the cleared bias are the definition's; each call keeps the lengths.
-- Assumes nothing.
use mathlib.Core.Path.{◌∙◌, ap}
use lib.ListN.{replicate}
use Rattle.numbers.specs.Floats.{zero⁺}
use Rattle.relay_calls.proofs.Calls.{stepped_is}
use Rattle.relay_calls.proofs.iterate.stepped.Goals as goal

pub returns : goal.returns
returns c =
    stepped_is _ _ _ _ _ _ _ _ _ _ _ _ c.step.ensures
    (c.step.auto.c_to_v ∙ c.requires.per_edge.to_variables) (c.step.auto.v_to_c ∙ c.requires.per_edge.to_checks) (c.step.auto.posterior ∙ c.requires.per_mechanism.posteriors)
    (c.clear.ensures ∙ ap
    (λ n. replicate n zero⁺) (c.step.auto.bias ∙ c.requires.per_mechanism.biases)) c.ended.ensures.end c.ended.ensures.left
