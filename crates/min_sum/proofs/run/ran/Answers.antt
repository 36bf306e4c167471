-- `min_sum::run::ran` meets its contract. The cleared lists are the definition's zeros, and the posterior is cleared where a belief is not finite. Assumes nothing.
use mathlib.Core.Path.{◌∙◌, ap}
use lib.ListN.{replicate}
use Rattle.std.proofs.Common.{rules}
use Rattle.numbers.specs.Floats.{zero⁺}
use Rattle.min_sum.proofs.Calls.{ran_passed, ran_refused}
use Rattle.min_sum.proofs.run.ran.Goals as goal

pub returns-then-is_err : goal.returns-then-is_err
returns-then-is_err c =
    ran_refused _ _ _ _ _ _ _ _ c.min_sum_bp.ensures c.first_not_finite-a.ensures (c.min_sum_bp.auto.posterior ∙ c.requires.posterior_len)
    (c.clear.ensures ∙ ap (λ n. replicate n zero⁺) (c.min_sum_bp.auto.ewa_posterior ∙ c.requires.run_lists.averages))
    (c.clear-2.ensures ∙ ap (λ n. replicate n zero⁺) (c.min_sum_bp.auto.c_to_v ∙ c.requires.run_lists.messages.to_variables))
    (c.clear-3.ensures ∙ ap (λ n. replicate n zero⁺) (c.min_sum_bp.auto.v_to_c ∙ c.requires.run_lists.messages.to_checks))
    _ (search rules) c.clear-then-is_err.ensures

pub returns-else-is_err : goal.returns-else-is_err
returns-else-is_err c =
    ran_passed _ _ _ _ _ _ _ _ c.min_sum_bp.ensures c.first_not_finite-a.ensures (c.min_sum_bp.auto.posterior ∙ c.requires.posterior_len)
    (c.clear.ensures ∙ ap (λ n. replicate n zero⁺) (c.min_sum_bp.auto.ewa_posterior ∙ c.requires.run_lists.averages))
    (c.clear-2.ensures ∙ ap (λ n. replicate n zero⁺) (c.min_sum_bp.auto.c_to_v ∙ c.requires.run_lists.messages.to_variables))
    (c.clear-3.ensures ∙ ap (λ n. replicate n zero⁺) (c.min_sum_bp.auto.v_to_c ∙ c.requires.run_lists.messages.to_checks))
    (search rules)
