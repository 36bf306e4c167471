-- `min_sum_pass::pass::update_and_average` meets its contract. The invariant: the variables passed are updated, their elements of the running posterior are
-- new, and the others are old. Assumes nothing.
use mathlib.Core.Path.{◌≡◌}
use mathlib.Core.List.{[]}
use lib.ListN.{take, drop}
use Rattle.graph_messages.specs.Sides.{variables_alone}
use Rattle.min_sum_pass.specs.MinSum.{messages, variables_to, averaged_to}
use Rattle.min_sum_pass.proofs.pass.update_and_average.Given as goal

abbrev pub invariant-loop-v : goal.invariant-loop-v
invariant-loop-v l =
    (messages l.c_to_v l.v_to_c ≡ variables_to (variables_alone l.variables) l.priors (messages l.c_to_v l.initial.v_to_c) l.v)
    × (take l.v l.ewa_posterior ≡ averaged_to (variables_alone l.variables) l.priors l.weight (messages l.c_to_v []) l.initial.ewa_posterior l.v)
    × (drop l.v l.ewa_posterior ≡ drop l.v l.initial.ewa_posterior)
