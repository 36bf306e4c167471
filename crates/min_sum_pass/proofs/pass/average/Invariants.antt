-- `min_sum_pass::pass::average` meets its contract. The invariant: the elements passed are new, and the others are old. Assumes nothing.
use mathlib.Core.Path.{◌≡◌}
use mathlib.Core.List.{[]}
use lib.ListN.{take, drop}
use Rattle.graph_messages.specs.Sides.{variables_alone}
use Rattle.min_sum_pass.specs.MinSum.{messages, averaged_to}
use Rattle.min_sum_pass.proofs.pass.average.Given as goal

abbrev pub invariant-loop-v : goal.invariant-loop-v
invariant-loop-v l =
    (take l.v l.ewa_posterior ≡ averaged_to (variables_alone l.variables) l.priors l.weight (messages l.c_to_v []) l.initial.ewa_posterior l.v)
    × (drop l.v l.ewa_posterior ≡ drop l.v l.initial.ewa_posterior)
