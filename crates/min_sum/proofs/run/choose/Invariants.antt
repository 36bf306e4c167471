-- `min_sum::run::choose` meets its contract. The invariant: the beliefs passed are chosen. Assumes nothing.
use mathlib.Core.Path.{◌≡◌}
use mathlib.Core.List.{[]}
use lib.ListN.{take}
use Rattle.graph_messages.specs.Sides.{variables_alone}
use Rattle.min_sum_pass.specs.MinSum.{messages, belief, chosen_to}
use Rattle.min_sum.proofs.run.choose.Given as goal

abbrev pub invariant-loop-v : goal.invariant-loop-v
invariant-loop-v l = take l.v l.posterior ≡ chosen_to (variables_alone l.variables) l.priors (belief (messages l.c_to_v []) l.ewa_posterior) l.v
