-- `min_sum::run::outer_round` meets its contract. The invariant: the iterations passed are those of the round, from the messages that the first two calls set. Assumes nothing.
use mathlib.Core.Path.{◌≡◌}
use mathlib.Core.List.{[]}
use Rattle.graph_lists.specs.Messages.{by_place}
use Rattle.graph_messages.specs.Sides.{sides}
use Rattle.min_sum_pass.specs.MinSum.{messages, belief, outer_round_to}
use Rattle.min_sum.proofs.run.outer_round.Given as goal

abbrev pub invariant-loop-i : goal.invariant-loop-i
invariant-loop-i l = belief (messages l.c_to_v l.v_to_c) l.ewa_posterior
    ≡ outer_round_to by_place (sides l.run.checks l.run.variables) l.run.serial l.run.scale l.run.syndrome.now l.run.priors.now l.outer (belief (messages [] []) l.initial.ewa_posterior) l.i
