-- `min_sum::run::outer_round` meets its contract. The invariant: the iterations passed are those of the round, from the messages that the first two calls set. Assumes nothing.
use mathlib.Core.Path.{sym, ap, ◌∙◌}
use native.Mathlib.Omega.{arith}
use lib.ListN.{replicate}
use Rattle.numbers.specs.Floats.{zero⁺}
use Rattle.min_sum.proofs.Rounds.{round_starts, round_turn, round_done}
use Rattle.min_sum.proofs.run.outer_round.Goals as goal

pub loop-i-init : goal.loop-i-init
loop-i-init c = round_starts _ _ _ _ _ _ _ _ _ _ (c.clear.ensures ∙ ap (λ n. replicate n zero⁺) (c.requires.messages.to_variables ∙ sym c.args.run.now.one_graph.edges)) c.from_variables.ensures

pub loop-i-preserved : goal.loop-i-preserved
loop-i-preserved c = round_turn _ _ _ _ _ _ c.loop-i.i _ _ _ _ c.weight.ensures c.loop-i.invariant c.iterate.ensures

pub returns : goal.returns
returns c = round_done _ _ _ _ _ _ _ c.loop-i.i _ _ _ _ (omega arith) c.loop-i.invariant
