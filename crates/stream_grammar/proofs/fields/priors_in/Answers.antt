-- `stream_grammar::fields::priors_in` meets its contract. The invariant: the priors passed are the definition's.
-- Assumes nothing.
use Rattle.std.proofs.Common.{arith}
use Rattle.stream_grammar.specs.Fields.{prior}
use Rattle.stream_grammar.specs.Stream.{prior_bits}
use Rattle.numbers.proofs.Turns.{table_turn}
use Rattle.stream_grammar.proofs.fields.priors_in.Goals as goal

pub loop-m-preserved : goal.loop-m-preserved
unfolding prior prior_bits
loop-m-preserved c = table_turn _ _ c.loop-m.m _ (omega arith) c.loop-m.invariant c.float_at.ensures
