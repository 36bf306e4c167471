-- `stream_grammar::fields::offsets_in` meets its contract. The invariant: the offsets passed are the definition's, and the sum is the next.
-- Assumes nothing.
use Rattle.std.proofs.Common.{refl, arith}
use Rattle.stream_grammar.specs.Fields.{offset}
use Rattle.stream_grammar.specs.Stream.{degrees}
use Rattle.numbers.proofs.Turns.{table_turn}
use Rattle.stream_grammar.proofs.Fills.{offset_turn}
use Rattle.stream_grammar.proofs.fields.offsets_in.Goals as goal

pub loop-m-init : goal.loop-m-init
unfolding offset degrees
loop-m-init c = (refl, refl)

pub loop-m-preserved : goal.loop-m-preserved
loop-m-preserved c = (
  table_turn _ _ c.loop-m.m _ (omega arith) c.loop-m.invariant.0 c.loop-m.invariant.1,
  offset_turn _ c.loop-m.m _ _ _ c.loop-m.invariant.1 c.degree-sum.ensures refl,
)
