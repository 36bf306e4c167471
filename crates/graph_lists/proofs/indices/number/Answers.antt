-- `graph_lists::indices::number` meets its contract. The invariant: what is passed has its own number. Assumes nothing.
use native.Mathlib.Omega.{arith}
use Rattle.numbers.proofs.Loops.{is_table}
use Rattle.graph_lists.proofs.indices.number.Goals as goal

pub returns : goal.returns
returns c = is_table _ _ _ c.loop-i.auto.xs (λ k l. c.loop-i.invariant k (omega arith))
