-- `relay_stores::squared_degrees` meets its contract. The invariant: the sum is the definition's over the mechanisms passed. Assumes nothing.
use mathlib.Core.Path.{◌≡◌}
use Rattle.graph_messages.specs.Needs.{of_variables}
use Rattle.relay_stores.proofs.Squares.{squares_to}
use Rattle.relay_stores.proofs.squared_degrees.Given as goal

abbrev pub invariant-loop-v : goal.invariant-loop-v
invariant-loop-v l = l.sum ≡ squares_to (of_variables l.mechanisms l.var_message l.var_offset) l.v
