-- `graph_messages::first_not_finite` meets its contract. The invariant: the values passed are finite. Assumes nothing.
use mathlib.Core.Path.{◌≡◌}
use Rattle.refusals.specs.Tests.{first_of}
use Rattle.std.specs.Prelude.{Ok}
use Rattle.graph_lists.specs.Messages.{value_fault}
use Rattle.graph_messages.proofs.first_not_finite.Given as goal

abbrev pub invariant-loop-v : goal.invariant-loop-v
invariant-loop-v l = first_of l.v (value_fault l.values) ≡ Ok tt
