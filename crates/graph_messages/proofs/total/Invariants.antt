-- `graph_messages::total` meets its contract. The invariant: the sum is that of the entries passed. Assumes nothing.
use mathlib.Core.Path.{◌≡◌}
use lib.ListN.{take}
use Rattle.graph_lists.specs.Messages.{total}
use Rattle.graph_messages.proofs.total.Given as goal

abbrev pub invariant-loop-m : goal.invariant-loop-m
invariant-loop-m l = l.sum ≡ total l.c_to_v (take l.m-index l.entries)
