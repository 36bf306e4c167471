-- `stream_grammar::fields::offsets_in` meets its contract. The invariant: the offsets passed are the definition's, and the sum is the next.
-- Assumes nothing.
use Rattle.std.proofs.Common.{◌≡◌, take}
use Rattle.numbers.specs.Loops.{table}
use Rattle.stream_grammar.specs.Fields.{offset}
use Rattle.stream_grammar.proofs.fields.offsets_in.Given as goal

abbrev pub invariant-loop-m : goal.invariant-loop-m
invariant-loop-m l = (take l.m l.offsets ≡ table l.m (offset l.payload)) × (l.sum ≡ offset l.payload l.m)
