-- `stream_grammar::fields::priors_in` meets its contract. The invariant: the priors passed are the definition's.
-- Assumes nothing.
use Rattle.std.proofs.Common.{◌≡◌, take}
use Rattle.numbers.specs.Loops.{table}
use Rattle.stream_grammar.specs.Fields.{prior}
use Rattle.stream_grammar.proofs.fields.priors_in.Given as goal

abbrev pub invariant-loop-m : goal.invariant-loop-m
invariant-loop-m l = take l.m l.priors ≡ table l.m (prior l.payload)
