-- `stream_grammar::fields::detectors_in` meets its contract. The invariant: the detectors passed are the definition's.
-- Assumes nothing.
use Rattle.std.proofs.Common.{◌≡◌, take}
use Rattle.numbers.specs.Loops.{table}
use Rattle.stream_grammar.specs.Stream.{detector}
use Rattle.stream_grammar.proofs.fields.detectors_in.Given as goal

abbrev pub invariant-loop-i : goal.invariant-loop-i
invariant-loop-i l = take l.i l.detectors ≡ table l.i (detector l.n l.payload)
