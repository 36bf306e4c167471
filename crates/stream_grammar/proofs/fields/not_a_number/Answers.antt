-- `stream_grammar::fields::not_a_number` meets its contract. The quotient computes.
-- Assumes nothing.
use Rattle.std.proofs.Common.{refl}
use lib.Ieee.{of_bits, div}
use Rattle.stream_grammar.proofs.fields.not_a_number.Goals as goal

pub returns : goal.returns
unfolding of_bits div
returns c = refl
