-- `stream_grammar::fields::float` meets its contract. Bits up to those of infinity, but for the sign, are no NaN's, and those above are.
-- Assumes nothing.
use Rattle.std.proofs.Common.{Bool, not, T, sym, ◌∙◌, subst, le-ltb}
use lib.Ieee.{binary64}
use lib.Ieee.Bits.{nan_bits_above}
use Rattle.stream_grammar.proofs.Fills.{nan_bits}
use Rattle.stream_grammar.proofs.fields.float.Goals as goal

pub returns-then-bits-gt9218868437227405312 : goal.returns-then-bits-gt9218868437227405312
returns-then-bits-gt9218868437227405312 c = c.not_a_number.ensures ∙ nan_bits _ c.if-bits-gt9218868437227405312.true

pub float_from_bits-result : goal.float_from_bits-result
float_from_bits-result c = subst (λ (b : Bool). T (not b)) (sym (nan_bits_above binary64 c.args.bits ∙ le-ltb _ _ c.if-bits-gt9218868437227405312.false)) tt
