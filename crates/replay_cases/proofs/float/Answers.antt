-- `replay_cases::float` is safe: bits up to those of infinity, but for the sign, are no NaN's. Assumes nothing.
use Rattle.std.proofs.Common.{Bool, not, T, sym, ◌∙◌, subst, le-ltb}
use lib.Ieee.{binary64}
use lib.Ieee.Bits.{nan_bits_above}
use Rattle.replay_cases.proofs.float.Goals as goal

pub float_from_bits-result : goal.float_from_bits-result
float_from_bits-result c = subst (λ (b : Bool). T (not b)) (sym (nan_bits_above binary64 c.args.bits ∙ le-ltb _ _ c.if-bits-gt9218868437227405312.false)) tt
