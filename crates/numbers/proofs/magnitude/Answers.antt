-- `numbers::magnitude` meets its contract. Where x equals itself it is no NaN, and its bits without the top one are its magnitude's; else it is a NaN. Assumes nothing.
use Rattle.std.proofs.Common.{sym, ap, ◌∙◌}
use Rattle.numbers.specs.Floats.{abs}
use Rattle.numbers.proofs.Bits.{self_number, self_nan, abs_bits, abs_no_nan}
use Rattle.numbers.proofs.magnitude.Goals as goal

pub float_to_bits-result : goal.float_to_bits-result
float_to_bits-result c = self_number c.args.x c.if-x.true

pub float_from_bits-result : goal.float_from_bits-result
float_from_bits-result c = abs_no_nan c.args.x c.well_formed.0.1 (self_number c.args.x c.if-x.true)

pub returns-then-x : goal.returns-then-x
returns-then-x c = abs_bits c.args.x c.well_formed.0.1

pub returns : goal.returns
unfolding abs
returns c = let e = self_nan c.args.x c.if-x.false in e ∙ sym (ap abs e)
