-- `numbers::is_negative` meets its contract. Where x equals itself it is no NaN, and its sign is the top bit; else it is a NaN. Assumes nothing.
use Rattle.std.proofs.Common.{sym, ap}
use Rattle.numbers.specs.Floats.{is_negative}
use Rattle.numbers.proofs.Bits.{self_number, self_nan, negative_bits}
use Rattle.numbers.proofs.is_negative.Goals as goal

pub float_to_bits-result : goal.float_to_bits-result
float_to_bits-result c = self_number c.args.x c.if-x.true

pub returns-then-x : goal.returns-then-x
returns-then-x c = negative_bits c.args.x c.well_formed.0.1 (self_number c.args.x c.if-x.true)

pub returns : goal.returns
unfolding is_negative
returns c = sym (ap is_negative (self_nan c.args.x c.if-x.false))
