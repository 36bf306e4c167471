-- `numbers::message_sign` meets its contract. Each answer is the definition at what the test said. Assumes nothing.
use lib.Ieee.{of_bits, neg}
use Rattle.numbers.specs.Floats.{message_sign}
use Rattle.numbers.proofs.message_sign.Goals as goal

pub returns-then-x : goal.returns-then-x
unfolding of_bits neg message_sign
returns-then-x c = rw c.if-x.true

pub returns-else-x : goal.returns-else-x
unfolding of_bits message_sign
returns-else-x c = rw c.if-x.false
