-- `refusals_tests::unless` meets its contract. Each arm answers what the definition says of that bool. Assumes nothing.
use Rattle.refusals.specs.Tests.{unless}
use Rattle.refusals_tests.proofs.unless.Goals as goal

pub returns-then-passed : goal.returns-then-passed
unfolding unless
returns-then-passed c = rw c.if-passed.true

pub returns : goal.returns
unfolding unless
returns c = rw c.if-passed.false
