-- `probabilities::split` meets its contract. Each answer is a law of `Splits`. Assumes nothing.
use native.Mathlib.Omega.{arith}
use Rattle.probabilities.proofs.Splits.{split_same, split_less}
use Rattle.probabilities.proofs.split.Goals as goal

pub returns-then-b-a : goal.returns-then-b-a
returns-then-b-a c =
    (omega arith, λ m n e low high same. split_same c.args.d c.args.a c.args.b m n e c.requires.0 c.requires.1 c.requires.2 c.requires.3 low high same c.if-b-a.true)

pub returns : goal.returns
returns c =
    (omega arith, λ m n e low high same. split_less c.args.d c.args.a c.args.b m n e c.requires.0 c.requires.1 c.requires.2 c.requires.3 low high same c.if-b-a.false (c.requires.4 c.if-b-a.false))
