-- `min_sum::tests::run_fault` meets its contract. Each answer is the definition at what the tests before it said. Assumes nothing.
use mathlib.Core.Path.{sym}
use borrow.Author.Tests.{le-leb, lt-leb}
use Rattle.std.proofs.Common.{eq-eqb, ne_eqb}
use Rattle.numbers.specs.Limits.{max_count}
use Rattle.refusals.specs.Tests.{unless, or_else}
use Rattle.min_sum.proofs.tests.run_fault.Goals as goal

pub returns-then-iterations-gt-MAX_COUNT : goal.returns-then-iterations-gt-MAX_COUNT
unfolding unless or_else
returns-then-iterations-gt-MAX_COUNT c = rw (lt-leb c.args.iterations max_count c.if-iterations-gt-MAX_COUNT.true)

pub returns-then-n-size : goal.returns-then-n-size
unfolding unless or_else
returns-then-n-size c = rw (le-leb c.args.iterations max_count c.if-iterations-gt-MAX_COUNT.false, ne_eqb c.args.n.syndrome c.args.size.checks c.if-n-size.true)

pub returns-then-not-lists_fit : goal.returns-then-not-lists_fit
unfolding unless or_else
returns-then-not-lists_fit c = rw (
  le-leb c.args.iterations max_count c.if-iterations-gt-MAX_COUNT.false,
  eq-eqb c.args.n.syndrome c.args.size.checks c.if-n-size.false,
  sym c.if-not-lists_fit.ensures,
)

pub returns : goal.returns
unfolding unless or_else
returns c = rw (
  le-leb c.args.iterations max_count c.if-iterations-gt-MAX_COUNT.false,
  eq-eqb c.args.n.syndrome c.args.size.checks c.if-n-size.false,
  sym c.if-not-lists_fit.ensures,
)
