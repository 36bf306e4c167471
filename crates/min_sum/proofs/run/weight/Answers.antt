-- `min_sum::run::weight` meets its contract. The test says whether the iteration is the very first. Assumes nothing.
use lib.Ieee.{of_bits}
use Rattle.std.proofs.Common.{eq-eqb, ne_eqb}
use Rattle.min_sum_pass.specs.MinSum.{weight_of}
use Rattle.min_sum.proofs.run.weight.Goals as goal
use Rattle.min_sum.proofs.run.weight.Goals.{else-i-eq0-via-then-i-eq0+else-outer-eq0, else-i-eq0-via-else-i-eq0}

pub returns-then-outer-eq0 : goal.returns-then-outer-eq0
unfolding weight_of of_bits
returns-then-outer-eq0 c = rw (eq-eqb c.args.i 0 c.if-i-eq0.true, eq-eqb c.args.outer 0 c.if-outer-eq0.true)

pub returns : goal.returns
unfolding weight_of of_bits
returns c = elim c.else-i-eq0.branch [
  | else-i-eq0-via-then-i-eq0+else-outer-eq0 w ↦ rw (eq-eqb c.args.i 0 w.if-i-eq0.true, ne_eqb c.args.outer 0 w.if-outer-eq0.false)
  | else-i-eq0-via-else-i-eq0 w ↦ rw (ne_eqb c.args.i 0 w.if-i-eq0.false)
]
