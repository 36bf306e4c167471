-- `graph_tests::seven::met_good` meets its contract. Each answer is the definition at what the tests before it said. Assumes nothing.
use Rattle.std.proofs.Common.{ℕ, eqb, sym, ap, ◌∙◌, ltb-true, ltb-false}
use mathlib.Core.Bool.{false≢true}
use borrow.Author.Tests.{lt-leb}
use Rattle.graph_lists.proofs.QuickTurns.{met_low, met_high, met_last, met_room}
use Rattle.graph_tests.proofs.seven.met_good.Goals as goal
use Rattle.graph_tests.proofs.seven.met_good.Goals.{then-at-m, else-at-m}

pub at-requires-then-m-at : goal.at-requires-then-m-at
at-requires-then-m-at c = elim c.if-at-m.branch [
  | then-at-m w ↦ met_room _ _ _ c.args.c _ _ c.requires.offsets c.requires.c_lt_checks w.at-then-at-m.ensures (ltb-true _ _ (sym w.value-is ∙ c.if-m-at.true))
  | else-at-m w ↦ absurd (false≢true (sym (lt-leb _ _ w.if-at-m.false) ∙ sym w.value-is ∙ c.if-m-at.true))
]

pub returns-then-m-at : goal.returns-then-m-at
returns-then-m-at c = elim c.if-at-m.branch [
  | then-at-m w ↦ met_last _ _ _ c.args.c c.args.m _ _ _ c.at.ensures w.at-then-at-m.ensures w.if-at-m.true (ltb-true _ _ (sym w.value-is ∙ c.if-m-at.true))
      (ap (λ (x : ℕ). eqb x c.args.v) c.at-then-m-at.ensures)
  | else-at-m w ↦ absurd (false≢true (sym (lt-leb _ _ w.if-at-m.false) ∙ sym w.value-is ∙ c.if-m-at.true))
]

pub returns-else-m-at : goal.returns-else-m-at
returns-else-m-at c = elim c.if-at-m.branch [
  | then-at-m w ↦ c.if-m-at.false ∙ met_high _ _ _ c.args.c c.args.m _ _ c.at.ensures w.at-then-at-m.ensures w.if-at-m.true (ltb-false _ _ (sym w.value-is ∙ c.if-m-at.false))
  | else-at-m w ↦ c.if-m-at.false ∙ met_low _ _ _ c.args.c c.args.m _ c.at.ensures w.if-at-m.false
]
