-- `graph_tests::seven::is_graph` meets its contract. Each answer is the quick test at what its parts said, and the quick test is the plain one (`test_is`). Assumes nothing.
use mathlib.Core.Path.{sym, ◌∙◌}
use Rattle.numbers.proofs.Cases.{was_true, was_false}
use Rattle.graph_lists.specs.Graph.{graph}
use Rattle.graph_lists.proofs.ModelTests.{offsets_told}
use Rattle.graph_lists.proofs.QuickTurns.{whole_1, whole_2, whole_3, whole_4}
use mathlib.Core.Path.{ap}
use mathlib.Core.Bool.{not}
use Rattle.graph_tests.proofs.seven.is_graph.Goals as goal

pub returns-then-not-offsets_good : goal.returns-then-not-offsets_good
returns-then-not-offsets_good c = whole_1 _ (graph c.args.checks c.args.mechanisms c.args.check_var.now c.args.check_offset.now c.args.var_check.now c.args.var_message.now c.args.var_offset.now)
    c.requires (was_false _ _ c.offsets_good.ensures (ap not c.if-not-offsets_good.true))

pub checks_good-requires : goal.checks_good-requires
checks_good-requires c = rw c.requires.check_var
    (offsets_told _ _ _ c.requires.check_offset (was_true _ _ c.offsets_good.ensures
    (ap not c.if-not-offsets_good.false)))

pub returns-then-not-checks_good : goal.returns-then-not-checks_good
returns-then-not-checks_good c = whole_2 _ (graph c.args.checks c.args.mechanisms c.args.check_var.now c.args.check_offset.now c.args.var_check.now c.args.var_message.now c.args.var_offset.now)
    c.requires
    (was_true _ _ c.offsets_good.ensures
    (ap not c.if-not-offsets_good.false)) (was_false _ _ c.checks_good.ensures (ap not c.if-not-checks_good.true))

pub returns-then-not-offsets_good-2 : goal.returns-then-not-offsets_good-2
returns-then-not-offsets_good-2 c =
    whole_3 _ (graph c.args.checks c.args.mechanisms c.args.check_var.now c.args.check_offset.now c.args.var_check.now c.args.var_message.now c.args.var_offset.now)
    c.requires
    (was_true _ _ c.offsets_good.ensures
    (ap not c.if-not-offsets_good.false)) (was_true _ _ c.checks_good.ensures (ap not c.if-not-checks_good.false))
    (was_false _ _ c.offsets_good-2.ensures (ap not c.if-not-offsets_good-2.true))

pub vars_good-requires : goal.vars_good-requires
vars_good-requires c = record {
  offsets = rw c.requires.check_var (offsets_told _ _ _ c.requires.check_offset (was_true _ _ c.offsets_good.ensures
      (ap not c.if-not-offsets_good.false)));
  offsets_2 = rw c.requires.var_check (offsets_told _ _ _ c.requires.var_offset (was_true _ _ c.offsets_good-2.ensures (ap not c.if-not-offsets_good-2.false)));
  var_message_len = c.requires.var_message ∙ sym c.requires.var_check;
}

pub returns : goal.returns
returns c =
    whole_4 _ (graph c.args.checks c.args.mechanisms c.args.check_var.now c.args.check_offset.now c.args.var_check.now c.args.var_message.now c.args.var_offset.now)
    c.requires _
    (was_true _ _ c.offsets_good.ensures
    (ap not c.if-not-offsets_good.false))
    (was_true _ _ c.checks_good.ensures (ap not c.if-not-checks_good.false))
    (was_true _ _ c.offsets_good-2.ensures (ap not c.if-not-offsets_good-2.false))
    c.vars_good.ensures
