-- `graph_lists::dense::mark_rows` meets its contract. The invariant: up to `place` stand the entries of the first c checks, and their offsets are written. Assumes nothing.
use mathlib.Core.Path.{refl, ◌∙◌}
use Prim.Native.Nat.{suc, ◌+◌, ◌-◌, ◌≤◌}
use native.Mathlib.Omega.{arith}
use lib.ListN.{length, take, drop}
use Rattle.numbers.proofs.Loops.{length_part}
use Rattle.graph_lists.specs.Graph.{mechanisms_of, marked}
use Rattle.graph_lists.specs.Lists.{start, offsets}
use Rattle.graph_lists.specs.Model.{count_edges}
use Rattle.graph_lists.specs.Steps.{marks}
use Rattle.numbers.proofs.Loops.{is_table}
use Rattle.graph_lists.proofs.BucketTurns.{filled_turn}
use Rattle.graph_lists.proofs.MatrixTurns.{rows_room, rows_place, rows_turn, rows_base, rows_end, rows_none, offset_none}
use Rattle.graph_lists.proofs.dense.mark_rows.Goals as goal
use Rattle.graph_lists.proofs.dense.mark_rows.Goals.{In-loop-c}

-- the check's row lies within the matrix
room : (c : In-loop-c) → c.loop-c.base + c.args.mechanisms ≤
    length c.args.matrix.now
room c =
    rows_room c.args.checks c.args.mechanisms c.args.matrix.now c.requires.matrix_len c.loop-c.c c.loop-c.base _ c.loop-c-test.true c.loop-c.invariant.0 refl

-- what it marks has room
space : (c : In-loop-c)
    → c.loop-c.place + length (marks (take (c.loop-c.base + c.args.mechanisms - c.loop-c.base) (drop c.loop-c.base c.args.matrix.now))) ≤ count_edges c.args.matrix.now
space c =
    rows_place c.args.checks c.args.mechanisms c.args.matrix.now c.requires.matrix_len c.loop-c.c c.loop-c.base _ c.loop-c-test.true c.loop-c.invariant.0 refl c.loop-c.place c.loop-c.invariant.1

pub loop-c-init : goal.loop-c-init
loop-c-init c =
    let f = mechanisms_of c.args.mechanisms (marked c.args.mechanisms c.args.matrix.now) in
    let n = rows_none c.args.mechanisms f c.args.check_var.now in (
      n.0,
      n.1,
      n.2,
      offset_none f c.args.check_offset.now _ (omega arith) c.put.ensures,
    )

pub mark_row-place-requires : goal.mark_row-place-requires
mark_row-place-requires c =
    (omega (arith, space (goal.at.mark_row-place-requires c).In-loop-c), omega (arith, length_part c.loop-c.base (c.loop-c.base + c.args.mechanisms) c.args.matrix.now (room (goal.at.mark_row-place-requires c).In-loop-c), c.requires.mechanisms_bound.0))

pub put-requires-in-loop-c : goal.put-requires-in-loop-c
put-requires-in-loop-c c = omega (
  arith,
  space (goal.at.put-requires-in-loop-c c).In-loop-c,
  c.mark_row-place.ensures.0,
  c.requires.mechanisms_bound.1,
)

pub loop-c-preserved : goal.loop-c-preserved
loop-c-preserved c =
    let f = mechanisms_of c.args.mechanisms (marked c.args.mechanisms c.args.matrix.now) in
    let t =
    rows_turn c.args.checks c.args.mechanisms c.args.matrix.now c.requires.matrix_len c.loop-c.c c.loop-c.base _ c.loop-c-test.true c.loop-c.invariant.0 refl c.loop-c.place _ c.loop-c.check_var _ c.loop-c.invariant.1 c.loop-c.invariant.2 c.mark_row-place.ensures.0
    c.mark_row-place.ensures.1 in (
      rows_base c.args.checks c.args.mechanisms c.args.matrix.now c.requires.matrix_len c.loop-c.c c.loop-c.base _ c.loop-c-test.true c.loop-c.invariant.0 refl,
      t.0,
      t.1,
      filled_turn (start f) c.loop-c.check_offset _ (c.loop-c.c + 1) _ (omega arith) c.put-in-loop-c.ensures t.0 c.loop-c.invariant.3,
    )

pub returns : goal.returns
unfolding offsets
returns c =
    let f = mechanisms_of c.args.mechanisms (marked c.args.mechanisms c.args.matrix.now) in (
      rows_end c.args.checks c.args.mechanisms c.args.matrix.now
          c.requires.matrix_len c.loop-c.c c.loop-c.place _ (omega arith) c.loop-c.invariant.1 c.loop-c.invariant.2
          (c.loop-c.auto.check_var ∙ c.requires.check_var_len.0),
      is_table (suc c.args.checks) (start f) _ (c.loop-c.auto.check_offset ∙ c.put.auto.xs ∙ c.requires.check_var_len.1) (λ k h. c.loop-c.invariant.3 k (omega arith)),
    )
