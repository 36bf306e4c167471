-- `relay_stores::squared_degrees` meets its contract. The invariant: the sum is the definition's over the mechanisms passed. Assumes nothing.
use native.Mathlib.Omega.{arith}
use Rattle.relay_stores.proofs.Squares.{squares_turn, turn_few, squares_done}
use Rattle.relay_stores.proofs.squared_degrees.Goals as goal

pub overflow_add-sum : goal.overflow_add-sum
overflow_add-sum c =
    omega (arith, turn_few c.args.mechanisms c.args.var_message.now c.args.var_offset.now c.requires.offsets c.loop-v.v c.loop-v.sum _ _ c.loop-v-test.true c.at-start.ensures c.at.ensures c.requires.var_message_len_bound c.loop-v.invariant)

pub loop-v-preserved : goal.loop-v-preserved
loop-v-preserved c =
    squares_turn c.args.mechanisms c.args.var_message.now c.args.var_offset.now c.requires.offsets c.loop-v.v c.loop-v.sum _ _ c.loop-v-test.true c.at-start.ensures c.at.ensures c.loop-v.invariant

pub returns-clause-sum : goal.returns-clause-sum
returns-clause-sum c = (squares_done _ _ _ c.requires.offsets c.loop-v.v c.loop-v.sum c.requires.var_message_len_bound (omega arith) (omega arith) c.loop-v.invariant).0

pub returns-clause-few : goal.returns-clause-few
returns-clause-few c = (squares_done _ _ _ c.requires.offsets c.loop-v.v c.loop-v.sum c.requires.var_message_len_bound (omega arith) (omega arith) c.loop-v.invariant).1
