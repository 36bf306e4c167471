-- `relay_calls::iterate::messages_finite` meets its contract. The invariant: both messages of the entries passed are finite.
-- Assumes nothing.
use mathlib.Core.Path.{sym}
use mathlib.Core.List.{[]}
use Rattle.numbers.proofs.Cases.{every_stop, every_turn}
use Rattle.relay_step.specs.Step.{state}
use Rattle.relay_calls.specs.Calls.{message_finite, finite_at}
use Rattle.relay_calls.proofs.iterate.messages_finite.Goals as goal
use Rattle.relay_calls.proofs.iterate.messages_finite.Goals.{then-not-is_finite-via-then-not-is_finite, then-not-is_finite-via-else-not-is_finite+then-not-is_finite-2}

pub returns-then-not-is_finite : goal.returns-then-not-is_finite
unfolding message_finite finite_at
returns-then-not-is_finite c =
    let stop = every_stop (message_finite (state c.args.c_to_v.now c.args.v_to_c.now []) c.args.entries.now) c.loop-entry.entry-index _ c.loop-entry-test.true in
    elim c.then-not-is_finite.branch [
      | then-not-is_finite-via-then-not-is_finite w ↦ sym (stop (rw (← c.is_finite.ensures, w.if-not-is_finite.true)))
      | then-not-is_finite-via-else-not-is_finite+then-not-is_finite-2 w ↦
          sym (stop (rw (← c.is_finite.ensures, w.if-not-is_finite.false, ← w.is_finite-else-not-is_finite.ensures, w.if-not-is_finite-2.true)))
    ]

pub loop-entry-preserved : goal.loop-entry-preserved
unfolding message_finite finite_at
loop-entry-preserved c =
    every_turn (message_finite (state c.args.c_to_v.now c.args.v_to_c.now []) c.args.entries.now) c.loop-entry.entry-index c.loop-entry.invariant
    (rw (← c.is_finite.ensures, c.if-not-is_finite.false, ← c.is_finite-else-not-is_finite.ensures, c.if-not-is_finite-2.false))
