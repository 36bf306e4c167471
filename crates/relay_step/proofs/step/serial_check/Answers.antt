-- `relay_step::step::serial_check` meets its contract. The check sends, and then its variables are updated. Assumes nothing.
use mathlib.Core.Path.{◌≡◌, ◌∙◌}
use mathlib.Core.Bool.{not}
use native.Mathlib.Omega.{arith}
use lib.Dec.{eqb}
use lib.ListN.{get_or}
use Rattle.numbers.specs.Loops.{part, spliced}
use Rattle.relay_check.specs.Check.{check_messages}
use Rattle.relay_step.proofs.Passes.{serial_is}
use Rattle.graph_messages.proofs.Sides.{row_names}
use Rattle.relay_step.proofs.step.serial_check.Goals as goal
use Rattle.relay_step.proofs.step.serial_check.Goals.{Joined-clip, in-Off, in-On}

-- where both ways meet, the check has sent what it sends with its clip
sent : (c : Joined-clip) →
    c.match-clip.c_to_v
    ≡ spliced c.args.c_to_v.now c.start-start.result c.end-end.result
    (check_messages c.args.alpha c.args.clip (not (eqb (get_or c.args.syndrome.now c.args.c 0) 0)) (part c.start-start.result c.end-end.result c.args.checks.now.entries.now) (part c.start-start.result c.end-end.result c.args.v_to_c.now))
sent c = elim c.match-clip.branch [ in-Off w ↦ w.c_to_v-is ∙ rw w.in-Off.is w.update_part.ensures | in-On w ↦ w.c_to_v-is ∙ rw w.in-On.is w.clipped_part.ensures ]

pub update_variables-requires-clause-keys : goal.update_variables-requires-clause-keys
update_variables-requires-clause-keys c =
    row_names c.args.checks.now c.args.c _ _ c.requires.c_in_bounds (omega arith) (rw (c.start-start.ensures.value, c.end-end.ensures.value))

pub returns : goal.returns
returns c =
    serial_is _ _ _ _ _ _ _ _ _ _ _ _ _ c.args.c _ _ c.start-start.ensures.value c.end-end.ensures.value (sent (goal.at.returns c).Joined-clip) _ _
    c.update_variables.ensures
