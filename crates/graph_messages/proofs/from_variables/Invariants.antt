-- `graph_messages::from_variables` meets its contract. The invariant: the messages passed are the values of their variables. Assumes nothing.
use mathlib.Core.List.{map}
use mathlib.Core.Path.{◌≡◌}
use lib.Ieee.{nan}
use lib.ListN.{get_or, take}
use Rattle.graph_messages.proofs.from_variables.Given as goal

abbrev pub invariant-loop-i : goal.invariant-loop-i
invariant-loop-i l = take l.i l.v_to_c ≡ map (λ v. get_or l.values v nan) (take l.i l.check_var)
