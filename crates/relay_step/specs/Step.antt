-- One Relay iteration in a given order of checks: `update_check` (what a check sends is `relay_check` `Check`), the two `update_variable_..`,
-- `compute_bias`, `flooding_iteration` and `check_serial_iteration` of relay.rs, as functions on lists. Definitions only. Assumes nothing.
use Rattle.std.specs.Prelude.{ℕ, not, eqb, Float, length, get_or, set}
use mathlib.Core.List.{List, foldl}
use Rattle.std.specs.Float.{nan}
use Rattle.numbers.specs.Floats.{◌+ᶠ◌, ◌-ᶠ◌, ◌*ᶠ◌}
use Rattle.numbers.specs.Loops.{turns, table}
use Rattle.graph_lists.specs.Graph.{Graph, check_entries, var_entries}
use Rattle.graph_lists.specs.Messages.{Access, total}
use Rattle.relay_settings.specs.declared.Clip.{Clip}
use Rattle.relay_settings.specs.declared.Schedule.{Schedule}
use Rattle.relay_settings.specs.declared.Schedule.TheVariants.{Flooding, CheckSerial}
use Rattle.relay_check.specs.Check.{check_messages}

-- ---- over all messages and the posterior. `had` says how a check's messages are had out of all, and it is all that the layout of the graph changes

-- the messages both ways, and the posterior
pub record State : Type 0 where
  pub c_to_v : List Float
  pub v_to_c : List Float
  pub posterior : List Float

-- a state of its parts
abbrev pub state : List Float → List Float → List Float → State
state c v p = record { c_to_v = c; v_to_c = v; posterior = p }

-- a check's messages in `c_to_v` from its messages in `v_to_c`
unfoldable pub update_check : Access → Graph → Float → Clip → List ℕ → State → ℕ → State
update_check had g alpha clip syndrome s c =
    let new = check_messages alpha clip (not (eqb (get_or syndrome c 0) 0)) (check_entries g c) (had.messages_of g c s.v_to_c) in
    state (had.with_messages g c s.c_to_v new) s.v_to_c s.posterior

-- p without each own message, written over `v_to_c`
unfoldable pub written : Float → List Float → List Float → List ℕ → List Float
written p c_to_v v_to_c entries = foldl (λ (l : List Float) (m : ℕ). set l m (p -ᶠ get_or c_to_v m nan)) v_to_c entries

-- `update_variable_flooding` and `update_variable_serial`, which write the same in another order: the posterior is bias + total, and each message that
-- without its own
unfoldable pub update_variable : Graph → List Float → State → ℕ → State
update_variable g bias s v =
    let p = get_or bias v nan +ᶠ total s.c_to_v (var_entries g v) in
    state s.c_to_v (written p s.c_to_v s.v_to_c (var_entries g v)) (set s.posterior v p)

-- a variable's bias: prior + gamma times (posterior - prior)
unfoldable pub bias_of : Float → Float → Float → Float
bias_of prior gamma posterior = prior +ᶠ gamma *ᶠ (posterior -ᶠ prior)

-- the first n biases
unfoldable pub biases_to : List Float → List Float → List Float → ℕ → List Float
biases_to prior gamma posterior n = table n (λ v. bias_of (get_or prior v nan) (get_or gamma v nan) (get_or posterior v nan))

-- `compute_bias`
unfoldable pub compute_bias : List Float → List Float → List Float → List Float
compute_bias prior gamma posterior = biases_to prior gamma posterior (length prior)

-- the checks in the order given
unfoldable pub check_pass : Access → Graph → Float → Clip → List ℕ → List ℕ → State → State
check_pass had g alpha clip syndrome order s = foldl (update_check had g alpha clip syndrome) s order

-- the variables below n
unfoldable pub variable_pass : Graph → List Float → State → ℕ → State
variable_pass g bias s n = turns n (λ v t. update_variable g bias t v) s

-- `flooding_iteration`: the checks, then the bias of the posterior, then the variables
unfoldable pub flooding_iteration : Access → Graph → Float → Clip → List ℕ → List Float → List Float → List ℕ → State → State
flooding_iteration had g alpha clip syndrome prior gamma order s =
    let t = check_pass had g alpha clip syndrome order s in
    variable_pass g (compute_bias prior gamma t.posterior) t g.mechanisms

-- one check of a serial iteration, and then each variable of its entries
unfoldable pub serial_check : Access → Graph → Float → Clip → List ℕ → List Float → State → ℕ → State
serial_check had g alpha clip syndrome bias s c = foldl (update_variable g bias) (update_check had g alpha clip syndrome s c) (check_entries g c)

-- the checks of a serial iteration, in the order given
unfoldable pub serial_pass : Access → Graph → Float → Clip → List ℕ → List Float → List ℕ → State → State
serial_pass had g alpha clip syndrome bias order s = foldl (serial_check had g alpha clip syndrome bias) s order

-- `check_serial_iteration`: the bias of the posterior, then the checks
unfoldable pub check_serial_iteration : Access → Graph → Float → Clip → List ℕ → List Float → List Float → List ℕ → State → State
check_serial_iteration had g alpha clip syndrome prior gamma order s = serial_pass had g alpha clip syndrome (compute_bias prior gamma s.posterior) order s

-- one iteration of a schedule
abbrev pub iteration : Schedule → Access → Graph → Float → Clip → List ℕ → List Float → List Float → List ℕ → State → State
iteration Flooding = flooding_iteration
iteration CheckSerial = check_serial_iteration
