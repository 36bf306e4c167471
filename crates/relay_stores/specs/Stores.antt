-- How many messages the iterations of a decode write: one Relay iteration (`relay_step` `Step`) with each store counted beside its state; the formula that the
-- counts come to; and refusal 29. Definitions only. Assumes nothing.
use Rattle.std.specs.Prelude.{ℕ, suc, ◌+◌, ◌*◌, not, eqb, leb, Float, length, get_or, set}
use mathlib.Core.List.{List, foldl}
use Rattle.std.specs.Float.{nan}
use Rattle.numbers.specs.Floats.{◌+ᶠ◌, ◌-ᶠ◌}
use Rattle.numbers.specs.Loops.{turns}
use Rattle.refusals.specs.declared.Refusal.TheVariants.{TooManyStores}
use Rattle.refusals.specs.Refusal.{Answer}
use Rattle.refusals.specs.Tests.{unless}
use Rattle.graph_lists.specs.Graph.{Graph, check_entries, var_entries}
use Rattle.graph_lists.specs.Messages.{Access, total}
use Rattle.relay_settings.specs.declared.Clip.{Clip}
use Rattle.relay_settings.specs.declared.Schedule.{Schedule}
use Rattle.relay_settings.specs.declared.Schedule.TheVariants.{Flooding, CheckSerial}
use Rattle.relay_settings.specs.declared.Settings.{Settings}
use Rattle.relay_check.specs.Check.{check_messages}
use Rattle.relay_step.specs.Step.{State, state, compute_bias}

-- ---- an iteration that counts: each definition is the one of `Step` that it names, with a count

-- a state, and how many messages were written on the way to it
pub record Counted : Type 0 where
  pub now : State
  pub stores : ℕ

-- that, of its parts
abbrev pub counted : State → ℕ → Counted
counted s n = record { now = s; stores = n }

-- `update_check`: each message that the check sends is one store
unfoldable pub counted_check : Access → Graph → Float → Clip → List ℕ → Counted → ℕ → Counted
counted_check had g alpha clip syndrome s c =
    let t = s.now in
    let new = check_messages alpha clip (not (eqb (get_or syndrome c 0) 0)) (check_entries g c) (had.messages_of g c t.v_to_c) in
    counted (state (had.with_messages g c t.c_to_v new) t.v_to_c t.posterior) (s.stores + length new)

-- a list of messages, and how many were written on the way to it
pub record Stored : Type 0 where
  pub messages : List Float
  pub stores : ℕ

-- that, of its parts
abbrev pub stored : List Float → ℕ → Stored
stored l n = record { messages = l; stores = n }

-- one message is one store
unfoldable pub store : Stored → ℕ → Float → Stored
store s m x = stored (set s.messages m x) (suc s.stores)

-- `written`
unfoldable pub counted_written : Float → List Float → Stored → List ℕ → Stored
counted_written p c_to_v s entries = foldl (λ (t : Stored) (m : ℕ). store t m (p -ᶠ get_or c_to_v m nan)) s entries

-- `update_variable`: the posterior is no message
unfoldable pub counted_variable : Graph → List Float → Counted → ℕ → Counted
counted_variable g bias s v =
    let t = s.now in
    let p = get_or bias v nan +ᶠ total t.c_to_v (var_entries g v) in
    let w = counted_written p t.c_to_v (stored t.v_to_c s.stores) (var_entries g v) in
    counted (state t.c_to_v w.messages (set t.posterior v p)) w.stores

-- `check_pass`
unfoldable pub counted_check_pass : Access → Graph → Float → Clip → List ℕ → List ℕ → Counted → Counted
counted_check_pass had g alpha clip syndrome order s = foldl (counted_check had g alpha clip syndrome) s order

-- `variable_pass`
unfoldable pub counted_variable_pass : Graph → List Float → Counted → ℕ → Counted
counted_variable_pass g bias s n = turns n (λ v t. counted_variable g bias t v) s

-- `flooding_iteration`
unfoldable pub counted_flooding : Access → Graph → Float → Clip → List ℕ → List Float → List Float → List ℕ → Counted → Counted
counted_flooding had g alpha clip syndrome prior gamma order s =
    let t = counted_check_pass had g alpha clip syndrome order s in
    counted_variable_pass g (compute_bias prior gamma t.now.posterior) t g.mechanisms

-- `serial_check`
unfoldable pub counted_serial_check : Access → Graph → Float → Clip → List ℕ → List Float → Counted → ℕ → Counted
counted_serial_check had g alpha clip syndrome bias s c = foldl (counted_variable g bias) (counted_check had g alpha clip syndrome s c) (check_entries g c)

-- `serial_pass`
unfoldable pub counted_serial_pass : Access → Graph → Float → Clip → List ℕ → List Float → List ℕ → Counted → Counted
counted_serial_pass had g alpha clip syndrome bias order s = foldl (counted_serial_check had g alpha clip syndrome bias) s order

-- `check_serial_iteration`
unfoldable pub counted_serial : Access → Graph → Float → Clip → List ℕ → List Float → List Float → List ℕ → Counted → Counted
counted_serial had g alpha clip syndrome prior gamma order s = counted_serial_pass had g alpha clip syndrome (compute_bias prior gamma s.now.posterior) order s

-- `iteration`
abbrev pub counted_iteration : Schedule → Access → Graph → Float → Clip → List ℕ → List Float → List Float → List ℕ → Counted → Counted
counted_iteration Flooding = counted_flooding
counted_iteration CheckSerial = counted_serial

-- ---- the formula

-- a mechanism's degree: how many edges it has
unfoldable pub degree : Graph → ℕ → ℕ
degree g v = length (var_entries g v)

-- the sum of all squared mechanism degrees
unfoldable pub squared_degrees : Graph → ℕ
squared_degrees g = turns g.mechanisms (λ v sum. sum + degree g v * degree g v) 0

-- for one iteration: twice the edges, or the edges and all squared mechanism degrees
abbrev pub stores_each : Schedule → Graph → ℕ
stores_each Flooding g = 2 * length g.check_var
stores_each CheckSerial g = length g.check_var + squared_degrees g

-- for so many iterations
abbrev pub stores_at : Schedule → Graph → ℕ → ℕ
stores_at schedule g iterations = iterations * stores_each schedule g

-- ---- 29

-- the most iterations that a decode can take: pre plus legs times leg iterations
abbrev pub most_iterations : Settings → ℕ
most_iterations t = t.pre_iterations + t.num_legs * t.leg_iterations

-- 2^64 - 1
abbrev pub max_stores : ℕ
max_stores = 0xFFFF_FFFF_FFFF_FFFF

-- the test 29: the formula at the most iterations is at most 2^64 - 1
unfoldable pub stores_fault : Settings → Graph → Answer
stores_fault t g = unless (leb (stores_at t.schedule g (most_iterations t)) max_stores) TooManyStores
