-- What one check of Relay sends: `update_check` of relay.rs, as functions on lists, with the clip that may bound it. Definitions only.
-- Assumes nothing.
use Rattle.std.specs.Prelude.{ℕ, Bool, cond, List, eqb, Float, length, get_or}
use Rattle.std.specs.Float.{nan}
use Rattle.std.specs.Float.Ieee.{lt, neg}
use Rattle.numbers.specs.Floats.{◌*ᶠ◌, saturation, is_finite, message_sign}
use Rattle.numbers.specs.Loops.{turns, table}
use Rattle.graph_lists.specs.Messages.{Scan, start_scan, lowered}
use Rattle.relay_settings.specs.declared.Clip.{Clip}
use Rattle.relay_settings.specs.declared.Clip.TheVariants.{Off, On}

-- `u32::MAX`, the variable before any minimum is found
abbrev pub no_variable : ℕ
no_variable = 0xFFFF_FFFF

-- the message of a variable in the first pass
unfoldable pub scanned : Scan → ℕ → Float → Scan
scanned s variable message = lowered s (s.total_sign *ᶠ message_sign message) variable message

-- the first n; `odd` says whether the check's syndrome byte is not zero
unfoldable pub scan : Bool → List ℕ → List Float → ℕ → Scan
scan odd variables messages n = turns n (λ i s. scanned s (get_or variables i 0) (get_or messages i nan)) (start_scan odd no_variable)

-- a minimum that is not finite becomes 30
unfoldable pub saturated : Float → Float
saturated x = cond (is_finite x) x saturation

-- the Rust's message to a variable: (alpha times sign) times minimum
unfoldable pub weighed : Float → Scan → ℕ → Float → Float
weighed alpha s variable message = alpha *ᶠ (s.total_sign *ᶠ message_sign message) *ᶠ saturated (cond (eqb variable s.holder) s.min2 s.min1)

-- `message.clamp(-limit, limit)`; a NaN stays
unfoldable pub clamped : Float → Float → Float
clamped limit message = let raised = cond (lt message (neg limit)) (neg limit) message in cond (lt limit raised) limit raised

-- a message beyond the clip becomes the clip with its sign
unfoldable pub clipped : Clip → Float → Float
clipped Off message = message
clipped (On limit) message = clamped limit message

-- the message sent to a variable
unfoldable pub sent : Float → Clip → Scan → ℕ → Float → Float
sent alpha clip s variable message = clipped clip (weighed alpha s variable message)

-- the first n that are sent
unfoldable pub sent_to : Float → Clip → Scan → List ℕ → List Float → ℕ → List Float
sent_to alpha clip s variables messages n = table n (λ i. sent alpha clip s (get_or variables i 0) (get_or messages i nan))

-- all that a check sends
unfoldable pub check_messages : Float → Clip → Bool → List ℕ → List Float → List Float
check_messages alpha clip odd variables messages = sent_to alpha clip (scan odd variables messages (length messages)) variables messages (length messages)
