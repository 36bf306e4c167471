-- What min-sum and Relay do alike with messages, one to an edge: how they start, how a check's are had, what its first pass knows, the sum at a
-- variable, and refusal 30.
-- Definitions only. Assumes nothing.
use Rattle.std.specs.Prelude.{ℕ, suc, Bool, false, cond, Float, length, get_or, replicate}
use mathlib.Core.List.{List, map, foldl}
use Rattle.std.specs.Float.{nan, inf}
use Rattle.std.specs.Float.Ieee.{lt, neg}
use Rattle.numbers.specs.Floats.{◌+ᶠ◌, zero⁺, zero⁻, one⁺, one⁻, abs, is_finite}
use Rattle.numbers.specs.Loops.{turns, row, spliced}
use Rattle.refusals.specs.declared.Refusal.TheVariants.{NonFinite}
use Rattle.refusals.specs.Refusal.{Answer}
use Rattle.refusals.specs.Tests.{unless, first_of}
use Rattle.graph_lists.specs.Graph.{Graph}

-- each message of a variable set to that variable's value
unfoldable pub from_variables : Graph → List Float → List Float
from_variables g values = map (λ v. get_or values v nan) g.check_var

-- `c_to_v.fill(0.0)`
unfoldable pub cleared : Graph → List Float
cleared g = replicate (length g.check_var) zero⁺

-- ---- how the messages of a check are had

-- a check's messages, one for each of its entries, out of a list of all messages; and the list of all with others in their place
pub record Access : Type 0 where
  pub messages_of : Graph → ℕ → List Float → List Float
  pub with_messages : Graph → ℕ → List Float → List Float → List Float

-- by place: an entry's place is its message number, so the messages of a check are the part of the list that its offsets cut out
abbrev pub by_place : Access
by_place =
    record {
      messages_of = λ g c all. row g.check_offset c all;
      with_messages = λ g c all new. spliced all (get_or g.check_offset c 0) (get_or g.check_offset (suc c) 0) new;
    }

-- ---- a check

-- what the first pass over a check's messages knows: the total sign, the least and the next magnitude, and who holds the least. Min-sum says
-- who by its position in the check, Relay by its variable
pub record Scan : Type 0 where
  pub total_sign : Float
  pub min1 : Float
  pub min2 : Float
  pub holder : ℕ

-- a scan of its parts
abbrev pub scan_of : Float → Float → Float → ℕ → Scan
scan_of sign min1 min2 holder = record { total_sign = sign; min1 = min1; min2 = min2; holder = holder }

-- before the first message: the sign of the syndrome, infinite minima, and a holder that is nobody
abbrev pub start_scan : Bool → ℕ → Scan
start_scan odd nobody = scan_of (cond odd one⁻ one⁺) (inf false) (inf false) nobody

-- the scan, one message of `who` further, with its new total sign: strict comparison keeps the first minimum
unfoldable pub lowered : Scan → Float → ℕ → Float → Scan
lowered s sign who message =
    let magnitude = abs message in
    let lower = lt magnitude s.min1 in
    scan_of sign (cond lower magnitude s.min1) (cond lower s.min1 (cond (lt magnitude s.min2) magnitude s.min2)) (cond lower who s.holder)

-- ---- the first pass of min-sum, which the code of both takes: Relay's own (`relay_check` `Check`) finds the same sign and minima

-- `usize::MAX`, the position before any minimum is found
abbrev pub no_position : ℕ
no_position = 0xFFFF_FFFF_FFFF_FFFF

-- the total sign after a message: it flips below zero
unfoldable pub flipped_by : Float → Float → Float
flipped_by sign message = cond (lt message zero⁺) (neg sign) sign

-- the message at a position in the first pass
unfoldable pub scanned : Scan → ℕ → Float → Scan
scanned s position message = lowered s (flipped_by s.total_sign message) position message

-- the first n of a check's messages; `odd` says whether its syndrome byte is not zero
unfoldable pub scan : Bool → List Float → ℕ → Scan
scan odd messages n = turns n (λ i s. scanned s i (get_or messages i nan)) (start_scan odd no_position)

-- ---- at a variable

-- the sum of the messages that the entries name, in their order, from -0.0
unfoldable pub total : List Float → List ℕ → Float
total c_to_v entries = foldl (λ (t : Float) (message : ℕ). t +ᶠ get_or c_to_v message nan) zero⁻ entries

-- 30 for one mechanism: its value is not finite
unfoldable pub value_fault : List Float → ℕ → Answer
value_fault values v = unless (is_finite (get_or values v nan)) (NonFinite v)

-- 30: the first mechanism whose posterior is not finite
unfoldable pub posterior_fault : Graph → List Float → Answer
posterior_fault g posterior = first_of g.mechanisms (value_fault posterior)
