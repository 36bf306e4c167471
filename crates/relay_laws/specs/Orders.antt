-- What demand 3 asks of an order, and what a decode is refused with. Definitions only. Assumes nothing.
use Rattle.std.specs.Prelude.{ℕ, ◌≡◌}
use Rattle.numbers.specs.Loops.{upto}
use Rattle.std.specs.Prelude.{Ok}
use Rattle.refusals.specs.Refusal.{answer_number}
use Rattle.relay_settings.specs.declared.Schedule.TheVariants.{CheckSerial}
use Rattle.relay_orders.specs.Order.{NamesOnce, KeepsOrder}
use Rattle.relay_calls.specs.Answers.{DecodeAnswer}
use Rattle.relay_calls.specs.Decode.{Shot}
use Rattle.relay_calls.specs.Calls.{DecodeLists, decode_fault, summary_of, with_order}

-- the order names each check once and, in CheckSerial, keeps index order between checks that share a mechanism
pub record OrderGood (x : Shot) : Type 0 where
  pub names : NamesOnce x.graph.checks x.order
  pub keeps : x.settings.schedule ≡ CheckSerial → KeepsOrder x.graph x.order

-- the number that an answer is refused with, 0 where it is not
abbrev pub refused_with : DecodeAnswer → ℕ
refused_with d = answer_number (summary_of d).refusal

-- all tests of `decode_in_order` but 23 and 24 are passed: in index order, which 23 and 24 always take, it is not refused
abbrev pub OthersPass : ℕ → Shot → DecodeLists → Type 0
OthersPass edges x l = decode_fault edges (with_order x (upto x.graph.checks)) l ≡ Ok tt
