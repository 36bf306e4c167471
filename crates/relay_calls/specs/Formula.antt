-- What the code of a decode has on the way, with the formula for what its legs write: for private contracts, and no part of what a reader must believe.
-- Definitions only. Assumes nothing.
use Rattle.std.specs.Prelude.{ℕ, ◌*◌}
use Rattle.refusals.specs.Refusal.{Answer}
use Rattle.refusals.specs.declared.Refusal.TheVariants.{LentListLength}
use Rattle.refusals.specs.Tests.{unless, or_else}
use Rattle.graph_lists.specs.Messages.{by_place}
use Rattle.graph_lists.specs.Model.{graph_fault}
use Rattle.relay_settings.specs.Settings.{settings_fault}
use Rattle.relay_gammas.specs.Gammas.{seed_fault}
use Rattle.relay_orders.specs.Order.{names_fault, exchange_fault}
use Rattle.relay_stores.specs.Stores.{stores_each, stores_fault}
use Rattle.relay_calls.specs.Decode.{Shot, Ended, decoded, refused, decode_legs}
use Rattle.relay_calls.specs.Calls.{DecodeLists, DecodeOutcome, syndrome_fault, decode_lists_fit, after_legs, after_decode_tests}

-- the tests of a decode before 29: 1, 2, 4, 7, 9 to 21, 27, 22 to 24
unfoldable pub taken_fault : ℕ → Shot → DecodeLists → Answer
taken_fault edges x l =
    or_else (graph_fault edges x.prior x.graph)
    (or_else (settings_fault x.settings x.graph.mechanisms x.gammas)
    (or_else (syndrome_fault x.graph.checks x.syndrome)
    (or_else (seed_fault x.settings.gamma_source x.seed)
    (or_else (unless (decode_lists_fit edges x l) LentListLength)
    (or_else (names_fault x.graph.checks x.order) (exchange_fault x.settings.schedule x.graph x.order))))))

-- what legs that ended so wrote, where an iteration writes `each` messages
abbrev pub stores_in : ℕ → Ended → ℕ
stores_in each (decoded run) = run.total_iterations * each
stores_in each (refused r) = 0

-- the legs, and what they wrote by the formula
abbrev pub legs_leave : ℕ → Shot → DecodeLists → DecodeOutcome
legs_leave edges x l =
    let end = decode_legs by_place x in
    after_legs edges x end (stores_in (stores_each x.settings.schedule x.graph) end) l

-- 29, and past it the legs
abbrev pub taken_leaves : ℕ → Shot → DecodeLists → DecodeOutcome
taken_leaves edges x l = after_decode_tests (stores_fault x.settings x.graph) (legs_leave edges x l) l
