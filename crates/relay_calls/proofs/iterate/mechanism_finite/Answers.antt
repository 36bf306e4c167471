-- `relay_calls::iterate::mechanism_finite` meets its contract. The mechanism's part lies within the entries, and both tests are the definition's.
-- Assumes nothing.
use mathlib.Core.Path.{refl}
use Prim.Native.Nat.{◌≤◌}
use lib.ListN.{length}
use Rattle.graph_lists.proofs.Cuts.{cut_bounds}
use Rattle.graph_messages.proofs.Parts.{part_names}
use Rattle.relay_calls.proofs.Calls.{mechanism_is}
use Rattle.relay_calls.proofs.iterate.mechanism_finite.Goals as goal
use Rattle.relay_calls.proofs.iterate.mechanism_finite.Goals.{After-at-end}

-- the mechanism's part lies within the entries
within : (c : After-at-end) → (c.at-start.result ≤ c.at-end.result) × (c.at-end.result ≤ length c.args.var_message.now)
within c = cut_bounds _ _ _ c.args.v _ _
    c.requires.walks.parts
    c.requires.v_in_bounds c.at-start.ensures c.at-end.ensures

pub slice_bounds-messages_finite-end : goal.slice_bounds-messages_finite-end
slice_bounds-messages_finite-end c = (within (goal.at.slice_bounds-messages_finite-end c).After-at-end).1

pub messages_finite-requires : goal.messages_finite-requires
messages_finite-requires c = record {
  keys = part_names _ _ _ _ c.requires.walks.named
      (within (goal.at.messages_finite-requires c).After-at-end).1;
  v_to_c_len = c.requires.v_to_c_len;
}

pub returns-then-is_finite : goal.returns-then-is_finite
returns-then-is_finite c = mechanism_is _ _ _ _ _ _ c.args.v _ _ _ _ _
    c.at-start.ensures c.at-end.ensures c.is_finite.ensures c.messages_finite.ensures (rw c.if-is_finite.true)

pub returns-else-is_finite : goal.returns-else-is_finite
returns-else-is_finite c = mechanism_is _ _ _ _ _ _ c.args.v _ _ _ _ _
    c.at-start.ensures c.at-end.ensures c.is_finite.ensures refl (rw c.if-is_finite.false)
