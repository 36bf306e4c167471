-- The tests of a decode, however they are joined: 29 comes after all others. Assumes nothing.
use mathlib.Core.Path.{◌≡◌, refl, sym, ap, ◌∙◌}
use Prim.Native.Nat.{ℕ}
use Rattle.refusals.specs.Refusal.{Answer}
use Rattle.std.specs.Prelude.{Ok, Err}
use Rattle.refusals.specs.Tests.{or_else}
use Rattle.relay_stores.specs.Stores.{stores_fault}
use Rattle.relay_calls.specs.Decode.{Shot}
use Rattle.relay_calls.specs.Calls.{DecodeLists, decode_fault}
use Rattle.relay_calls.specs.Formula.{taken_fault}

-- tests are joined either way
pub or_joined : (a b c : Answer) → or_else (or_else a b) c ≡ or_else a (or_else b c)
unfolding or_else
or_joined (Ok _) b c = refl
or_joined (Err r) b c = refl

-- a test that refuses nothing adds nothing
pub or_none : (a : Answer) → or_else a (Ok tt) ≡ a
unfolding or_else
or_none (Ok _) = refl
or_none (Err r) = refl

-- the tests of a decode are those before 29, and 29
pub stores_last : (edges : ℕ) (x : Shot) (l : DecodeLists) → decode_fault edges x l ≡ or_else (taken_fault edges x l) (stores_fault x.settings x.graph)
unfolding decode_fault taken_fault
stores_last edges x l =
    sym (or_joined _ _ _ ∙ ap (or_else _) (or_joined _ _ _ ∙ ap (or_else _) (or_joined _ _ _ ∙ ap (or_else _) (or_joined _ _ _ ∙ ap (or_else _) (or_joined _ _ _ ∙ ap (or_else _) (or_joined _ _ _))))))
