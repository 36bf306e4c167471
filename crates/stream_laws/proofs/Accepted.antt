-- What a record that 41 to 45 let through is: its length, its time and its room, by its kind. Assumes nothing.
use mathlib.Core.Path.{◌≡◌}
use mathlib.Core.Bool.{Bool, true, false, true≢false}
use mathlib.Core.Logic.{◌⊎◌, inl, inr, ⊎_elim}
use Prim.Native.Nat.{ℕ, ◌+◌, ◌*◌, ◌≤◌}
use native.Mathlib.Omega.{arith}
use lib.Dec.{eqb, leb}
use borrow.Author.Tests.{leb-true, eqb-true, eqb-false, ne_eqb}
use Rattle.numbers.proofs.Cases.{and_both, either}
use Rattle.std.specs.Prelude.{Ok}
use Rattle.refusals.proofs.Tests.{or_done, unless_done}
use Rattle.stream_grammar.specs.Stream.{is_settings, kind_good, counts_fit, length_good, time_good, room_good, Claims, tested}

-- ---- settings, by their kind

-- 2 or 4
pub settings_kind : (kind : ℕ) → is_settings kind ≡ true → (kind ≡ 2) ⊎ (kind ≡ 4)
unfolding is_settings
settings_kind kind h =
    ⊎_elim (λ (e : eqb kind 2 ≡ true). inl (eqb-true kind 2 e)) (λ (e : eqb kind 2 ≡ false). inr (eqb-true kind 4 (rw e at h))) (either (eqb kind 2))

-- so they are no model
pub settings_no_model : (kind : ℕ) → is_settings kind ≡ true → eqb kind 1 ≡ false
settings_no_model kind h = ne_eqb kind 1 (λ (q : kind ≡ 1). ⊎_elim (λ (e : kind ≡ 2). omega arith) (λ (e : kind ≡ 4). omega arith) (settings_kind kind h))

-- and what is of another kind is neither
pub no_settings_kind : (kind : ℕ) → is_settings kind ≡ false → (kind ≡ 2 → ⊥) × (kind ≡ 4 → ⊥)
unfolding is_settings
no_settings_kind kind h =
    ⊎_elim
    (λ (e : eqb kind 2 ≡ true). let z : true ≡ false = rw e at h in absurd (true≢false z))
    (λ (e : eqb kind 2 ≡ false). (eqb-false kind 2 e, eqb-false kind 4 (rw e at h)))
    (either (eqb kind 2))

-- ---- past 41 to 45

module _ (hasModel hasSettings : Bool) (x : Claims) where
  -- 41 to 44 hold
  pub record Passed : Type 0 where
    pub kind_good_lem : kind_good x.kind ≡ true
    pub size_good : length_good x.kind x.size x.mechanisms x.edges x.degrees ≡ true
    pub time_good_lem : time_good x.kind hasModel hasSettings ≡ true
    pub room_good_lem : room_good x.kind x.size x.checks x.mechanisms x.edges x.legs ≡ true

  -- read off the tests
  pub passed : tested hasModel hasSettings x ≡ Ok tt → Passed
  unfolding tested
  passed e =
      let a = or_done _ _ e in
      let b = or_done _ _ a.1 in
      let c = or_done _ _ b.1 in
      let d = or_done _ _ c.1 in
      record { kind_good_lem = unless_done _ _ a.0; size_good = unless_done _ _ b.0; time_good_lem = unless_done _ _ c.0; room_good_lem = unless_done _ _ d.0 }

-- a model within the room, as long as its counts say, whose degrees add up to its edges
pub record ModelWithin (size checks mechanisms edges sum : ℕ) : Type 0 where
  pub checks_fit : checks ≤ 128
  pub mechanisms_fit : mechanisms ≤ 256
  pub edges_fit : edges ≤ 512
  pub size_fits : size ≡ 12 + (12 * mechanisms + 4 * edges)
  pub sum_fits : sum ≡ edges

-- 42 and 44 say so
pub model_within : (size c m e sum l : ℕ) → length_good 1 size m e sum ≡ true → room_good 1 size c m e l ≡ true → ModelWithin size c m e sum
unfolding length_good room_good counts_fit
model_within size c m e sum l h k =
    let a = and_both (leb 12 size) _ h in
    let b = and_both (counts_fit size m e) (eqb sum e) a.1 in
    let x = and_both (leb c 128) _ k in
    let y = and_both (leb m 256) (leb e 512) x.1 in
    record {
      checks_fit = leb-true c 128 x.0;
      mechanisms_fit = leb-true m 256 y.0;
      edges_fit = leb-true e 512 y.1;
      size_fits = eqb-true size _ b.0;
      sum_fits = eqb-true sum e b.1;
    }
