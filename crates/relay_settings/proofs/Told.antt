-- What settings that pass their tests are like. Assumes nothing.
use mathlib.Core.Path.{◌≡◌, refl, sym, ap, ◌∙◌}
use mathlib.Core.Bool.{Bool, true, false, ◌||◌}
use mathlib.Core.List.{List}
use Prim.Native.Nat.{ℕ, ◌*◌, ◌<◌, ◌≤◌}
use native.Mathlib.Omega.{arith}
use lib.Dec.{eqb, leb}
use lib.Ieee.{Float}
use lib.ListN.{length}
use borrow.Author.Tests.{eqb-true, leb-true}
use Rattle.numbers.proofs.Cases.{and_both}
use Rattle.std.specs.Prelude.{Ok}
use Rattle.refusals.proofs.Tests.{or_done, unless_done}
use Rattle.relay_settings.specs.declared.GammaSource.TheVariants.{Explicit}
use Rattle.relay_settings.specs.declared.Settings.{Settings}
use Rattle.relay_settings.specs.Settings.{pre_good, leg_iterations_good, sets_good, source_fault, settings_fault}

module _ (t : Settings) (m : ℕ) (flat : List Float) where
  -- settings that pass
  pub record SettingsTold : Type 0 where
    pub pre_some : 0 < t.pre_iterations
    pub pre_few : t.pre_iterations ≤ 65535
    pub legs_few : t.num_legs ≤ 65535
    pub leg_few : t.leg_iterations ≤ 65535
    pub leg_some : 0 < t.num_legs → 0 < t.leg_iterations
    pub sets_many : 0 < t.num_legs → (sets : ℕ) → t.gamma_source ≡ Explicit sets → (0 < sets) × (length flat ≡ sets * m)

  -- some, where it may be none only without legs
  some_where : (n legs : ℕ) → (leb 1 n || eqb legs 0) ≡ true → 0 < legs → 0 < n
  some_where n legs h k = go (leb 1 n) refl h
    where
      go : (b : Bool) → leb 1 n ≡ b → (b || eqb legs 0) ≡ true → 0 < n
      go true e q = leb-true 1 n e
      go false e q = absurd (let z = eqb-true legs 0 q in omega (arith, z, k))

  -- read off the tests
  pub settings_told : settings_fault t m flat ≡ Ok tt → SettingsTold
  unfolding settings_fault pre_good leg_iterations_good sets_good source_fault
  settings_told h =
      let a0 = or_done _ _ h in
      let a1 = or_done _ _ a0.1 in
      let a2 = or_done _ _ a1.1 in
      let a3 = or_done _ _ a2.1 in
      let a4 = or_done _ _ a3.1 in
      let a5 = or_done _ _ a4.1 in
      let a6 = or_done _ _ a5.1 in
      let a7 = or_done _ _ a6.1 in
      let pre = and_both (leb 1 t.pre_iterations) (leb t.pre_iterations 65535) (unless_done _ _ a3.0) in
      let leg = and_both (leb t.leg_iterations 65535) (leb 1 t.leg_iterations || eqb t.num_legs 0) (unless_done _ _ a5.0) in
      record {
        pre_some = leb-true 1 t.pre_iterations pre.0;
        pre_few = leb-true t.pre_iterations 65535 pre.1;
        legs_few = leb-true t.num_legs 65535 (unless_done _ _ a4.0);
        leg_few = leb-true t.leg_iterations 65535 leg.0;
        leg_some = some_where t.leg_iterations t.num_legs leg.1;
        sets_many = λ k sets e. sets_told sets k (ap (λ s. source_fault s t.num_legs m flat) (sym e) ∙ a7.1);
      }
    where
      sets_told : (sets : ℕ) → 0 < t.num_legs → source_fault (Explicit sets) t.num_legs m flat ≡ Ok tt → (0 < sets) × (length flat ≡ sets * m)
      sets_told sets k d =
          let b1 = or_done _ _ d in
          let b2 = or_done _ _ b1.1 in
          let good = and_both (leb sets 65535) (eqb (length flat) (sets * m)) (unless_done _ _ b2.0) in
          (some_where sets t.num_legs (unless_done _ _ b1.0) k, eqb-true (length flat) (sets * m) good.1)
