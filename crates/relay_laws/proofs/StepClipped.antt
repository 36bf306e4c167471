-- The single iteration with a clip that is on: its check messages stay finite, whatever state passes 25, in every order. Assumes nothing.
use Prim.Native.Nat.{ℕ}
use mathlib.Core.Path.{◌≡◌}
use mathlib.Core.Bool.{true}
use mathlib.Core.List.{List}
use lib.Ieee.{Float, binary64, fits}
use Rattle.numbers.proofs.Cases.{and_both}
use Rattle.numbers.proofs.Loops.{every_at, every_true}
use Rattle.std.specs.Prelude.{Ok}
use Rattle.refusals.proofs.Tests.{or_done, unless_done}
use Rattle.graph_lists.specs.Graph.{Graph}
use Rattle.graph_lists.specs.Messages.{by_place}
use Rattle.relay_settings.specs.declared.Clip.TheVariants.{On}
use Rattle.relay_settings.specs.declared.Schedule.{Schedule}
use Rattle.relay_step.specs.Step.{iteration}
use Rattle.relay_step.proofs.Tame.{iteration_finite}
use Rattle.relay_calls.specs.Calls.{StepLists, finite_at, all_finite, state_finite, step_fault}

pub step_fine : (edges : ℕ) (prior : List Float) (g : Graph) (schedule : Schedule) (alpha limit : Float) (gamma : List Float) (syndrome order : List ℕ) (l : StepLists)
    → fits binary64 alpha ≡ true → step_fault edges prior g alpha (On limit) gamma syndrome order l ≡ Ok tt
    → all_finite (iteration schedule by_place g alpha (On limit) syndrome prior gamma order l.now).c_to_v ≡ true
unfolding step_fault state_finite all_finite finite_at
step_fine edges prior g schedule alpha limit gamma syndrome order l fit h =
    let t1 = or_done _ _ (or_done _ _ h).1 in
    let t2 = or_done _ _ t1.1 in
    let t3 = or_done _ _ (or_done _ _ (or_done _ _ t2.1).1).1 in
    let before = (and_both (all_finite l.now.c_to_v) _ (unless_done _ _ t3.1)).0 in
    every_true _ _ (iteration_finite alpha limit (unless_done _ _ t2.0) fit (unless_done _ _ t1.0) g syndrome schedule prior gamma order l.now (every_at _ _ before))
