-- `probabilities::write_priors` meets its contract. The invariant: the first m are written in both lists. Assumes nothing.
use mathlib.Core.Path.{◌≡◌, ap, ◌∙◌}
use mathlib.Core.Bool.{true}
use mathlib.Core.List.{List}
use Prim.Native.Nat.{ℕ, ◌<◌}
use native.Mathlib.Omega.{arith}
use lib.IntN.{ℤ}
use lib.Ieee.{Float, nan}
use lib.ListN.{length, get_or, length-set}
use mir.Syntax.{w64}
use mir.Val.{to_z, of_z}
use Rattle.numbers.proofs.Turns.{map_turn}
use Rattle.std.specs.Prelude.{Ok}
use Rattle.refusals.specs.declared.Refusal.TheVariants.{BadProbability}
use Rattle.refusals.specs.Tests.{first_of}
use Rattle.refusals.proofs.Tests.{first_all, unless_done}
use Rattle.probabilities.specs.Scaled.{float_of, scaled_of, prior_of}
use Rattle.probabilities.specs.Calls.{is_probability, probability_fault}
use Rattle.probabilities.proofs.Priors.{scaled_held, scaled_back}
use Rattle.probabilities.proofs.write_priors.Goals as goal

-- each is a probability
each : (ps : List Float) → first_of (length ps) (probability_fault ps) ≡ Ok tt → (m : ℕ) → m < length ps → is_probability (get_or ps m nan) ≡ true
unfolding probability_fault
each ps h m l = unless_done (is_probability (get_or ps m nan)) (BadProbability m) (first_all (probability_fault ps) (length ps) h m l)

-- the float of a scaled prior is the prior
made : (p : Float) (z : ℤ) (v : Float) → z ≡ scaled_of p → v ≡ float_of z → v ≡ prior_of p
unfolding prior_of
made p z v e f = f ∙ ap float_of e

pub scaled_of-s-requires : goal.scaled_of-s-requires
scaled_of-s-requires c =
    each c.args.probabilities.now c.requires.probabilities_value c.loop-m.m c.loop-m-test.true

pub float_of-requires : goal.float_of-requires
float_of-requires c =
    let p = get_or c.args.probabilities.now c.loop-m.m nan in
    scaled_held p (to_z w64 (of_z w64 c.scaled_of-s.result)) (scaled_back p c.scaled_of-s.result c.scaled_of-s.ensures)

pub loop-m-preserved : goal.loop-m-preserved
loop-m-preserved c =
    let e = scaled_back (get_or c.args.probabilities.now c.loop-m.m nan) c.scaled_of-s.result c.scaled_of-s.ensures in (
      simp length-set (omega arith),
      simp length-set (omega arith),
      map_turn prior_of c.args.probabilities.now c.loop-m.priors c.loop-m.m c.float_of.result nan c.loop-m-test.true (omega arith) c.loop-m.invariant.2 (made (get_or c.args.probabilities.now c.loop-m.m nan) (to_z w64 (of_z w64 c.scaled_of-s.result)) c.float_of.result e c.float_of.ensures),
      map_turn scaled_of c.args.probabilities.now c.loop-m.scaled c.loop-m.m (to_z w64 (of_z w64 c.scaled_of-s.result)) nan c.loop-m-test.true (omega arith) c.loop-m.invariant.3 e,
    )
