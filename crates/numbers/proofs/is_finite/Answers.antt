-- `numbers::is_finite` meets its contract. By cases on the float, the two tests against infinity are the definition. Assumes nothing.
use Rattle.std.proofs.Common.{◌≡◌, true, false, ◌&&◌, refl}
use lib.Ieee.{Float, nan, inf, fin, lt, neg}
use Rattle.numbers.specs.Floats.{is_finite}
use Rattle.numbers.proofs.is_finite.Goals as goal

-- finite: below infinity, and above negative infinity
finite_test : (x : Float) → (lt x (inf false) && lt (inf true) x) ≡ is_finite x
unfolding lt is_finite
finite_test nan = refl
finite_test (inf true) = refl
finite_test (inf false) = refl
finite_test (fin s m e) = refl

pub returns-then-x-top : goal.returns-then-x-top
unfolding neg
returns-then-x-top c = rw (← finite_test c.args.x, ← c.infinity-top.ensures, c.if-x-top.true, c.infinity-top.ensures)

pub returns-else-x-top : goal.returns-else-x-top
returns-else-x-top c = rw (← finite_test c.args.x, ← c.infinity-top.ensures, c.if-x-top.false)
