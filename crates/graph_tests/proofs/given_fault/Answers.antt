-- `graph_tests::given_fault` meets its contract. Either test is one of two bounds. Assumes nothing.
use mathlib.Core.Bool.{Bool, ◌&&◌}
use mathlib.Core.List.{List}
use mathlib.Core.Path.{◌≡◌, refl}
use Prim.Native.Nat.{ℕ}
use lib.Ieee.{Float, nan, le}
use lib.ListN.{get_or}
use Rattle.std.specs.Prelude.{Ok, Err}
use Rattle.refusals.specs.Tests.{unless}
use Rattle.refusals.specs.Refusal.{Answer}
use Rattle.refusals.specs.declared.Refusal.{Refusal}
use Rattle.probabilities.specs.Calls.{is_probability, probability_fault}
use Rattle.graph_lists.specs.Model.{prior_good, prior_fault}
use Rattle.graph_tests.specs.declared.Given.{Given}
use Rattle.graph_tests.specs.declared.Given.TheVariants.{Priors, Probabilities}
use Rattle.graph_tests.specs.Numbers.{lowest_of, highest_of, bad_number, given_fault}
use Rattle.graph_tests.proofs.given_fault.Goals as goal

-- the test by its bounds
bounded : (g : Given) (xs : List Float) (m : ℕ) → let x = get_or xs m nan in unless (le (lowest_of g) x && le x (highest_of g)) (bad_number g m) ≡ given_fault g xs m
unfolding given_fault prior_fault prior_good probability_fault is_probability
bounded Priors xs m = refl
bounded Probabilities xs m = refl

-- as the code asks it
asked : (g : Given) (xs : List Float) (m : ℕ) (low high : Float) (good : Bool) (r : Refusal) (a : Answer) → let x = get_or xs m nan in
    low ≡ lowest_of g → high ≡ highest_of g → good ≡ (le low x && le x high) → r ≡ bad_number g m → a ≡ unless good r → a ≡ given_fault g xs m
asked g xs m low high good r a e f h k l = rw (l, h, e, f, k) (bounded g xs m)

pub returns-then-not-within : goal.returns-then-not-within
unfolding unless
returns-then-not-within c =
    asked c.args.given c.args.numbers.now c.args.m c.lowest.result c.highest.result c.within.result c.bad_number.result (Err c.bad_number.result)
    c.lowest.ensures c.highest.ensures c.within.ensures c.bad_number.ensures (rw c.if-not-within.true refl)

pub returns : goal.returns
unfolding unless
returns c =
    asked c.args.given c.args.numbers.now c.args.m c.lowest.result c.highest.result c.within.result (bad_number c.args.given c.args.m) (Ok tt)
    c.lowest.ensures c.highest.ensures c.within.ensures refl (rw c.if-not-within.false refl)
