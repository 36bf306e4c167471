-- `graph_tests::mechanism_fault` meets its contract. Each answer is the definition at what the number's test said. Assumes nothing.
use mathlib.Core.List.{List}
use mathlib.Core.Path.{◌≡◌}
use Prim.Native.Nat.{ℕ}
use lib.ListN.{length}
use Rattle.std.specs.Prelude.{Ok, Err}
use Rattle.std.proofs.lemmas.Result.{err_from_is_err_and}
use Rattle.refusals.specs.Tests.{or_else, first_of}
use Rattle.refusals.specs.Refusal.{Answer}
use Rattle.refusals.specs.declared.Refusal.{Refusal}
use Rattle.graph_lists.specs.Model.{detector_fault, mechanism_test}
use Rattle.graph_tests.proofs.mechanism_fault.Goals as goal

-- the number is refused: its answer
own_refused : (checks m : ℕ) (given : Answer) (ds : List ℕ) (r : Refusal) → Err r ≡ given → Err r ≡ mechanism_test checks m given ds
unfolding mechanism_test or_else
own_refused checks m given ds r e = rw (← e)

-- it is not: the detectors'
own_passed : (checks m : ℕ) (given : Answer) (ds : List ℕ) (a : Answer) → Ok tt ≡ given → a ≡ first_of (length ds) (detector_fault checks m ds) → a ≡ mechanism_test checks m given ds
unfolding mechanism_test or_else
own_passed checks m given ds a e q = rw (← e) q

pub returns-in_err-given_fault : goal.returns-in_err-given_fault
returns-in_err-given_fault c =
    let p = err_from_is_err_and c.from_residual.result c.from_residual.ensures.1 in
    rw (p.1, p.2) (own_refused _ _ _ _ _ c.in_err-given_fault.ensures)

pub returns : goal.returns
returns c = own_passed _ _ _ _ _ c.in_ok-given_fault.ensures c.detectors_fault.ensures
