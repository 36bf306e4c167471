-- After its tests a decode is refused with 30 alone. Assumes nothing.
use Prim.Native.Nat.{ℕ, zero, suc}
use mathlib.Core.Path.{◌≡◌, refl}
use mathlib.Core.Bool.{Bool, true, false}
use mathlib.Core.List.{List}
use native.Mathlib.Omega.{arith}
use lib.Ieee.{Float}
use Rattle.refusals.specs.declared.Refusal.{Refusal}
use Rattle.refusals.specs.Refusal.{Answer}
use Rattle.std.specs.Prelude.{Ok, Err}
use Rattle.refusals.specs.Refusal.{number_of}
use Rattle.refusals.specs.Tests.{unless, or_else, first_of}
use Rattle.graph_lists.specs.Graph.{Graph}
use Rattle.graph_lists.specs.Messages.{by_place, value_fault, posterior_fault}
use Rattle.relay_calls.specs.Decode.{Shot, Run, Ended, decoded, refused, Progress, running, finished, start_run, leg_judged, after_leg, legs_from, decode_legs}

-- an answer that refuses with this number, if it refuses
abbrev pub Only : ℕ → Answer → Type 0
Only k a = (r : Refusal) → a ≡ Err r → number_of r ≡ k

-- what refuses nothing
only_done : (k : ℕ) → Only k (Ok tt)
only_done k r e = absurd (let z : ◌≡◌ {A = ℕ} 0 1 = cc in omega arith)

-- one refusal
only_one : (k : ℕ) (q : Refusal) → number_of q ≡ k → Only k (Err q)
only_one k q h r e = let s : q ≡ r = cc in rw (← s) h

-- one test
only_unless : (k : ℕ) (b : Bool) (q : Refusal) → number_of q ≡ k → Only k (unless b q)
unfolding unless
only_unless k true q h = only_done k
only_unless k false q h = only_one k q h

-- two tests
only_or : (k : ℕ) (a b : Answer) → Only k a → Only k b → Only k (or_else a b)
unfolding or_else
only_or k (Ok _) b f g = g
only_or k (Err r) b f g = f

-- a row of tests
only_first : (k n : ℕ) (f : ℕ → Answer) → ((i : ℕ) → Only k (f i)) → Only k (first_of n f)
unfolding first_of
only_first k zero f h = only_done k
only_first k (suc n) f h = only_or k (first_of n f) (f n) (only_first k n f h) (h n)

-- 30
posterior_30 : (g : Graph) (p : List Float) → Only 30 (posterior_fault g p)
unfolding posterior_fault value_fault
posterior_30 g p = only_first 30 g.mechanisms (value_fault p) (λ i. only_unless 30 _ _ refl)

-- a progress that refuses with 30, if it does
data Fair : Progress → Type 0 where
  goes : (run : Run) → Fair (running run)
  ends : (run : Run) → Fair (finished (decoded run))
  fails : (r : Refusal) → number_of r ≡ 30 → Fair (finished (refused r))

-- after a leg
judged_fair : (a : Answer) (enough : Bool) (run : Run) → Only 30 a → Fair (leg_judged a enough run)
judged_fair (Err r) enough run f = fails r (f r refl)
judged_fair (Ok _) true run f = ends run
judged_fair (Ok _) false run f = goes run

after_fair : (x : Shot) (r : ℕ) (run : Run) → Fair (after_leg by_place x r run)
unfolding after_leg
after_fair x r run = judged_fair _ _ _ (posterior_30 _ _)

-- how the legs end
pub data Ends : Ended → Type 0 where
  with_run : (run : Run) → Ends (decoded run)
  with_30 : (r : Refusal) → number_of r ≡ 30 → Ends (refused r)

legs_end : (x : Shot) (n : ℕ) (p : Progress) (r : ℕ) → Fair p → Ends (legs_from by_place x n p r)
unfolding legs_from
legs_end x zero (running run) r f = with_run run
legs_end x zero (finished (decoded run)) r f = with_run run
legs_end x zero (finished (refused q)) r (fails _ h) = with_30 q h
legs_end x (suc n) (running run) r f = legs_end x n (after_leg by_place x r run) (suc r) (after_fair x r run)
legs_end x (suc n) (finished (decoded run)) r f = with_run run
legs_end x (suc n) (finished (refused q)) r (fails _ h) = with_30 q h

pub decode_ends : (x : Shot) → Ends (decode_legs by_place x)
unfolding decode_legs
decode_ends x = legs_end x _ (running (start_run x)) 0 (goes (start_run x))
