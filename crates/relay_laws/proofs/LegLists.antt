-- The leg lists that a decode writes, and the run that is behind a decode which is answered. Assumes nothing.
use Prim.Native.Nat.{ℕ, zero, suc, ◌+◌, ◌<◌, ◌≤◌}
use mathlib.Core.Path.{◌≡◌, refl, sym, ap, ◌∙◌}
use mathlib.Core.Bool.{Bool, true, false}
use mathlib.Core.List.{List}
use mathlib.Core.Option.{Option, none, some}
use native.Mathlib.Omega.{arith}
use lib.Dec.{leb}
use lib.Ieee.{Float, nan}
use lib.ListN.{length, drop, length-append, get_or-append}
use borrow.Author.Tests.{lt-ltb}
use Rattle.numbers.specs.Loops.{over}
use Rattle.refusals.specs.Refusal.{Answer}
use Rattle.std.specs.Prelude.{Ok, Err}
use Rattle.graph_lists.specs.Messages.{by_place, posterior_fault}
use Rattle.relay_calls.specs.declared.LegRecord.{LegRecord}
use Rattle.relay_calls.specs.Records.{values_of, record_of, leg_record}
use Rattle.relay_calls.specs.Decode.{Shot, Run, Ended, decoded, refused, running, start_run, recorded, leg_judged, after_leg, legs_from, decode_legs, decode_stores}
use Rattle.relay_calls.specs.Calls.{DecodeLists, decode_outcome, decode_fault, answered, left_by, after_legs, after_decode_tests, decode_in_order, summary_of}
use Rattle.relay_calls.proofs.Calls.{legs_over}
use Rattle.relay_calls.proofs.LegEntries.{Entry, many, Held, held_none, held_more}
use Rattle.relay_laws.specs.Legs.{run_after, leg_at}

-- ---- records out of values

-- values are read back
pub values_read : (r : LegRecord) → record_of (values_of r).leg_state (values_of r).leg_iterations (values_of r).leg_weight ≡ r
values_read (LegRecord.Converged weight iterations) = refl
values_read (LegRecord.RanOut iterations) = refl
values_read LegRecord.NotExecuted = refl

-- a record is read where its values stand in the lists
pub entry_read : (ss is : List ℕ) (ws : List Float) (k : ℕ) (r : LegRecord) → k < length ss → k < length is → k < length ws → Entry ss is ws k r → leg_record ss is ws k ≡ r
unfolding leg_record
entry_read ss is ws k r a b c e =
    rw (lt-ltb k (length ss) a, lt-ltb k (length is) b, lt-ltb k (length ws) c, e.state, e.iterations, e.weight) (values_read r)

-- also where lists go on
pub entry_over : (ss is ts js : List ℕ) (ws us : List Float) (k : ℕ) (r : LegRecord) → k < length ss → k < length is → k < length ws → Entry ss is ws k r
    → leg_record (over ss ts) (over is js) (over ws us) k ≡ r
entry_over ss is ts js ws us k r a b c e =
    entry_read (over ss ts) (over is js) (over ws us) k r
    (omega (arith, length-append ss (drop (length ss) ts))) (omega (arith, length-append is (drop (length is) js))) (omega (arith, length-append ws (drop (length ws) us)))
    (record {
      state = get_or-append ss (drop (length ss) ts) 0 k a ∙ e.state;
      iterations = get_or-append is (drop (length is) js) 0 k b ∙ e.iterations;
      weight = get_or-append ws (drop (length ws) us) nan k c ∙ e.weight;
    })

-- ---- leg by leg

module _ (x : Shot) where
  -- what the lists hold after r legs
  pub held_all : (r : ℕ) → r ≤ many x → Held x (leg_at x) r (run_after x r)
  unfolding run_after leg_at
  held_all zero h = held_none x (leg_at x)
  held_all (suc r) h = held_more x (leg_at x) r (omega arith) (run_after x r) (held_all r (omega arith))

  -- ---- the run that a decode ends with

  -- it is the run after its legs
  pub record Finished (run : Run) : Type 0 where
    pub is : run ≡ run_after x run.executed_legs
    pub some : 1 ≤ run.executed_legs
    pub within : run.executed_legs ≤ many x

  executed : (r : ℕ) → (run_after x r).executed_legs ≡ r
  unfolding run_after start_run recorded
  executed zero = refl
  executed (suc r) = refl

  after_finished : (r : ℕ) → 1 ≤ r → r ≤ many x → Finished (run_after x r)
  after_finished r l h = record { is = ap (run_after x) (sym (executed r)); some = omega (arith, executed r); within = omega (arith, executed r) }

  same_finished : (run new : Run) → new ≡ run → Finished new → Finished run
  same_finished run new e f = rw (← e) f

  -- after a leg: `next` is told of the legs that are left
  judged_finished : (n r : ℕ) (a : Answer) (enough : Bool) (run : Run) → suc r ≤ many x
      → (legs_from by_place x n (running (run_after x (suc r))) (suc r) ≡ decoded run → Finished run)
      → legs_from by_place x n (leg_judged a enough (run_after x (suc r))) (suc r) ≡ decoded run → Finished run
  judged_finished n r (Err q) enough run h next e = absurd (let w = legs_over by_place x n (refused q) (suc r) in let z : ◌≡◌ {A = ℕ} 0 1 = cc in omega arith)
  judged_finished n r (Ok _) true run h next e =
      let w = legs_over by_place x n (decoded (run_after x (suc r))) (suc r) in
      let s : run_after x (suc r) ≡ run = cc in
      same_finished run (run_after x (suc r)) s (after_finished (suc r) (omega arith) h)
  judged_finished n r (Ok _) false run h next e = next e

  -- n legs from the leg r on
  legs_finished : (n r : ℕ) (run : Run) → r + n ≡ many x → legs_from by_place x n (running (run_after x r)) r ≡ decoded run → Finished run
  unfolding legs_from after_leg run_after
  legs_finished zero r run h e = let s : run_after x r ≡ run = cc in same_finished run (run_after x r) s (after_finished r (omega arith) (omega arith))
  legs_finished (suc n) r run h e =
      let new = run_after x (suc r) in
      judged_finished n r (posterior_fault x.graph new.posterior) (leb x.settings.stop_after_converged new.num_converged) run (omega arith)
      (λ q. legs_finished n (suc r) run (omega arith) q) e

  -- all legs
  pub decode_finished : (run : Run) → decode_legs by_place x ≡ decoded run → Finished run
  unfolding decode_legs run_after
  decode_finished run e = legs_finished (many x) 0 run (omega arith) e

-- ---- a decode that is answered

module _ (edges : ℕ) (x : Shot) (l : DecodeLists) where
  -- it has passed its tests, and answers and leaves what its run does
  pub record RunBehind : Type 0 where
    pub run : Run
    pub passed : decode_fault edges x l ≡ Ok tt
    pub ended : decode_legs by_place x ≡ decoded run
    pub outcome : decode_in_order edges x l ≡ decode_outcome (answered run (decode_stores by_place x) run.best_weight) (left_by edges x run l)

  -- however the legs end
  ended_behind : (e : Ended) → decode_fault edges x l ≡ Ok tt → decode_legs by_place x ≡ e → decode_in_order edges x l ≡ after_legs edges x e (decode_stores by_place x) l
      → (summary_of (after_legs edges x e (decode_stores by_place x) l).answer).refusal ≡ Ok tt → RunBehind
  ended_behind (decoded run) t q o h = record { run = run; passed = t; ended = q; outcome = o }
  ended_behind (refused r) t q o h = absurd (let z : ◌≡◌ {A = ℕ} 0 1 = cc in omega arith)

  -- whatever the tests say
  tests_behind : (a : Answer) → decode_fault edges x l ≡ a → decode_in_order edges x l ≡ after_decode_tests a (after_legs edges x (decode_legs by_place x) (decode_stores by_place x) l) l
      → (summary_of (after_decode_tests a (after_legs edges x (decode_legs by_place x) (decode_stores by_place x) l) l).answer).refusal ≡ Ok tt → RunBehind
  tests_behind (Ok _) t o h = ended_behind (decode_legs by_place x) t refl o h
  tests_behind (Err r) t o h = absurd (let z : ◌≡◌ {A = ℕ} 0 1 = cc in omega arith)

  pub run_behind : (summary_of (decode_in_order edges x l).answer).refusal ≡ Ok tt → RunBehind
  unfolding decode_in_order
  run_behind h = tests_behind (decode_fault edges x l) refl refl h

-- how many legs a run answers
pub answered_legs : (run : Run) (stores : ℕ) (w : Option Float) → (summary_of (answered run stores w)).executed_legs ≡ run.executed_legs
answered_legs run stores none = refl
answered_legs run stores (some weight) = refl

-- how many iterations, and that it says the stores that it is handed
pub answered_total : (run : Run) (stores : ℕ) (w : Option Float) → ((summary_of (answered run stores w)).total_iterations ≡ run.total_iterations) × ((summary_of (answered run stores w)).stores ≡ stores)
answered_total run stores none = (refl, refl)
answered_total run stores (some weight) = (refl, refl)
