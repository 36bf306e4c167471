-- The public calls of `relay`: `iteration`, `decode_in_order`, `decode` and `leg_record`. For each its tests in the reference's order, its answer, and what it
-- leaves in every lent list. Definitions only. Assumes nothing.
use Rattle.std.specs.Prelude.{ℕ, suc, ◌*◌, Bool, true, false, ◌&&◌, List, eqb, leb, Float, length, get_or, replicate}
use Rattle.std.proofs.Math.Option.{Option, none, some}
use Rattle.std.specs.Float.{nan}
use Rattle.numbers.specs.Floats.{zero⁺, is_finite}
use Rattle.numbers.specs.Loops.{every, over, upto}
use Rattle.refusals.specs.declared.Refusal.TheVariants.{BadClip, BadAlpha, SyndromeLength, SyndromeNotBinary, LentListLength, StateNotFinite, NonFinite}
use Rattle.refusals.specs.Refusal.{Answer}
use Rattle.std.specs.Prelude.{Ok, Err}
use Rattle.refusals.specs.Tests.{unless, or_else, first_of, unless_refused}
use Rattle.graph_lists.specs.Graph.{Graph, var_entries}
use Rattle.graph_lists.specs.Messages.{Access, by_place}
use Rattle.graph_lists.specs.Model.{graph_fault}
use Rattle.relay_settings.specs.declared.Clip.{Clip}
use Rattle.relay_settings.specs.declared.Schedule.{Schedule}
use Rattle.relay_calls.specs.declared.Decoded.{Decoded}
use Rattle.relay_calls.specs.Answers.{DecodeAnswer}
use Rattle.relay_settings.specs.Settings.{clip_good, alpha_good, settings_fault}
use Rattle.relay_gammas.specs.Gammas.{seed_fault}
use Rattle.relay_step.specs.Step.{State, state, iteration}
use Rattle.relay_orders.specs.Order.{names_fault, exchange_fault}
use Rattle.relay_stores.specs.Stores.{stores_fault}
use Rattle.relay_calls.specs.Decode.{Shot, shot, Run, Ended, decoded, refused, decode_legs, decode_stores, correction_of}

-- 21 for one check: its byte is 0 or 1
unfoldable pub byte_fault : List ℕ → ℕ → Answer
byte_fault syndrome c = unless (leb (get_or syndrome c 0) 1) (SyndromeNotBinary c)

-- 20, then 21: a byte for each check, and each 0 or 1
unfoldable pub syndrome_fault : ℕ → List ℕ → Answer
syndrome_fault checks syndrome = or_else (unless (eqb (length syndrome) checks) SyndromeLength) (first_of checks (byte_fault syndrome))

-- ---- the single iteration

-- its lent lists: the state goes in and comes back, and the bias is for work
pub record StepLists : Type 0 where
  pub now : State
  pub bias : List Float

abbrev pub step_lists : State → List Float → StepLists
step_lists s b = record { now = s; bias = b }

-- the answer, and the lists as they are after
pub record StepOutcome : Type 0 where
  pub answer : Answer
  pub left : StepLists

abbrev pub step_outcome : Answer → StepLists → StepOutcome
step_outcome a l = record { answer = a; left = l }

-- 22: the lists, and the gammas, fit a graph with this many edges exactly
unfoldable pub step_fits : ℕ → Graph → List Float → StepLists → Bool
step_fits edges g gamma l =
    eqb (length gamma) g.mechanisms
    && (eqb (length l.now.c_to_v) edges
    && (eqb (length l.now.v_to_c) edges && (eqb (length l.now.posterior) g.mechanisms && eqb (length l.bias) g.mechanisms)))

-- whether the element i is finite
unfoldable pub finite_at : List Float → ℕ → Bool
finite_at xs i = is_finite (get_or xs i nan)

-- whether all of a list are
unfoldable pub all_finite : List Float → Bool
all_finite xs = every (length xs) (finite_at xs)

-- 25: the messages, the posterior and the gammas are finite
unfoldable pub state_finite : List Float → State → Bool
state_finite gamma s = all_finite s.c_to_v && (all_finite s.v_to_c && (all_finite s.posterior && all_finite gamma))

-- the tests of `iteration` behind those of the graph: 9, 10, 20, 21, 22, 23, 25
abbrev pub step_rest : ℕ → Graph → Float → Clip → List Float → List ℕ → List ℕ → StepLists → Answer
step_rest edges g alpha clip gamma syndrome order l =
    or_else (unless (clip_good clip) BadClip)
    (or_else (unless (alpha_good alpha) BadAlpha)
    (or_else (syndrome_fault g.checks syndrome)
    (or_else (unless (step_fits edges g gamma l) LentListLength)
    (or_else (names_fault g.checks order) (unless (state_finite gamma l.now) StateNotFinite)))))

-- the tests of `iteration`: 1, 2, 4, 7, 9, 10, 20, 21, 22, 23, 25
unfoldable pub step_fault : ℕ → List Float → Graph → Float → Clip → List Float → List ℕ → List ℕ → StepLists → Answer
step_fault edges prior g alpha clip gamma syndrome order l = or_else (graph_fault edges prior g) (step_rest edges g alpha clip gamma syndrome order l)

-- both messages that the i-th of these entries names are finite
unfoldable pub message_finite : State → List ℕ → ℕ → Bool
message_finite s entries i = finite_at s.c_to_v (get_or entries i 0) && finite_at s.v_to_c (get_or entries i 0)

-- the posterior and all messages of the mechanism v are finite
unfoldable pub mechanism_finite : Graph → State → ℕ → Bool
mechanism_finite g s v = finite_at s.posterior v && every (length (var_entries g v)) (message_finite s (var_entries g v))

-- 30 for one mechanism
unfoldable pub finite_fault : Graph → State → ℕ → Answer
finite_fault g s v = unless (mechanism_finite g s v) (NonFinite v)

-- 30: the first mechanism that has a posterior or a message that is not finite
unfoldable pub step_end : Graph → State → Answer
step_end g s = first_of g.mechanisms (finite_fault g s)

-- past the tests: the state after the step, zeroed on 30, and a zeroed bias
unfoldable pub stepped : ℕ → Graph → State → StepOutcome
stepped edges g s =
    let a = step_end g s in
    let zeros = replicate g.mechanisms zero⁺ in
    step_outcome a (step_lists (unless_refused a s (state (replicate edges zero⁺) (replicate edges zero⁺) zeros)) zeros)

-- a call that its tests refuse writes nothing
abbrev pub after_step_tests : Answer → StepOutcome → StepLists → StepOutcome
after_step_tests (Ok _) o l = o
after_step_tests (Err r) o l = step_outcome (Err r) l

-- a call whose tests answer `tested`, with a check's messages had so
abbrev pub iteration_by : Access → Answer → ℕ → List Float → Graph → Schedule → Float → Clip → List Float → List ℕ → List ℕ → StepLists → StepOutcome
iteration_by had tested edges prior g schedule alpha clip gamma syndrome order l =
    let o = stepped edges g (iteration schedule had g alpha clip syndrome prior gamma order l.now) in
    after_step_tests tested o l

-- `iteration`: one step of the schedule in the order given
unfoldable pub iteration_call : ℕ → List Float → Graph → Schedule → Float → Clip → List Float → List ℕ → List ℕ → StepLists → StepOutcome
iteration_call edges prior g schedule alpha clip gamma syndrome order l =
    iteration_by by_place (step_fault edges prior g alpha clip gamma syndrome order l) edges prior g schedule alpha clip gamma syndrome order l

-- ---- decode

-- its lent lists: the legs' records, the correction and the posterior are results, and the rest is for work
pub record DecodeLists : Type 0 where
  pub leg_state : List ℕ
  pub leg_iterations : List ℕ
  pub leg_weight : List Float
  pub rows : List ℕ
  pub correction : List ℕ
  pub posterior : List Float
  pub gamma : List Float
  pub bias : List Float
  pub c_to_v : List Float
  pub v_to_c : List Float

-- the lists of their parts
abbrev pub decode_lists : List ℕ → List ℕ → List Float → List ℕ → List ℕ → List Float → List Float → List Float → List Float → List Float → DecodeLists
decode_lists states iterations weights rows correction posterior gamma bias c_to_v v_to_c =
    record {
      leg_state = states;
      leg_iterations = iterations;
      leg_weight = weights;
      rows = rows;
      correction = correction;
      posterior = posterior;
      gamma = gamma;
      bias = bias;
      c_to_v = c_to_v;
      v_to_c = v_to_c;
    }

-- the answer, and the lists as they are after
pub record DecodeOutcome : Type 0 where
  pub answer : DecodeAnswer
  pub left : DecodeLists

abbrev pub decode_outcome : DecodeAnswer → DecodeLists → DecodeOutcome
decode_outcome a l = record { answer = a; left = l }

-- 22: the legs' lists have at least num_legs + 1 rows, and the others fit a graph with this many edges exactly
unfoldable pub decode_lists_fit : ℕ → Shot → DecodeLists → Bool
decode_lists_fit edges x l =
    let legs = suc x.settings.num_legs in
    let mechanisms = x.graph.mechanisms in
    leb legs (length l.leg_state)
    && (leb legs (length l.leg_iterations)
    && (leb legs (length l.leg_weight)
    && (leb (legs * mechanisms) (length l.rows)
    && (eqb (length l.correction) mechanisms
    && (eqb (length l.posterior) mechanisms
    && (eqb (length l.gamma) mechanisms
    && (eqb (length l.bias) mechanisms && (eqb (length l.c_to_v) edges && eqb (length l.v_to_c) edges))))))))

-- the tests of a decode behind those of the graph: 9 to 21, 27, 22 to 24, 29
abbrev pub decode_rest : ℕ → Shot → DecodeLists → Answer
decode_rest edges x l =
    or_else (settings_fault x.settings x.graph.mechanisms x.gammas)
    (or_else (syndrome_fault x.graph.checks x.syndrome)
    (or_else (seed_fault x.settings.gamma_source x.seed)
    (or_else (unless (decode_lists_fit edges x l) LentListLength)
    (or_else (names_fault x.graph.checks x.order)
    (or_else (exchange_fault x.settings.schedule x.graph x.order) (stores_fault x.settings x.graph))))))

-- the tests of a decode: 1, 2, 4, 7, 9 to 21, 27, 22 to 24, 29
unfoldable pub decode_fault : ℕ → Shot → DecodeLists → Answer
decode_fault edges x l = or_else (graph_fault edges x.prior x.graph) (decode_rest edges x l)

-- what a run that wrote so many messages answers
abbrev pub answered : Run → ℕ → Option Float → DecodeAnswer
answered run stores none = Ok (Decoded.NotConverged run.executed_legs run.total_iterations stores)
answered run stores (some weight) = Ok (Decoded.Converged run.executed_legs run.total_iterations stores weight)

-- the lists after a run: the legs' records over the front of theirs, whose surplus is kept, and zeroed work lists
unfoldable pub left_by : ℕ → Shot → Run → DecodeLists → DecodeLists
left_by edges x run l =
    let zeros = replicate x.graph.mechanisms zero⁺ in
    record {
      leg_state = over run.leg_state l.leg_state;
      leg_iterations = over run.leg_iterations l.leg_iterations;
      leg_weight = over run.leg_weight l.leg_weight;
      rows = over run.rows l.rows;
      correction = correction_of run run.best_weight;
      posterior = run.posterior;
      gamma = zeros;
      bias = zeros;
      c_to_v = replicate edges zero⁺;
      v_to_c = replicate edges zero⁺;
    }

-- the lists after refusal 30: every result list is zeroed, all num_legs + 1 rows, and the work lists too
unfoldable pub zeroed : ℕ → Shot → DecodeLists → DecodeLists
zeroed edges x l =
    let legs = suc x.settings.num_legs in
    let mechanisms = x.graph.mechanisms in
    let zeros = replicate mechanisms zero⁺ in
    record {
      leg_state = over (replicate legs 0) l.leg_state;
      leg_iterations = over (replicate legs 0) l.leg_iterations;
      leg_weight = over (replicate legs zero⁺) l.leg_weight;
      rows = over (replicate (legs * mechanisms) 0) l.rows;
      correction = replicate mechanisms 0;
      posterior = zeros;
      gamma = zeros;
      bias = zeros;
      c_to_v = replicate edges zero⁺;
      v_to_c = replicate edges zero⁺;
    }

-- past the tests: how the legs ended, and how many messages they wrote, of which a refusal says nothing
abbrev pub after_legs : ℕ → Shot → Ended → ℕ → DecodeLists → DecodeOutcome
after_legs edges x (decoded run) stores l = decode_outcome (answered run stores run.best_weight) (left_by edges x run l)
after_legs edges x (refused r) stores l = decode_outcome (Err r) (zeroed edges x l)

-- a call that its tests refuse writes nothing
abbrev pub after_decode_tests : Answer → DecodeOutcome → DecodeLists → DecodeOutcome
after_decode_tests (Ok _) o l = o
after_decode_tests (Err r) o l = decode_outcome (Err r) l

-- a call whose tests answer `tested`, with a check's messages had so
abbrev pub decode_by : Access → Answer → ℕ → Shot → DecodeLists → DecodeOutcome
decode_by had tested edges x l = let o = after_legs edges x (decode_legs had x) (decode_stores had x) l in after_decode_tests tested o l

-- `decode_in_order`: the checks in the order that the shot has
unfoldable pub decode_in_order : ℕ → Shot → DecodeLists → DecodeOutcome
decode_in_order edges x l = decode_by by_place (decode_fault edges x l) edges x l

-- a shot in another order
abbrev pub with_order : Shot → List ℕ → Shot
with_order x order = shot x.graph x.prior x.settings x.gammas order x.syndrome x.seed

-- `decode`: the checks in index order, whatever order the shot has
unfoldable pub decode : ℕ → Shot → DecodeLists → DecodeOutcome
decode edges x l = decode_in_order edges (with_order x (upto x.graph.checks)) l

-- the reference's words for an answer: the refusal, if there is one; converged or not; executed legs; total iterations; message stores; and the weight, if
-- there is one
pub record Summary : Type 0 where
  pub refusal : Answer
  pub converged : Bool
  pub executed_legs : ℕ
  pub total_iterations : ℕ
  pub stores : ℕ
  pub weight : Option Float

abbrev pub summary : Answer → Bool → ℕ → ℕ → ℕ → Option Float → Summary
summary a c n t m w = record { refusal = a; converged = c; executed_legs = n; total_iterations = t; stores = m; weight = w }

-- what each answer says in them
abbrev pub summary_of : DecodeAnswer → Summary
summary_of (Ok (Decoded.Converged n t m w)) = summary (Ok tt) true n t m (some w)
summary_of (Ok (Decoded.NotConverged n t m)) = summary (Ok tt) false n t m none
summary_of (Err r) = summary (Err r) false 0 0 0 none
