-- The twelve small runs of docs/REFERENCE.md, R1 to R12, as one table of equations about the public calls' definitions: the models are built by `build_sparse`,
-- every test is taken, and the lent lists come in filled with 9. Definitions only. Assumes nothing.
use Rattle.std.specs.Prelude.{ℕ, suc, ◌*◌, ◌≡◌, true, false, List, [], ◌∷◌, pos, Float, length, replicate}
use Rattle.std.proofs.Math.Option.{some, none}
use Rattle.std.specs.Float.{fin}
use Rattle.numbers.specs.Floats.{zero⁺, zero⁻, one⁺, saturation}
use Rattle.refusals.specs.declared.Refusal.TheVariants.{OrderExchanged}
use Rattle.refusals.specs.Refusal.{Answer}
use Rattle.std.specs.Prelude.{Ok, Err}
use Rattle.std.specs.Prelude.{Some}
use Rattle.refusals.specs.Refusal.{answer_number, answer_place}
use Rattle.graph_lists.specs.Graph.{Graph, graph, var_entries}
use Rattle.graph_lists.specs.Model as Model
use Rattle.graph_lists.specs.Model.{build_sparse}
use Rattle.min_sum.specs.Beliefs as Beliefs
use Rattle.relay_settings.specs.declared.Settings.{Settings}
use Rattle.relay_settings.specs.declared.Schedule.{Schedule}
use Rattle.relay_settings.specs.declared.Schedule.TheVariants.{Flooding, CheckSerial}
use Rattle.relay_settings.specs.declared.Clip.TheVariants.{Off}
use Rattle.relay_settings.specs.declared.DrawRule.TheVariants.{ByShot}
use Rattle.relay_settings.specs.declared.GammaSource.TheVariants.{Seeded}
use Rattle.relay_step.specs.Leg.{start_leg}
use Rattle.relay_calls.specs.declared.Decoded.TheVariants as Decoded
use Rattle.relay_calls.specs.Decode.{shot}
use Rattle.relay_calls.specs.Calls as Calls
use Rattle.relay_calls.specs.Calls.{iteration_call, decode_in_order, step_lists, summary, summary_of}

-- ---- numbers

abbrev pub two : Float
two = fin false 1 (pos 1)

abbrev pub two⁻ : Float
two⁻ = fin true 1 (pos 1)

abbrev pub four : Float
four = fin false 1 (pos 2)

abbrev pub four⁻ : Float
four⁻ = fin true 1 (pos 2)

abbrev pub eight : Float
eight = fin false 1 (pos 3)

abbrev pub twenty_eight⁻ : Float
twenty_eight⁻ = fin true 7 (pos 2)

abbrev pub nine : Float
nine = fin false 9 (pos 0)

-- ---- models

-- lent graph lists, filled with 9
abbrev pub blank : ℕ → ℕ → ℕ → Graph
blank checks mechanisms edges =
    let nines : List ℕ = replicate edges 9 in
    graph checks mechanisms nines (replicate (suc checks) 9) nines nines (replicate (suc mechanisms) 9)

-- what `build_sparse` makes of checks, priors, detector offsets and detectors
abbrev pub model_built : ℕ → List Float → List ℕ → List ℕ → Model.BuildOutcome
model_built checks priors off dets = build_sparse (length dets) priors off dets (blank checks (length priors) (length dets))

-- the priors of G
abbrev pub fours : List Float
fours = replicate 3 four

-- G: 2 checks; detectors {0}, {0,1}, {1}; priors 4
abbrev pub built_g : Model.BuildOutcome
built_g = model_built 2 fours (0 ∷ 1 ∷ 3 ∷ 4 ∷ []) (0 ∷ 0 ∷ 1 ∷ 1 ∷ [])

abbrev pub G : Graph
G = built_g.lists

-- one check and one mechanism, which touch
abbrev pub single : Float → Graph
single prior = (model_built 1 (prior ∷ []) (0 ∷ 1 ∷ []) (0 ∷ [])).lists

-- one check and two mechanisms, which both touch it
abbrev pub pair : Float → Graph
pair prior = (model_built 1 (prior ∷ two ∷ []) (0 ∷ 1 ∷ 2 ∷ []) (0 ∷ 0 ∷ [])).lists

-- nothing in the graph
abbrev pub empty : Graph
empty = (model_built 0 [] (0 ∷ []) []).lists

-- ---- calls

-- alpha 1, no clip, gamma0 0, no relayed legs
abbrev pub settings : Schedule → ℕ → Settings
settings schedule pre =
    record {
      schedule = schedule;
      alpha = one⁺;
      clip = Off;
      gamma0 = zero⁺;
      pre_iterations = pre;
      num_legs = 0;
      leg_iterations = 0;
      gamma_low = zero⁺;
      gamma_high = zero⁺;
      stop_after_converged = 1;
      gamma_source = Seeded ByShot;
    }

-- a decode's lent lists, filled with 9, with a row more than it needs
abbrev pub lent : ℕ → ℕ → Calls.DecodeLists
lent mechanisms edges =
    let floats = replicate mechanisms nine in
    let messages = replicate edges nine in
    Calls.decode_lists (9 ∷ 9 ∷ []) (9 ∷ 9 ∷ []) (nine ∷ nine ∷ []) (replicate (2 * mechanisms) 9) (replicate mechanisms 9) floats floats floats messages messages

-- a decode in the order given
abbrev pub decoded_run : Graph → List Float → List ℕ → List ℕ → Schedule → ℕ → Calls.DecodeOutcome
decoded_run g prior syndrome order schedule pre =
    decode_in_order (length g.check_var)
    (shot g prior (settings schedule pre) [] order syndrome 0)
    (lent (length prior) (length g.check_var))

-- what a run says of it: the answer, the correction's bits and the posterior
pub record Shown : Type 0 where
  pub answer : Calls.Summary
  pub bits : List ℕ
  pub posterior : List Float

abbrev pub shown : Calls.Summary → List ℕ → List Float → Shown
shown a b p = record { answer = a; bits = b; posterior = p }

-- that, of a decode's outcome
abbrev pub show : Calls.DecodeOutcome → Shown
show o = shown (summary_of o.answer) o.left.correction o.left.posterior

-- the first iteration of a leg on G, in the order given, with gammas 0
abbrev pub first_step : Schedule → List ℕ → Calls.StepOutcome
first_step schedule order = iteration_call 4 fours G schedule one⁺ Off (replicate 3 zero⁺) (1 ∷ 0 ∷ []) order (step_lists (start_leg G fours fours) (replicate 3 nine))

-- of a single iteration, what a run says: the answer and the posterior
pub record Stepped : Type 0 where
  pub answer : Answer
  pub posterior : List Float

-- that, of an iteration's outcome
abbrev pub shown_step : Calls.StepOutcome → Stepped
shown_step o = record { answer = o.answer; posterior = o.left.now.posterior }

-- nothing is refused, and this is the posterior
abbrev pub shown_step_to : List Float → Stepped
shown_step_to p = record { answer = (Ok tt); posterior = p }

-- min-sum beliefs, not serial, scale 1, one iteration
abbrev pub believed : Graph → List Float → List ℕ → Beliefs.BeliefsOutcome
believed g prior syndrome =
    let edges = length g.check_var in
    let floats = replicate (length prior) nine in
    Beliefs.beliefs edges prior g syndrome 1 one⁺ false (Beliefs.beliefs_lists floats floats (replicate edges nine) (replicate edges nine))

-- answered with this posterior, and the work lists are zero
abbrev pub believes : ℕ → List Float → Beliefs.BeliefsOutcome
believes edges p = Beliefs.beliefs_outcome (Ok tt) (Beliefs.beliefs_lists p (replicate (length p) zero⁺) (replicate edges zero⁺) (replicate edges zero⁺))

-- ---- the table

-- the whole outcome of R3, R4 and R7: converged at 2, so many stores, bits 100, weight 4, posterior -4, 4, 4; leg zero's record and row, and behind them the row
-- that is not needed, as it was; and zeroed work lists
abbrev pub at2 : ℕ → Calls.DecodeOutcome
at2 stores =
    let zeros = replicate 3 zero⁺ in
    let bits : List ℕ = 1 ∷ 0 ∷ 0 ∷ [] in
    Calls.decode_outcome (Ok (Decoded.Converged 1 2 stores four))
    (Calls.decode_lists (2 ∷ 9 ∷ []) (2 ∷ 9 ∷ []) (four ∷ nine ∷ []) (1 ∷ 0 ∷ 0 ∷ 9 ∷ 9 ∷ 9 ∷ []) bits (four⁻ ∷ four ∷ four ∷ []) zeros zeros
    (replicate 4 zero⁺)
    (replicate 4 zero⁺))

-- the runs that docs/REFERENCE.md lists
pub record Table : Type 0 where
  -- offsets 0,2,4 and 0,1,3,4; variable 1 has messages 1 and 2
  pub r1 : (built_g ≡ Model.build_outcome (Ok tt) (graph 2 3 (0 ∷ 1 ∷ 1 ∷ 2 ∷ []) (0 ∷ 2 ∷ 4 ∷ []) (0 ∷ 0 ∷ 1 ∷ 1 ∷ []) (0 ∷ 1 ∷ 2 ∷ 3 ∷ []) (0 ∷ 1 ∷ 3 ∷ 4 ∷ [])))
      × (var_entries G 1 ≡ 1 ∷ 2 ∷ [])
  -- Flooding, pre 1: not converged, 8 stores, posterior 0,4,8, bits 000
  pub r2 : show (decoded_run G fours (1 ∷ 0 ∷ []) (0 ∷ 1 ∷ []) Flooding 1) ≡ shown (summary (Ok tt) false 1 1 8 none) (0 ∷ 0 ∷ 0 ∷ []) (zero⁺ ∷ four ∷ eight ∷ [])
  -- Flooding, pre 2: converged at 2, 16 stores, bits 100, weight 4, posterior -4,4,4
  pub r3 : decoded_run G fours (1 ∷ 0 ∷ []) (0 ∷ 1 ∷ []) Flooding 2 ≡ at2 16
  -- CheckSerial, pre 2: same outcome as R3, every list; 20 stores
  pub r4 : decoded_run G fours (1 ∷ 0 ∷ []) (0 ∷ 1 ∷ []) CheckSerial 2 ≡ at2 20
  -- first serial iteration, order 0,1: posterior 0,4,4
  pub r5 : shown_step (first_step CheckSerial (0 ∷ 1 ∷ [])) ≡ shown_step_to (zero⁺ ∷ four ∷ four ∷ [])
  -- first serial iteration, order 1,0: posterior -4,4,8; decode refuses it: 24, check 0, and writes nothing
  pub r6 : (shown_step (first_step CheckSerial (1 ∷ 0 ∷ [])) ≡ shown_step_to (four⁻ ∷ four ∷ eight ∷ []))
      × (summary_of (decoded_run G fours (1 ∷ 0 ∷ []) (1 ∷ 0 ∷ []) CheckSerial 2).answer ≡ summary (Err (OrderExchanged 0)) false 0 0 0 none)
      × (answer_number (Err (OrderExchanged 0)) ≡ 24)
      × (answer_place (Err (OrderExchanged 0)) ≡ Some 0)
      × ((decoded_run G fours (1 ∷ 0 ∷ []) (1 ∷ 0 ∷ []) CheckSerial 2).left ≡ lent 3 4)
  -- Flooding order 1,0: as R3, every list
  pub r7 : decoded_run G fours (1 ∷ 0 ∷ []) (1 ∷ 0 ∷ []) Flooding 2 ≡ at2 16
  -- min-sum, not serial, one iteration: 0,4,8
  pub r8 : believed G fours (1 ∷ 0 ∷ []) ≡ believes 4 (zero⁺ ∷ four ∷ eight ∷ [])
  -- one check, one mechanism, prior 2, syndrome 1: Relay -28, bit 1; min-sum, one iteration, 2
  pub r9 : (show (decoded_run (single two) (two ∷ []) (1 ∷ []) (0 ∷ []) Flooding 1) ≡ shown (summary (Ok tt) true 1 1 2 (some two)) (1 ∷ []) (twenty_eight⁻ ∷ []))
      × (believed (single two) (two ∷ []) (1 ∷ []) ≡ believes 1 (two ∷ []))
  -- the same in Relay, prior 30: posterior 0, bit 0, not converged
  pub r10 : show (decoded_run (single saturation) (saturation ∷ []) (1 ∷ []) (0 ∷ []) Flooding 1) ≡ shown (summary (Ok tt) false 1 1 2 none) (0 ∷ []) (zero⁺ ∷ [])
  -- nothing in the graph: converged after 1, weight negative zero
  pub r11 : show (decoded_run empty [] [] [] Flooding 1) ≡ shown (summary (Ok tt) true 1 1 0 (some zero⁻)) [] []
  -- min-sum, one check, priors -0.0 and 2, syndrome 0, one iteration: -2, 2; with +0.0: 2, 2
  pub r12 : (believed (pair zero⁻) (zero⁻ ∷ two ∷ []) (0 ∷ []) ≡ believes 2 (two⁻ ∷ two ∷ []))
      × (believed (pair zero⁺) (zero⁺ ∷ two ∷ []) (0 ∷ []) ≡ believes 2 (two ∷ two ∷ []))
