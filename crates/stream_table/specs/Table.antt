-- The table behind 45: a model by 1 to 6, settings by 10 to 16, a shot by 20, 21, 27 and 30, each out of the payload of its record. A model's bytes, the settings and
-- a shot's bytes are all that a decode depends on. Definitions only. Assumes nothing.
use Rattle.std.specs.Prelude.{ℕ, suc, ◌+◌, ◌*◌, Bool, cond, List, [], Float, take, replicate}
use Rattle.numbers.specs.Limits.{room_checks, room_mechanisms, room_edges, room_legs}
use Rattle.numbers.specs.Floats.{zero⁺}
use Rattle.refusals.specs.declared.Refusal.TheVariants.{BeyondRoom}
use Rattle.refusals.specs.Refusal.{Answer}
use Rattle.refusals.specs.Tests.{unless, or_else}
use Rattle.graph_lists.specs.Graph.{Graph, graph}
use Rattle.graph_lists.specs.Model.{BuildOutcome, build_sparse}
use Rattle.relay_settings.specs.declared.Settings.{Settings}
use Rattle.relay_settings.specs.Settings.{check_settings}
use Rattle.relay_calls.specs.Answers.{DecodeAnswer}
use Rattle.std.specs.Prelude.{Err}
use Rattle.relay_calls.specs.Calls as Calls
use Rattle.stream_grammar.specs.declared.Counts.{Counts}
use Rattle.stream_grammar.specs.Stream.{counts_within, seed, syndrome}
use Rattle.stream_grammar.specs.Fields.{counts_read, ModelLists, model_lists, model_read, settings_read}

-- ---- the lists that the program lends: the first n of an array that is filled with one value

abbrev pub lent_floats : ℕ → ℕ → List Float
lent_floats room n = take n (replicate room zero⁺)

abbrev pub lent_numbers : ℕ → ℕ → List ℕ
lent_numbers room n = take n (replicate room 0)

-- those that a model with these counts is read into
abbrev pub model_room : Counts → ModelLists
model_room c = model_lists (lent_floats room_mechanisms c.mechanisms) (lent_numbers (suc room_mechanisms) (c.mechanisms + 1)) (lent_numbers room_edges c.edges)

-- those that its graph is built in
abbrev pub graph_room : Counts → Graph
graph_room c =
    let e = lent_numbers room_edges c.edges in
    graph c.checks c.mechanisms e (lent_numbers (suc room_checks) (c.checks + 1)) e e (lent_numbers (suc room_mechanisms) (c.mechanisms + 1))

-- those that a shot is decoded in, beside the correction that the caller lends: a row for each relayed leg and for the first
abbrev pub shot_room : Counts → List ℕ → Calls.DecodeLists
shot_room c correction =
    let m = lent_floats room_mechanisms c.mechanisms in
    let e = lent_floats room_edges c.edges in
    record {
      leg_state = replicate (suc room_legs) 0;
      leg_iterations = replicate (suc room_legs) 0;
      leg_weight = replicate (suc room_legs) zero⁺;
      rows = replicate (suc room_legs * room_mechanisms) 0;
      correction = correction;
      posterior = m;
      gamma = m;
      bias = m;
      c_to_v = e;
      v_to_c = e;
    }

-- ---- the table behind 45. The p and the model are payloads

-- a model is within the room. 44 has refused all others before: what follows asks once more, so that it is defined for all bytes
unfoldable pub within : Counts → Bool
within c = counts_within c.checks c.mechanisms c.edges

-- `build_sparse` of a payload, by way of lists l into the lists of a graph g
unfoldable pub built_from : ℕ → List ℕ → ModelLists → Graph → BuildOutcome
built_from edges p l g = let r = model_read p l in build_sparse edges r.priors r.detector_offsets r.detectors g

-- a model: 44 once more, then 1 to 6
unfoldable pub model_fault : List ℕ → Answer
model_fault p =
    let c = counts_read p in
    or_else (unless (within c) BeyondRoom) (built_from c.edges p (model_room c) (graph_room c)).answer

-- settings of either kind: 10 to 16; their source is seeded
unfoldable pub settings_answer : ℕ → List ℕ → Answer
settings_answer kind p = check_settings (settings_read kind p) 0 []

-- `decode` of a shot over a model's payload, by way of the lists lent
unfoldable pub decoded_from : ℕ → List ℕ → Settings → List ℕ → ℕ → ModelLists → Graph → Calls.DecodeLists → Calls.DecodeOutcome
decoded_from edges model settings syndrome seed l g lists =
    let graph = (built_from edges model l g).lists in
    Calls.decode edges
    (record { graph = graph; prior = (model_read model l).priors; settings = settings; gammas = []; order = []; syndrome = syndrome; seed = seed })
    lists

-- what a shot is answered, and its correction
pub record Decoding : Type 0 where
  pub answer : DecodeAnswer
  pub correction : List ℕ

abbrev pub decoding : DecodeAnswer → List ℕ → Decoding
decoding d correction = record { answer = d; correction = correction }

-- what a decode leaves of interest
unfoldable pub found : Calls.DecodeOutcome → Decoding
found o = decoding o.answer o.left.correction

-- a shot: what the decode gives, 20, 21, 27 and 30 among it; 44 where the model is beyond the room
unfoldable pub shot_decoded : List ℕ → Settings → List ℕ → List ℕ → Decoding
shot_decoded model settings p correction =
    let c = counts_read model in
    cond (within c)
    (found (decoded_from c.edges model settings (syndrome p) (seed p) (model_room c) (graph_room c) (shot_room c correction)))
    (decoding (Err BeyondRoom) correction)
