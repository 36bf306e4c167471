-- What a line that `shots` writes of a shot implies, by the model and the syndrome that it is of. Definitions only. Assumes nothing.
use Rattle.std.specs.Prelude.{ℕ, suc, ◌≤◌, ◌≡◌, Bool, true, false, List, Float}
use Rattle.std.proofs.Math.Option.{Option}
use Rattle.std.specs.Prelude.{Ok}
use Rattle.graph_lists.specs.Graph.{Graph, graph_of, among}
use Rattle.relay_stores.specs.Stores.{stores_at}
use Rattle.relay_calls.specs.Calls.{summary}
use Rattle.relay_laws.specs.BestOfLegs.{AreBits, Satisfies, Fails, BestOfLegs}
use Rattle.stream_grammar.specs.Stream.{Rec, syndrome}
use Rattle.stream_grammar.specs.Fields.{counts_read, model_read}
use Rattle.stream_lines.specs.Lines.{shot_line}
use Rattle.stream_table.specs.Table.{model_room}
use Rattle.stream_session.specs.Text.{settings_of}

-- the graph of a model's payload: its counts, and which checks each mechanism sets off
abbrev pub model_graph : List ℕ → Graph
model_graph model =
    let c = counts_read model in
    let l = model_read model (model_room c) in
    graph_of c.checks c.mechanisms (among l.detector_offsets l.detectors)

-- its priors
abbrev pub model_priors : List ℕ → List Float
model_priors model = (model_read model (model_room (counts_read model))).priors

-- how many legs the settings of a record allow
abbrev pub most_legs : Rec → ℕ
most_legs settings = suc (settings_of settings).num_legs

-- a text that says converged or not, total, legs and bits of a shot, by the payload of its model, the record of its settings and its own payload, p
pub record LineHolds (shots : ℕ) (model : List ℕ) (settings : Rec) (p text : List ℕ) : Type 0 where
  pub converged : Bool
  pub total : ℕ
  pub legs : ℕ
  pub bits : List ℕ
  pub says : text ≡ shot_line shots converged total legs bits
  -- a bit for each mechanism. Converged, they satisfy every check; not converged, they fail at least one
  pub are_bits : AreBits (model_graph model).mechanisms bits
  pub satisfies : converged ≡ true → Satisfies (model_graph model) (syndrome p) bits
  pub fails : converged ≡ false → Fails (model_graph model) (syndrome p) bits
  -- some leg ran, no more than may, and each at least once
  pub some_leg : 1 ≤ legs
  pub legs_within : legs ≤ most_legs settings
  pub legs_ran : legs ≤ total
  -- and there are a weight, a number of stores and leg lists, which the decode left and `shots` does not write: the stores are the formula at the total, and the bits
  -- are the best of the legs
  pub stores : ℕ
  pub by_formula : stores ≡ stores_at (settings_of settings).schedule (model_graph model) total
  pub weight : Option Float
  pub leg_state : List ℕ
  pub leg_iterations : List ℕ
  pub leg_weight : List Float
  pub rows : List ℕ
  pub best : BestOfLegs
      (record {
        graph = model_graph model;
        prior = model_priors model;
        syndrome = syndrome p;
        legs = most_legs settings;
        said = summary (Ok tt) converged legs total stores weight;
        leg_state = leg_state;
        leg_iterations = leg_iterations;
        leg_weight = leg_weight;
        rows = rows;
        correction = bits;
      })
