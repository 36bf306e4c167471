-- A shot's line is of a decode that is the best of its legs, and whose stores are the formula's. Assumes nothing.
use Prim.Native.Nat.{ℕ, ◌≤◌}
use mathlib.Core.Path.{◌≡◌, refl, sym, ap, subst, ◌∙◌}
use mathlib.Core.Bool.{Bool, true, false}
use mathlib.Core.List.{List, []}
use mathlib.Core.Logic.{◌⊎◌, inl, inr}
use mathlib.Core.Option.{Option, none, some}
use native.Mathlib.Omega.{arith}
use lib.Ieee.{Float}
use lib.ListN.{length}
use borrow.Author.Tests.{le-leb}
use Rattle.std.specs.Prelude.{Ok}
use Rattle.refusals.specs.Refusal.{number_of}
use Rattle.refusals.proofs.Tests.{or_done, unless_done}
use Rattle.graph_lists.specs.Graph.{Graph, graph_of}
use Rattle.graph.proofs.Theorems.{sparse_lists}
use Rattle.relay_settings.specs.declared.Settings.{Settings}
use Rattle.relay_stores.specs.Stores.{stores_at}
use Rattle.relay_calls.specs.declared.Decoded.{Decoded}
use Rattle.relay_calls.specs.Answers.{DecodeAnswer}
use Rattle.std.specs.Prelude.{Err}
use Rattle.relay_calls.specs.Decode.{Shot, shot}
use Rattle.relay_calls.specs.Calls.{DecodeLists, DecodeOutcome, decode_outcome, decode, Summary, summary_of, summary}
use Rattle.relay_laws.specs.BestOfLegs.{filed, BestOfLegs}
use Rattle.relay_laws.proofs.Theorems.{decode_best_of_legs, decode_stores_by_formula, legs_at_most_total}
use Rattle.stream_grammar.specs.Stream.{Rec, mechanisms, is_settings, judge, seed, syndrome}
use Rattle.stream_grammar.specs.Fields.{counts_read, model_read}
use Rattle.stream_lines.specs.Lines.{shot_line, refused_line, unless_too_long}
use Rattle.stream_table.specs.Table.{lent_numbers, model_room, graph_room, shot_room, within, built_from, model_fault, decoded_from, Decoding, found, shot_decoded}
use Rattle.stream_table.proofs.Laws.{counts_fit_lem}
use Rattle.stream_session.specs.Text.{Heard, is_there, the_payload, the_record, settings_of, line_said, shot_said, decode_of, payload_said, record_said}
use Rattle.stream_laws.specs.Lines.{model_graph, model_priors, most_legs, LineHolds}
use Rattle.stream_laws.proofs.Theorems.{shot_let_through}
use Rattle.stream_laws.proofs.Refusing.{shot_refused}
use Rattle.stream_laws.proofs.Going.{Accepted, there}

-- ---- the decode of a shot

module _ (model : List ℕ) (t : Settings) (p : List ℕ) (ok : model_fault model ≡ Ok tt) where
  -- a model that was accepted is within the room
  in_room : within (counts_read model) ≡ true
  unfolding model_fault
  in_room = unless_done _ _ (or_done _ _ ok).0

  -- so it has no more mechanisms than a line has room for
  few : (model_graph model).mechanisms ≤ 256
  unfolding graph_of
  few = (counts_fit_lem (counts_read model) true (sym in_room) refl).1

  -- the shot, over a graph, and the lists that it is lent
  abbrev shot_over : Graph → Shot
  shot_over g = shot g (model_priors model) t [] [] (syndrome p) (seed p)

  abbrev lent : List ℕ → DecodeLists
  lent correction = shot_room (counts_read model) correction

  -- the graph that is built for it
  abbrev built_graph : Graph
  built_graph = let c = counts_read model in (built_from c.edges model (model_room c) (graph_room c)).lists

  -- is that of its model
  graph_is : built_graph ≡ model_graph model
  unfolding model_fault built_from
  graph_is =
      let c = counts_read model in
      let l = model_read model (model_room c) in
      sparse_lists c.edges l.priors l.detector_offsets l.detectors (graph_room c) (or_done _ _ ok).1

  -- what the decode leaves
  abbrev leaves : List ℕ → DecodeOutcome
  leaves correction = decode (counts_read model).edges (shot_over built_graph) (lent correction)

  decoding_is : (correction : List ℕ) → shot_decoded model t p correction ≡ found (leaves correction)
  unfolding shot_decoded decoded_from
  decoding_is correction = rw in_room

  -- it is the best of its legs
  leaves_best : (correction : List ℕ) (d : DecodeAnswer) → (leaves correction).answer ≡ d → (summary_of d).refusal ≡ Ok tt
      → BestOfLegs (filed (shot_over (model_graph model)) d (leaves correction).left)
  leaves_best correction d e h =
      subst (λ (g : Graph). BestOfLegs (filed (shot_over g) d (leaves correction).left)) graph_is
      (decode_best_of_legs (counts_read model).edges (shot_over built_graph) (lent correction) d (leaves correction).left
      (ap (λ (a : DecodeAnswer). decode_outcome a (leaves correction).left) (sym e)) h)

  -- and its stores are the formula's
  leaves_stores : (correction : List ℕ) (d : DecodeAnswer) → (leaves correction).answer ≡ d → (summary_of d).refusal ≡ Ok tt
      → (summary_of d).stores ≡ stores_at t.schedule (model_graph model) (summary_of d).total_iterations
  leaves_stores correction d e h =
      decode_stores_by_formula (counts_read model).edges (shot_over built_graph) (lent correction) d (leaves correction).left
      (ap (λ (a : DecodeAnswer). decode_outcome a (leaves correction).left) (sym e)) h
      ∙ ap (λ (g : Graph). stores_at t.schedule g (summary_of d).total_iterations) graph_is

-- ---- its line

-- that is not too long
line_short : (bits line : List ℕ) → length bits ≤ 256 → unless_too_long bits line ≡ line
unfolding unless_too_long
line_short bits line h = rw (le-leb (length bits) 256 h)

module _ (h : Heard) (a : Accepted h) (offset : ℕ) (p : List ℕ) (m : is_there h.model ≡ true) (s : is_there h.settings ≡ true) where
  -- the payload of the model and the record of the settings
  abbrev model : List ℕ
  model = the_payload h.model

  abbrev settings : Rec
  settings = the_record h.settings

  accepted : model_fault model ≡ Ok tt
  accepted = a.model model (there _ h.model m)

  -- what the decode leaves
  abbrev after : DecodeOutcome
  after = leaves model (settings_of settings) p accepted (lent_numbers 256 (mechanisms model))

  -- of an answer, the line that is said of it
  line_of : (d : DecodeAnswer) (converged : Bool) (total legs stores : ℕ) (weight : Option Float) (text : List ℕ) → summary_of d ≡ summary (Ok tt) converged legs total stores weight
      → text ≡ unless_too_long after.left.correction (shot_line h.shots converged total legs after.left.correction)
      → BestOfLegs (filed (shot_over model (settings_of settings) p accepted (model_graph model)) d after.left) → after.answer ≡ d → LineHolds h.shots model settings p text
  line_of d converged total legs stores weight text e q b g =
      let c : BestOfLegs
      (record {
        graph = model_graph model;
        prior = model_priors model;
        syndrome = syndrome p;
        legs = most_legs settings;
        said = summary (Ok tt) converged legs total stores weight;
        leg_state = after.left.leg_state;
        leg_iterations = after.left.leg_iterations;
        leg_weight = after.left.leg_weight;
        rows = after.left.rows;
        correction = after.left.correction;
      }) = rw e at b in
      record {
        converged = converged;
        total = total;
        legs = legs;
        bits = after.left.correction;
        says = q ∙ line_short after.left.correction _ (omega (arith, c.bits.many, few model (settings_of settings) p accepted));
        are_bits = c.bits;
        satisfies = c.satisfies;
        fails = c.fails;
        some_leg = c.some_leg;
        legs_within = c.legs_within;
        legs_ran = legs_at_most_total _ c;
        stores = stores;
        by_formula =
            ap (λ (z : Summary). z.stores) (sym e)
            ∙ leaves_stores model (settings_of settings) p accepted (lent_numbers 256 (mechanisms model)) d g (ap (λ (z : Summary). z.refusal) e)
            ∙ ap (λ (z : Summary). stores_at (settings_of settings).schedule (model_graph model) z.total_iterations) e;
        weight = weight;
        leg_state = after.left.leg_state;
        leg_iterations = after.left.leg_iterations;
        leg_weight = after.left.leg_weight;
        rows = after.left.rows;
        best = c;
      }

  -- a text that is of a decode, or refuses the shot
  abbrev Line : List ℕ → Type 0
  Line text = LineHolds h.shots model settings p text ⊎ ((code : ℕ) × (text ≡ refused_line h.shots code))

  by_answer : (d : DecodeAnswer) → after.answer ≡ d → (decode_of model settings p).answer ≡ d → Line (shot_said h offset d after.left.correction).text
  unfolding line_said decode_of
  by_answer (Ok (Decoded.Converged n t k w)) e q =
      inl (line_of (Ok (Decoded.Converged n t k w)) true t n k (some w) _ refl refl (leaves_best model (settings_of settings) p accepted (lent_numbers 256 (mechanisms model)) _ e refl) e)
  by_answer (Ok (Decoded.NotConverged n t k)) e q =
      inl (line_of (Ok (Decoded.NotConverged n t k)) false t n k none _ refl refl (leaves_best model (settings_of settings) p accepted (lent_numbers 256 (mechanisms model)) _ e refl) e)
  by_answer (Err r) e q =
      let t = a.settings settings (there _ h.settings s) in
      inr (number_of r, rw (shot_refused model settings p r accepted t.0 t.1 q))

  decoding_left : decode_of model settings p ≡ found after
  unfolding decode_of
  decoding_left = decoding_is model (settings_of settings) p accepted (lent_numbers 256 (mechanisms model))

  answer_left : (decode_of model settings p).answer ≡ after.answer
  unfolding found
  answer_left = ap (λ (d : Decoding). d.answer) decoding_left

  bits_left : (decode_of model settings p).correction ≡ after.left.correction
  unfolding found
  bits_left = ap (λ (d : Decoding). d.correction) decoding_left

  -- what is said of the shot
  said_line : Line (shot_said h offset (decode_of model settings p).answer (decode_of model settings p).correction).text
  said_line = rw bits_left (by_answer (decode_of model settings p).answer (sym answer_left) refl)

-- of a shot that 41 to 45 let through, over what was accepted
pub shot_line_lem : (h : Heard) (offset : ℕ) (p : List ℕ) → Accepted h → judge (is_there h.model) (is_there h.settings) 3 p ≡ Ok tt
    → LineHolds h.shots (the_payload h.model) (the_record h.settings) p (record_said h offset 3 p).text
    ⊎ ((code : ℕ) × ((record_said h offset 3 p).text ≡ refused_line h.shots code))
unfolding record_said payload_said is_settings
shot_line_lem h offset p a j =
    let t = shot_let_through (is_there h.model) (is_there h.settings) p j in
    rw j (said_line h a offset p t.2 t.3)
