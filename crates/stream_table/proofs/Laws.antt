-- A model read and then built, a shot decoded over what was built, and the room that the tests leave. Assumes nothing.
use Prim.Native.Nat.{ℕ, ◌≤◌}
use mathlib.Core.Path.{◌≡◌, sym, ap, subst, ◌∙◌}
use mathlib.Core.Bool.{Bool, true, false}
use mathlib.Core.List.{List, []}
use lib.Ieee.{Float}
use lib.ListN.{length, take, drop, drop_of_length-le}
use lib.Seq.{take_all, take-length, drop-length}
use Rattle.refusals.specs.declared.Refusal.TheVariants.{BeyondRoom}
use Rattle.refusals.specs.Refusal.{Answer}
use Rattle.std.specs.Prelude.{Err}
use Rattle.refusals.specs.Tests.{unless, or_else}
use Rattle.graph_lists.specs.Graph.{Graph}
use Rattle.graph_lists.specs.Model.{build_outcome, build_sparse}
use Rattle.relay_settings.specs.declared.Settings.{Settings}
use Rattle.relay_calls.specs.Answers.{DecodeAnswer}
use Rattle.relay_calls.specs.Calls as Calls
use Rattle.stream_grammar.specs.declared.Counts.{Counts}
use Rattle.stream_grammar.specs.Stream.{syndrome, seed}
use Rattle.stream_grammar.specs.Fields.{counts_read, ModelLists, model_lists, model_read}
use Rattle.stream_grammar.proofs.Fills.{room_parts}
use Rattle.stream_table.specs.Table.{model_room, graph_room, shot_room, within, built_from, model_fault, decoded_from, Decoding, decoding, found, shot_decoded}

-- ---- lists

-- past the end of a list nothing is taken and nothing left
pub past_end : (xs : List ℕ) (n : ℕ) → length xs ≤ n → (take (length xs) xs ≡ take n xs) × (drop (length xs) xs ≡ drop n xs)
past_end xs n h = (take-length xs ∙ sym (take_all n xs h), drop-length xs ∙ sym (drop_of_length-le xs h))

-- ---- the room

-- counts that pass the test are within the room
pub counts_fit_lem : (c : Counts) (w : Bool) → w ≡ within c → w ≡ true → (c.checks ≤ 128) × (c.mechanisms ≤ 256) × (c.edges ≤ 512)
unfolding within
counts_fit_lem c w f h = room_parts c.checks c.mechanisms c.edges 128 256 512 (sym f ∙ h)

module _ (c : Counts) (p : List ℕ) (w : Bool) (e : c ≡ counts_read p) (f : w ≡ within c) where
  -- a model within it, and one beyond
  pub model_within : (a : Answer) → w ≡ true → a ≡ (built_from c.edges p (model_room c) (graph_room c)).answer → a ≡ model_fault p
  unfolding model_fault or_else unless
  model_within a h q = rw (← e, sym f ∙ h, q)

  pub model_beyond : w ≡ false → Err BeyondRoom ≡ model_fault p
  unfolding model_fault or_else unless
  model_beyond h = rw (← e, sym f ∙ h)

  module _ (settings : Settings) (shot correction : List ℕ) where
    -- a shot over a model within it, and over one beyond
    pub shot_within : (d : Decoding) (some : List ℕ) (s : ℕ) → w ≡ true → some ≡ syndrome shot → s ≡ seed shot
        → d ≡ found (decoded_from c.edges p settings some s (model_room c) (graph_room c) (shot_room c correction))
        → d ≡ shot_decoded p settings shot correction
    unfolding shot_decoded
    shot_within d some s h a b q = rw (← e, sym f ∙ h, q, a, b)

    pub shot_beyond : w ≡ false → decoding (Err BeyondRoom) correction ≡ shot_decoded p settings shot correction
    unfolding shot_decoded
    shot_beyond h = rw (← e, sym f ∙ h)

-- ---- read, built, decoded

module _ (e : ℕ) (p : List ℕ) (l : ModelLists) (priors : List Float) (offsets detectors : List ℕ) (g : Graph) where
  abbrev read : ModelLists
  read = model_lists priors offsets detectors

  -- a model that was read, and built of what was read
  pub built_read : (a : Answer) (h : Graph) → read ≡ model_read p l → build_outcome a h ≡ build_sparse e priors offsets detectors g → build_outcome a h ≡ built_from e p l g
  unfolding built_from
  built_read a h r f = subst (λ (r : ModelLists). build_outcome a h ≡ build_sparse e r.priors r.detector_offsets r.detectors g) r f

  -- and a shot decoded over it
  pub decoded_built : (settings : Settings) (syndrome : List ℕ) (seed : ℕ) (lists : Calls.DecodeLists) (a : Answer) (h : Graph) (d : DecodeAnswer) (after : Calls.DecodeLists)
      → read ≡ model_read p l
      → build_outcome a h ≡ build_sparse e priors offsets detectors g
      → Calls.decode_outcome d after ≡ Calls.decode e (record { graph = h; prior = priors; settings = settings; gammas = []; order = []; syndrome = syndrome; seed = seed }) lists
      → decoding d after.correction ≡ found (decoded_from e p settings syndrome seed l g lists)
  unfolding decoded_from found
  decoded_built settings syndrome seed lists a h d after q f w =
      let b : (h ≡ (built_from e p l g).lists) = ap (λ o. o.lists) (built_read a h q f) in
      let r : (priors ≡ (model_read p l).priors) = ap (λ (m : ModelLists). m.priors) q in
      ap found
      (subst
      (λ (k : Graph). Calls.decode_outcome d after ≡ Calls.decode e (record { graph = k; prior = (model_read p l).priors; settings = settings; gammas = []; order = []; syndrome = syndrome; seed = seed }) lists)
      b
      (subst
      (λ (x : List Float). Calls.decode_outcome d after ≡ Calls.decode e (record { graph = h; prior = x; settings = settings; gammas = []; order = []; syndrome = syndrome; seed = seed }) lists)
      r
      w))
