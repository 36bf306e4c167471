-- The legs of a decode read four of the five graph lists: over those alone they are the legs over the whole graph. Assumes nothing.
use mathlib.Core.Path.{◌≡◌, refl, ap, ◌∙◌}
use mathlib.Core.Bool.{false}
use mathlib.Core.List.{List, []}
use Prim.Native.Nat.{ℕ, suc, ◌*◌}
use lib.Dec.{leb}
use lib.Ieee.{Float}
use lib.ListN.{length}
use Rattle.refusals.specs.declared.Refusal.TheVariants.{TooManyStores}
use Rattle.refusals.specs.Tests.{unless}
use Rattle.graph_lists.specs.Graph.{graph}
use Rattle.graph_lists.specs.Messages.{by_place, from_variables, cleared, posterior_fault}
use Rattle.graph_messages.specs.Needs.{walked}
use Rattle.relay_settings.specs.declared.Settings.{Settings}
use Rattle.relay_stores.specs.Stores.{stores_each, most_iterations, max_stores, stores_fault}
use Rattle.relay_stores.proofs.Squares.{each_same}
use Rattle.relay_gammas.specs.Gammas.{gamma_of}
use Rattle.relay_step.specs.Leg.{start_leg, run_leg, matches, satisfied}
use Rattle.relay_calls.specs.Decode.{Shot, Run, Ended, decoded, refused, running, iteration_limit, step_of, executed_leg, start_run, recorded, after_leg, decode_legs}
use Rattle.relay_calls.specs.Calls.{DecodeLists, DecodeOutcome, left_by, zeroed, after_legs, after_decode_tests}
use Rattle.relay_calls.specs.Formula.{stores_in, legs_leave, taken_leaves}
use Rattle.relay_calls.proofs.Calls.{same_step, legs_agree}
use Rattle.relay_record.specs.Kept.{shot_of}

module _ (t : Settings) (flat : List Float) (seed : ℕ) (syndrome : List ℕ) (prior : List Float) (cv co vc vm vo order : List ℕ) where
  -- the shot over the four lists
  abbrev few : ℕ → ℕ → Shot
  few checks mechanisms =
      record { graph = walked checks mechanisms cv co vm vo; prior = prior; settings = t; gammas = flat; order = order; syndrome = syndrome; seed = seed }

  -- and over all five
  abbrev pub whole : ℕ → ℕ → Shot
  whole checks mechanisms =
      record { graph = graph checks mechanisms cv co vc vm vo; prior = prior; settings = t; gammas = flat; order = order; syndrome = syndrome; seed = seed }

  module _ (checks mechanisms : ℕ) where
    -- one leg
    executed_whole : (r : ℕ) (p : List Float) → executed_leg by_place (few checks mechanisms) r p ≡ executed_leg by_place (whole checks mechanisms) r p
    unfolding executed_leg step_of start_leg cleared from_variables satisfied matches
    executed_whole r p =
        ap
        (λ step. run_leg step (satisfied (graph checks mechanisms cv co vc vm vo) syndrome) (iteration_limit t r) false 0 (start_leg (graph checks mechanisms cv co vc vm vo) prior p))
        (same_step checks mechanisms cv co vc vm vo t.alpha t.clip syndrome prior (gamma_of t flat mechanisms seed r) order t.schedule)

    -- one leg, recorded and judged
    after_whole : (r : ℕ) (run : Run) → after_leg by_place (few checks mechanisms) r run ≡ after_leg by_place (whole checks mechanisms) r run
    unfolding after_leg recorded posterior_fault
    after_whole r run = rw (executed_whole r run.posterior)

    -- all legs
    decode_whole : decode_legs by_place (few checks mechanisms) ≡ decode_legs by_place (whole checks mechanisms)
    unfolding decode_legs start_run
    decode_whole = legs_agree by_place by_place (few checks mechanisms) (whole checks mechanisms) after_whole (suc t.num_legs) (running (start_run (few checks mechanisms))) 0

    -- and what they leave
    left_whole : (edges stores : ℕ) (l : DecodeLists) (e : Ended) → after_legs edges (few checks mechanisms) e stores l ≡ after_legs edges (whole checks mechanisms) e stores l
    unfolding left_by zeroed
    left_whole edges stores l (decoded run) = refl
    left_whole edges stores l (refused r) = refl

    -- an iteration writes as many messages
    each_whole : stores_each t.schedule (walked checks mechanisms cv co vm vo) ≡ stores_each t.schedule (graph checks mechanisms cv co vc vm vo)
    each_whole = each_same t.schedule mechanisms cv vm vo checks checks co co [] vc

    -- all legs, with what they wrote
    legs_whole : (edges : ℕ) (l : DecodeLists) → legs_leave edges (few checks mechanisms) l ≡ legs_leave edges (whole checks mechanisms) l
    legs_whole edges l =
        ap (λ n. after_legs edges (few checks mechanisms) (decode_legs by_place (few checks mechanisms)) (stores_in n (decode_legs by_place (few checks mechanisms))) l) each_whole
        ∙ ap (λ e. after_legs edges (few checks mechanisms) e (stores_in (stores_each t.schedule (graph checks mechanisms cv co vc vm vo)) e) l) decode_whole
        ∙ left_whole edges _ l (decode_legs by_place (whole checks mechanisms))

    -- and 29 before them
    taken_whole : (edges : ℕ) (l : DecodeLists) → taken_leaves edges (few checks mechanisms) l ≡ taken_leaves edges (whole checks mechanisms) l
    unfolding stores_fault
    taken_whole edges l =
        ap (λ n. after_decode_tests (unless (leb (most_iterations t * n) max_stores) TooManyStores) (legs_leave edges (few checks mechanisms) l) l) each_whole
        ∙ ap (λ o. after_decode_tests (stores_fault t (graph checks mechanisms cv co vc vm vo)) o l) (legs_whole edges l)

  -- what 29 and the legs leave, however the graph is counted
  pub legs_read_four : (edges n checks mechanisms : ℕ) (l : DecodeLists) (o : DecodeOutcome) → n ≡ edges → length syndrome ≡ checks → length prior ≡ mechanisms
      → o ≡ taken_leaves n (shot_of t flat seed syndrome prior cv co vm vo order) l → o ≡ taken_leaves edges (whole checks mechanisms) l
  legs_read_four edges n checks mechanisms l o p q s e =
      let counted : taken_leaves n (few (length syndrome) (length prior)) l ≡ taken_leaves edges (few checks mechanisms) l = rw (p, q, s) in
      e ∙ counted ∙ taken_whole checks mechanisms edges l
