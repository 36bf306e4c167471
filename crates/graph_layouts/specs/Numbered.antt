-- The graph in the layout that the Rust has, where a check's entry carries its message number beside its variable: six lists, the graph of an incidence in
-- them, their tests 2 and 7, and beliefs, single iteration and decode over them, in which a check's messages are had by the numbers that its entries carry.
-- All else is as over five lists, and not said again. Definitions only. Assumes nothing.
use Rattle.std.specs.Prelude.{ℕ, ◌<◌, ◌≡◌, Bool, ◌&&◌, List, map, eqb, Float, length, get_or, set}
use Rattle.std.specs.Float.{nan}
use Rattle.numbers.specs.Loops.{turns, row, upto}
use Rattle.refusals.specs.Refusal.{Answer}
use Rattle.refusals.specs.Tests.{or_else}
use Rattle.graph_lists.specs.Lists.{has, same_list}
use Rattle.graph_lists.specs.Graph.{Graph, graph, entries, graph_of}
use Rattle.graph_lists.specs.Messages.{Access}
use Rattle.graph_lists.specs.Model.{graph_fits, same_graph, graph_tests}
use Rattle.min_sum.specs.Beliefs.{BeliefsLists, BeliefsOutcome, beliefs_rest, beliefs_by}
use Rattle.relay_settings.specs.declared.Clip.{Clip}
use Rattle.relay_settings.specs.declared.Schedule.{Schedule}
use Rattle.relay_calls.specs.Decode.{Shot, shot}
use Rattle.relay_calls.specs.Calls.{StepLists, StepOutcome, step_rest, iteration_by, DecodeLists, DecodeOutcome, decode_rest, decode_by, with_order}

-- `BpGraph`: `check_data`, pairs of a variable and a message, and `var_data`, pairs of a check and a message, each as two lists, with their offsets
pub record Numbered : Type 0 where
  pub checks : ℕ
  pub mechanisms : ℕ
  pub check_var : List ℕ
  pub check_message : List ℕ
  pub check_offset : List ℕ
  pub var_check : List ℕ
  pub var_message : List ℕ
  pub var_offset : List ℕ

-- ---- one layout from the other

-- five lists, and these numbers for the check entries
abbrev pub numbered : Graph → List ℕ → Numbered
numbered g numbers =
    record {
      checks = g.checks;
      mechanisms = g.mechanisms;
      check_var = g.check_var;
      check_message = numbers;
      check_offset = g.check_offset;
      var_check = g.var_check;
      var_message = g.var_message;
      var_offset = g.var_offset;
    }

-- to six lists: each check entry gets its own place for its number
abbrev pub with_numbers : Graph → Numbered
with_numbers g = numbered g (upto (length g.check_var))

-- to five: the numbers are left out
abbrev pub without_numbers : Numbered → Graph
without_numbers o = graph o.checks o.mechanisms o.check_var o.check_offset o.var_check o.var_message o.var_offset

-- ---- incidences

-- `from_connections`: the graph of an incidence, its check entries numbered from 0 as they come
unfoldable pub numbered_graph_of : ℕ → ℕ → (ℕ → ℕ → Bool) → Numbered
numbered_graph_of checks mechanisms inc = numbered (graph_of checks mechanisms inc) (upto (length (entries checks mechanisms inc)))

-- a graph's own check lists: m is among the variables of c
unfoldable pub numbered_incidence : Numbered → ℕ → ℕ → Bool
numbered_incidence o c m = has (row o.check_offset c o.check_var) m

-- ---- tests 2 and 7

-- 2: the six lists have the lengths of a graph with this many edges
unfoldable pub numbered_fits : ℕ → Numbered → Bool
numbered_fits edges o = graph_fits edges (without_numbers o) && eqb (length o.check_message) edges

-- the six lists are the same
unfoldable pub same_numbered : Numbered → Numbered → Bool
same_numbered o p = same_graph (without_numbers o) (without_numbers p) && same_list o.check_message p.check_message

-- 7: the lists are those of the graph of the incidences that they themselves tell
unfoldable pub is_numbered : Numbered → Bool
is_numbered o = same_numbered o (numbered_graph_of o.checks o.mechanisms (numbered_incidence o))

-- the tests of lent lists and their priors: 1, 2, 4 and 7
unfoldable pub numbered_fault : ℕ → List Float → Numbered → Answer
numbered_fault edges priors o = graph_tests o.checks o.mechanisms edges priors (numbered_fits edges o) (is_numbered o)

-- ---- how a check's messages are had

-- each of `new` written over `all` at its number, one after the other
unfoldable pub written_at : List ℕ → List Float → List Float → List Float
written_at numbers all new = turns (length numbers) (λ i l. set l (get_or numbers i 0) (get_or new i nan)) all

-- by number, as `update_check` and `min_sum_bp_into` do it: a message is read, and written, at the number that its entry carries
abbrev pub by_number : List ℕ → Access
by_number numbers =
    record {
      messages_of = λ g c all. map (λ (m : ℕ). get_or all m nan) (row g.check_offset c numbers);
      with_messages = λ g c all new. written_at (row g.check_offset c numbers) all new;
    }

-- ---- the calls, over six lists

-- `beliefs`
unfoldable pub numbered_beliefs : ℕ → List Float → Numbered → List ℕ → ℕ → Float → Bool → BeliefsLists → BeliefsOutcome
numbered_beliefs edges priors o syndrome iterations scale serial l =
    let g = without_numbers o in
    let tested = or_else (numbered_fault edges priors o) (beliefs_rest edges g syndrome iterations l) in
    beliefs_by (by_number o.check_message) tested edges priors g syndrome iterations scale serial l

-- `iteration`
unfoldable pub numbered_iteration : ℕ → List Float → Numbered → Schedule → Float → Clip → List Float → List ℕ → List ℕ → StepLists → StepOutcome
numbered_iteration edges prior o schedule alpha clip gamma syndrome order l =
    let g = without_numbers o in
    let tested = or_else (numbered_fault edges prior o) (step_rest edges g alpha clip gamma syndrome order l) in
    iteration_by (by_number o.check_message) tested edges prior g schedule alpha clip gamma syndrome order l

-- the shot x over other lists
abbrev pub with_graph : Shot → Graph → Shot
with_graph x g = shot g x.prior x.settings x.gammas x.order x.syndrome x.seed

-- `decode_in_order`: the shot x over six lists, whatever graph it has
unfoldable pub numbered_decode_in_order : ℕ → Numbered → Shot → DecodeLists → DecodeOutcome
numbered_decode_in_order edges o x l =
    let y = with_graph x (without_numbers o) in
    decode_by (by_number o.check_message) (or_else (numbered_fault edges x.prior o) (decode_rest edges y l)) edges y l

-- `decode`: the checks in index order
unfoldable pub numbered_decode : ℕ → Numbered → Shot → DecodeLists → DecodeOutcome
numbered_decode edges o x l = numbered_decode_in_order edges o (with_order x (upto o.checks)) l

-- ---- what the theorems name

-- a number for each check entry, and each its own place
pub record OwnPlaces (o : Numbered) : Type 0 where
  pub many : length o.check_message ≡ length o.check_var
  pub own : (i : ℕ) → i < length o.check_var → get_or o.check_message i 0 ≡ i
