-- The public call: what its tests tell where none refuses, that a run reads four of the five graph lists, and what the call leaves. Assumes nothing.
use mathlib.Core.Path.{◌≡◌, refl, sym, ap, ◌∙◌}
use mathlib.Core.Bool.{Bool, true, false, true≢false, false≢true}
use mathlib.Core.List.{List}
use Prim.Native.Nat.{ℕ}
use lib.Ieee.{Float}
use lib.ListN.{length, replicate}
use borrow.Author.Tests.{eqb-true}
use Rattle.numbers.proofs.Cases.{and_both}
use Rattle.numbers.specs.Floats.{zero⁺}
use Rattle.refusals.proofs.Tests.{or_done, unless_done}
use Rattle.refusals.specs.declared.Refusal.{Refusal}
use Rattle.refusals.specs.Refusal.{Answer}
use Rattle.std.specs.Prelude.{Ok, Err}
use Rattle.std.specs.Result.{is_err}
use Rattle.refusals.specs.Tests.{first_of, unless_refused}
use Rattle.graph_lists.specs.Graph.{Graph, graph}
use Rattle.graph_lists.specs.Messages.{by_place, cleared, from_variables, value_fault, posterior_fault}
use Rattle.graph_lists.proofs.GraphTests.{graph_told}
use Rattle.graph_messages.specs.Needs.{Walks, walked}
use Rattle.graph_messages.proofs.Parts.{walks_both}
use Rattle.graph_messages.proofs.Walks.{graph_walks}
use Rattle.min_sum_pass.specs.MinSum.{skipped, update_check, raw_posterior, update_variable, parallel_check, checks_to, variables_to, parallel_iteration, serial_check, serial_to, serial_iteration, averaged_to, averaged, start_round, iterated, iterated_in, outer_round_to, outer_round, all_rounds, chosen_to, min_sum_bp}
use Rattle.min_sum.specs.Beliefs.{BeliefsLists, beliefs_lists, BeliefsOutcome, beliefs_outcome, beliefs_lists_fit, beliefs_fault, ran, beliefs}

-- ---- what a run leaves

-- a list that is kept where nothing is refused
kept : (a : Answer) (xs zeros : List Float) → is_err a ≡ false → xs ≡ unless_refused a xs zeros
unfolding unless_refused
kept (Ok _) xs zeros h = refl
kept (Err r) xs zeros h = absurd (true≢false h)

-- and zeroed where something is
zeroed : (a : Answer) (xs zeros : List Float) → is_err a ≡ true → zeros ≡ unless_refused a xs zeros
unfolding unless_refused
zeroed (Ok _) xs zeros h = absurd (false≢true h)
zeroed (Err r) xs zeros h = refl

module _ (edges : ℕ) (g : Graph) (m out w c v : List Float) (a : Answer) (run : out ≡ m) (first : a ≡ first_of (length out) (value_fault out))
    (many : length out ≡ g.mechanisms) (ws : w ≡ replicate g.mechanisms zero⁺) (cs : c ≡ replicate edges zero⁺) (vs : v ≡ replicate edges zero⁺) where
  -- a posterior that is as the definition has it
  left : (p : List Float) → p ≡ unless_refused a out (replicate g.mechanisms zero⁺) → beliefs_outcome a (beliefs_lists p w c v) ≡ ran edges g m
  unfolding ran posterior_fault
  left p e =
      let q : a ≡ first_of g.mechanisms (value_fault out) = first ∙ ap (λ n. first_of n (value_fault out)) many in
      rw (e, ws, cs, vs, q, run)

  -- nothing is refused: the posterior stays
  pub ran_passed : is_err a ≡ false → beliefs_outcome a (beliefs_lists out w c v) ≡ ran edges g m
  ran_passed h = left out (kept a out (replicate g.mechanisms zero⁺) h)

  -- 30: it is zeroed
  pub ran_refused : (p : List Float) → is_err a ≡ true → p ≡ replicate (length out) zero⁺ → beliefs_outcome a (beliefs_lists p w c v) ≡ ran edges g m
  ran_refused p h e = left p (e ∙ ap (λ n. replicate n zero⁺) many ∙ zeroed a out (replicate g.mechanisms zero⁺) h)

-- ---- a run reads four of the five lists

module _ (checks mechanisms : ℕ) (cv co vc vm vo : List ℕ) (scale : Float) (syndrome : List ℕ) (priors : List Float) (n : ℕ) where
  -- the beliefs of the whole graph are those of the four
  same_run : (serial : Bool)
      → min_sum_bp by_place (walked checks mechanisms cv co vm vo) serial scale syndrome priors n ≡ min_sum_bp by_place (graph checks mechanisms cv co vc vm vo) serial scale syndrome priors n
  unfolding min_sum_bp chosen_to all_rounds outer_round outer_round_to start_round cleared from_variables iterated_in iterated averaged averaged_to raw_posterior update_variable update_check skipped parallel_check checks_to variables_to parallel_iteration serial_check serial_to serial_iteration
  same_run true = refl
  same_run false = refl

  -- and so is all that a run leaves
  same_ran : (edges : ℕ) (serial : Bool)
      → ran edges (walked checks mechanisms cv co vm vo) (min_sum_bp by_place (walked checks mechanisms cv co vm vo) serial scale syndrome priors n)
      ≡ ran edges (graph checks mechanisms cv co vc vm vo) (min_sum_bp by_place (graph checks mechanisms cv co vc vm vo) serial scale syndrome priors n)
  unfolding ran posterior_fault
  same_ran edges serial = rw (same_run serial)

-- ---- the call

-- what a run leaves, however checks, mechanisms and edges are counted
ran_counted : (edges edges' checks checks' mechanisms mechanisms' : ℕ) (cv co vm vo : List ℕ) (scale : Float) (syndrome : List ℕ) (priors : List Float) (n : ℕ) (serial : Bool)
    → edges ≡ edges' → checks ≡ checks' → mechanisms ≡ mechanisms'
    → ran edges (walked checks mechanisms cv co vm vo) (min_sum_bp by_place (walked checks mechanisms cv co vm vo) serial scale syndrome priors n)
    ≡ ran edges' (walked checks' mechanisms' cv co vm vo) (min_sum_bp by_place (walked checks' mechanisms' cv co vm vo) serial scale syndrome priors n)
ran_counted edges edges' checks checks' mechanisms mechanisms' cv co vm vo scale syndrome priors n serial p q r = rw (p, q, r)

-- what the tests tell where none refuses
pub record Told (edges checks mechanisms : ℕ) (cv co vm vo : List ℕ) (priors : List Float) (syndrome : List ℕ) (l : BeliefsLists) : Type 0 where
  pub edges_many : length cv ≡ edges
  pub checks_many : length syndrome ≡ checks
  pub mechanisms_many : length priors ≡ mechanisms
  pub check_walks : Walks (length syndrome) (length priors) cv co
  pub var_walks : Walks (length priors) (length cv) vm vo
  pub posterior_many : length l.posterior ≡ length priors
  pub ewa_many : length l.ewa_posterior ≡ length priors
  pub c_many : length l.c_to_v ≡ length cv
  pub v_many : length l.v_to_c ≡ length cv

module _ (edges checks mechanisms : ℕ) (cv co vc vm vo : List ℕ) (priors : List Float) (syndrome : List ℕ) (iterations : ℕ) (l : BeliefsLists) where
  -- where none refuses, they tell all that the run asks
  pub told : Ok tt ≡ beliefs_fault edges priors (graph checks mechanisms cv co vc vm vo) syndrome iterations l → Told edges checks mechanisms cv co vm vo priors syndrome l
  unfolding beliefs_fault beliefs_lists_fit
  told e =
      let t1 = or_done _ _ (sym e) in
      let t2 = or_done _ _ t1.1 in
      let t3 = or_done _ _ t2.1 in
      let g = graph_told edges priors (graph checks mechanisms cv co vc vm vo) t1.0 in
      let many = eqb-true (length syndrome) checks (unless_done _ _ t3.0) in
      let f1 = and_both _ _ (unless_done _ _ t3.1) in
      let f2 = and_both _ _ f1.1 in
      let f3 = and_both _ _ f2.1 in
      let w = graph_walks (graph checks mechanisms cv co vc vm vo) g.is_graph_lem in
      record {
        edges_many = g.long.check_var;
        checks_many = many;
        mechanisms_many = g.priors_many;
        check_walks = walks_both _ _ _ _ _ _ (sym many) (sym g.priors_many) w.0;
        var_walks = walks_both _ _ _ _ _ _ (sym g.priors_many) refl w.1;
        posterior_many = eqb-true _ _ f1.0 ∙ sym g.priors_many;
        ewa_many = eqb-true _ _ f2.0 ∙ sym g.priors_many;
        c_many = eqb-true _ _ f3.0 ∙ sym g.long.check_var;
        v_many = eqb-true _ _ f3.1 ∙ sym g.long.check_var;
      }

  module _ (scale : Float) (serial : Bool) where
    -- a call that is refused
    pub beliefs_refused : (r : Refusal) → Err r ≡ beliefs_fault edges priors (graph checks mechanisms cv co vc vm vo) syndrome iterations l
        → beliefs_outcome (Err r) l ≡ beliefs edges priors (graph checks mechanisms cv co vc vm vo) syndrome iterations scale serial l
    unfolding beliefs
    beliefs_refused r e = rw (← e)

    -- one that is not
    pub beliefs_ran : (o : BeliefsOutcome) → Ok tt ≡ beliefs_fault edges priors (graph checks mechanisms cv co vc vm vo) syndrome iterations l
        → o ≡ ran (length cv) (walked (length syndrome) (length priors) cv co vm vo) (min_sum_bp by_place (walked (length syndrome) (length priors) cv co vm vo) serial scale syndrome priors iterations)
        → o ≡ beliefs edges priors (graph checks mechanisms cv co vc vm vo) syndrome iterations scale serial l
    unfolding beliefs
    beliefs_ran o e q =
        let t = told e in
        rw (← e)
        (q
        ∙ ran_counted _ _ _ _ _ _ cv co vm vo scale syndrome priors iterations serial t.edges_many t.checks_many t.mechanisms_many
        ∙ same_ran checks mechanisms cv co vc vm vo scale syndrome priors iterations edges serial)
