-- `graph::check_graph` meets its contract. Each answer is the definition at what the tests before it said. Assumes nothing.
use mathlib.Core.Bool.{true, ◌&&◌}
use mathlib.Core.Path.{◌≡◌, refl, sym, ap, ◌∙◌}
use Prim.Native.Nat.{ℕ}
use lib.Dec.{eqb}
use lib.ListN.{length}
use Rattle.std.proofs.Common.{rules, eq-eqb}
use Rattle.std.proofs.lemmas.Result.{err_from_is_err_and}
use Rattle.refusals.specs.Tests.{first_of}
use Rattle.refusals.specs.Refusal.{Answer}
use Rattle.graph_lists.specs.Graph.{graph}
use Rattle.graph_lists.specs.Model.{graph_fits, prior_fault}
use Rattle.graph_lists.proofs.GraphTests.{fault_1, fault_2, fault_4, fault_7, fault_none}
use Rattle.graph_tests.specs.declared.Given.TheVariants.{Priors}
use Rattle.graph_tests.specs.Numbers.{given_fault}
use Rattle.graph.proofs.check_graph.Goals as goal
use Rattle.graph.proofs.check_graph.Goals.{Else-not-fit, then-priors-size-via-then-priors-size, then-priors-size-via-else-priors-size+then-not-fit}

-- all lengths fit
fits : (c : Else-not-fit) → (eqb (length c.args.priors.now) c.args.size.mechanisms && graph_fits c.args.size.edges
    (graph c.args.size.checks c.args.size.mechanisms c.args.check_var.now c.args.check_offset.now c.args.var_check.now c.args.var_message.now c.args.var_offset.now)) ≡ true
unfolding graph_fits
fits c = rw (eq-eqb (length c.args.priors.now) c.args.size.mechanisms c.if-priors-size.false) (sym c.lists_fit-fit.ensures ∙ c.if-not-fit.false)

-- there are as many priors as mechanisms
priors : (c : Else-not-fit) {a : Answer} → a ≡ first_of (length c.args.priors.now) (given_fault Priors c.args.priors.now)
    → a ≡ first_of c.args.size.mechanisms (prior_fault c.args.priors.now)
unfolding given_fault
priors c e = e ∙ ap (λ (n : ℕ). first_of n (prior_fault c.args.priors.now)) c.if-priors-size.false

pub returns-then-not-sizes_good : goal.returns-then-not-sizes_good
returns-then-not-sizes_good c = fault_1 _ _ (graph c.args.size.checks c.args.size.mechanisms c.args.check_var.now c.args.check_offset.now c.args.var_check.now c.args.var_message.now c.args.var_offset.now) (sym c.if-not-sizes_good.ensures)

pub returns-then-priors-size : goal.returns-then-priors-size
unfolding graph_fits
returns-then-priors-size c = fault_2 _ _ (graph c.args.size.checks c.args.size.mechanisms c.args.check_var.now c.args.check_offset.now c.args.var_check.now c.args.var_message.now c.args.var_offset.now)
    (sym c.if-not-sizes_good.ensures) (elim c.then-priors-size.branch [
      | then-priors-size-via-then-priors-size w ↦ search rules
      | then-priors-size-via-else-priors-size+then-not-fit w ↦ search rules
    ])

pub returns-in_err-numbers_fault : goal.returns-in_err-numbers_fault
returns-in_err-numbers_fault c =
    let p = err_from_is_err_and c.from_residual.result c.from_residual.ensures.1 in
    let k = (goal.at.returns-in_err-numbers_fault c).Else-not-fit in
    rw (p.1, p.2) (fault_4 _ _ (graph c.args.size.checks c.args.size.mechanisms c.args.check_var.now c.args.check_offset.now c.args.var_check.now c.args.var_message.now c.args.var_offset.now)
    _ (sym c.if-not-sizes_good.ensures) (fits k) (priors k c.in_err-numbers_fault.ensures) refl)

pub returns-then-not-is_graph : goal.returns-then-not-is_graph
returns-then-not-is_graph c =
    let k = (goal.at.returns-then-not-is_graph c).Else-not-fit in
    fault_7 _ _ (graph c.args.size.checks c.args.size.mechanisms c.args.check_var.now c.args.check_offset.now c.args.var_check.now c.args.var_message.now c.args.var_offset.now)
    _ (sym c.if-not-sizes_good.ensures) (fits k) (priors k c.in_ok-numbers_fault.ensures) refl (sym c.if-not-is_graph.ensures)

pub returns : goal.returns
returns c =
    let k = (goal.at.returns c).Else-not-fit in
    fault_none _ _ (graph c.args.size.checks c.args.size.mechanisms c.args.check_var.now c.args.check_offset.now c.args.var_check.now c.args.var_message.now c.args.var_offset.now)
    _ (sym c.if-not-sizes_good.ensures) (fits k) (priors k c.in_ok-numbers_fault.ensures) refl (sym c.if-not-is_graph.ensures)
