-- `graph_probabilities::build_dense_probabilities` meets its contract. Where no test refuses, the lists fit, which is all that writing and building ask; a refusal leaves them. Assumes nothing.
use mathlib.Core.Path.{◌≡◌, refl, sym, ◌∙◌, ap}
use Prim.Native.Nat.{ℕ}
use native.Mathlib.Omega.{arith}
use lib.ListN.{length}
use Rattle.std.specs.Prelude.{Ok}
use Rattle.std.proofs.Common.{rules}
use Rattle.std.proofs.lemmas.Result.{err_from_is_err_and}
use Rattle.refusals.specs.Tests.{first_of}
use Rattle.probabilities.specs.Calls.{probability_fault}
use Rattle.graph_lists.specs.Graph.{graph}
use Rattle.graph_lists.specs.Model.{graph_fits, dense_fault}
use Rattle.graph_lists.specs.Sound.{Long}
use Rattle.graph_lists.proofs.DenseTests.{DenseTold, dense_told}
use Rattle.graph_tests.specs.declared.Given.TheVariants.{Probabilities}
use Rattle.graph_tests.specs.Numbers.{given_fault}
use Rattle.graph_probabilities.specs.Calls.{made_fits}
use Rattle.graph_probabilities.proofs.Outcomes.{fits_told, dense_done, dense_refused}
use Rattle.graph_probabilities.proofs.build_dense_probabilities.Goals as goal
use Rattle.graph_probabilities.proofs.build_dense_probabilities.Goals.{After-dense_fault, then-room, else-room}

-- what the flag for the tests says: the lists to be written fit
fit : (c : After-dense_fault) → c.if-room.fit ≡ made_fits c.count_edges.result c.args.priors.now
    (graph c.args.checks c.args.mechanisms c.args.check_var.now c.args.check_offset.now c.args.var_check.now c.args.var_message.now c.args.var_offset.now)
unfolding made_fits graph_fits
fit c = elim c.if-room.branch [ then-room w ↦ search rules | else-room w ↦ search rules ]

-- what the tests tell where they refuse nothing
told : (c : After-dense_fault) → Ok tt ≡ dense_fault c.args.checks c.args.mechanisms c.count_edges.result (length c.args.probabilities.now)
    (given_fault Probabilities c.args.probabilities.now) (length c.args.matrix.now) c.if-room.fit
    → DenseTold c.args.checks c.args.mechanisms c.count_edges.result (length c.args.probabilities.now) (probability_fault c.args.probabilities.now) (length c.args.matrix.now) c.if-room.fit
unfolding given_fault
told c e = dense_told _ _ _ _ _ _ _ (sym e)

-- and of the lists to be written
room : (c : After-dense_fault) → Ok tt ≡ dense_fault c.args.checks c.args.mechanisms c.count_edges.result (length c.args.probabilities.now)
    (given_fault Probabilities c.args.probabilities.now) (length c.args.matrix.now) c.if-room.fit
    → (length c.args.priors.now ≡ c.args.mechanisms) × Long c.count_edges.result
    (graph c.args.checks c.args.mechanisms c.args.check_var.now c.args.check_offset.now c.args.var_check.now c.args.var_message.now c.args.var_offset.now)
room c e = fits_told _ _ (graph c.args.checks c.args.mechanisms c.args.check_var.now c.args.check_offset.now c.args.var_check.now c.args.var_message.now c.args.var_offset.now) (sym (fit c) ∙ (told c e).fits)

pub returns-in_err-dense_fault : goal.returns-in_err-dense_fault
unfolding given_fault
returns-in_err-dense_fault c =
    let p = err_from_is_err_and c.from_residual.result c.from_residual.ensures.1 in
    rw (p.1, p.2) (dense_refused _ _ _ _ _ _ (graph c.args.checks c.args.mechanisms c.args.check_var.now c.args.check_offset.now c.args.var_check.now c.args.var_message.now c.args.var_offset.now)
    c.count_edges.ensures (fit (goal.at.returns-in_err-dense_fault c).After-dense_fault) c.in_err-dense_fault.ensures refl)

pub write_priors-requires : goal.write_priors-requires
write_priors-requires c =
    let k = (goal.at.write_priors-requires c).After-dense_fault in
    let t = told k c.in_ok-dense_fault.ensures in
    record {
      priors_len = (room k c.in_ok-dense_fault.ensures).0 ∙ sym t.numbers_many;
      probabilities_value = ap (λ (n : ℕ). first_of n (probability_fault c.args.probabilities.now)) t.numbers_many ∙ t.given_none;
    }

pub from_matrix-requires : goal.from_matrix-requires
from_matrix-requires c =
    let k = (goal.at.from_matrix-requires c).After-dense_fault in
    let t = told k c.in_ok-dense_fault.ensures in
    let f = (room k c.in_ok-dense_fault.ensures).1 in
    record {
      matrix_len = t.bytes_many;
      checks_bound = (omega (arith, t.few.checks_few), omega (arith, t.few.mechanisms_few), omega (arith, c.count_edges.ensures, t.few.edges_few));
      check_var_len = (f.check_var ∙ c.count_edges.ensures, f.check_offset);
      var_check_len = (f.var_check ∙ c.count_edges.ensures, f.var_message ∙ c.count_edges.ensures, f.var_offset);
    }

pub returns : goal.returns
unfolding given_fault
returns c =
    dense_done _ _ _ _ _ _ (graph c.args.checks c.args.mechanisms c.args.check_var.now c.args.check_offset.now c.args.var_check.now c.args.var_message.now c.args.var_offset.now)
    c.count_edges.ensures (fit (goal.at.returns c).After-dense_fault) c.in_ok-dense_fault.ensures _ _ refl c.write_priors.ensures c.from_matrix.ensures
