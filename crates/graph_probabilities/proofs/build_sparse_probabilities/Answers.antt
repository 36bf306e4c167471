-- `graph_probabilities::build_sparse_probabilities` meets its contract. Where no test refuses, the model is valid and the lists fit, which is all that writing and building ask; a refusal leaves them. Assumes nothing.
use mathlib.Core.Path.{◌≡◌, refl, sym, ◌∙◌, ap}
use Prim.Native.Nat.{ℕ}
use native.Mathlib.Omega.{arith}
use lib.ListN.{length}
use Rattle.std.specs.Prelude.{Ok}
use Rattle.std.proofs.Common.{rules}
use Rattle.std.proofs.lemmas.Result.{err_from_is_err_and}
use Rattle.refusals.specs.Tests.{first_of}
use Rattle.probabilities.specs.Calls.{probability_fault}
use Rattle.graph_lists.specs.Graph.{graph}
use Rattle.graph_lists.specs.Model.{graph_fits, sparse_fault}
use Rattle.graph_lists.specs.Sound.{Long}
use Rattle.graph_lists.proofs.SparseTests.{Told, sparse_told}
use Rattle.graph_tests.specs.declared.Given.TheVariants.{Probabilities}
use Rattle.graph_tests.specs.Numbers.{given_fault}
use Rattle.graph_probabilities.specs.Calls.{made_fits}
use Rattle.graph_probabilities.proofs.Outcomes.{fits_told, sparse_done, sparse_refused}
use Rattle.graph_probabilities.proofs.build_sparse_probabilities.Goals as goal
use Rattle.graph_probabilities.proofs.build_sparse_probabilities.Goals.{After-sparse_fault, then-room, else-room}

-- what the flag for the tests says: the lists to be written fit
fit : (c : After-sparse_fault) → c.if-room.fit ≡ made_fits c.args.size.edges c.args.priors.now
    (graph c.args.size.checks c.args.size.mechanisms c.args.check_var.now c.args.check_offset.now c.args.var_check.now c.args.var_message.now c.args.var_offset.now)
unfolding made_fits graph_fits
fit c = elim c.if-room.branch [ then-room w ↦ search rules | else-room w ↦ search rules ]

-- what the tests tell where they refuse nothing
told : (c : After-sparse_fault) → Ok tt ≡ sparse_fault c.args.size.checks c.args.size.mechanisms c.args.size.edges (length c.args.probabilities.now)
    (given_fault Probabilities c.args.probabilities.now) c.args.detector_offsets.now c.args.detectors.now c.if-room.fit
    → Told c.args.size.checks c.args.size.mechanisms c.args.size.edges (length c.args.probabilities.now) (probability_fault c.args.probabilities.now) c.args.detector_offsets.now c.args.detectors.now c.if-room.fit
unfolding given_fault
told c e = sparse_told _ _ _ _ _ _ _ _ (sym e)

-- and of the lists to be written
room : (c : After-sparse_fault) → Ok tt ≡ sparse_fault c.args.size.checks c.args.size.mechanisms c.args.size.edges (length c.args.probabilities.now)
    (given_fault Probabilities c.args.probabilities.now) c.args.detector_offsets.now c.args.detectors.now c.if-room.fit
    → (length c.args.priors.now ≡ c.args.size.mechanisms) × Long c.args.size.edges
    (graph c.args.size.checks c.args.size.mechanisms c.args.check_var.now c.args.check_offset.now c.args.var_check.now c.args.var_message.now c.args.var_offset.now)
room c e = fits_told _ _ (graph c.args.size.checks c.args.size.mechanisms c.args.check_var.now c.args.check_offset.now c.args.var_check.now c.args.var_message.now c.args.var_offset.now) (sym (fit c) ∙ (told c e).lengths.fits)

pub returns-in_err-sparse_fault : goal.returns-in_err-sparse_fault
unfolding given_fault
returns-in_err-sparse_fault c =
    let p = err_from_is_err_and c.from_residual.result c.from_residual.ensures.1 in
    rw (p.1, p.2) (sparse_refused _ _ _ _ _ _ _ (graph c.args.size.checks c.args.size.mechanisms c.args.check_var.now c.args.check_offset.now c.args.var_check.now c.args.var_message.now c.args.var_offset.now)
    (fit (goal.at.returns-in_err-sparse_fault c).After-sparse_fault) c.in_err-sparse_fault.ensures refl)

pub write_priors-requires : goal.write_priors-requires
write_priors-requires c =
    let k = (goal.at.write_priors-requires c).After-sparse_fault in
    let t = told k c.in_ok-sparse_fault.ensures in
    record {
      priors_len = (room k c.in_ok-sparse_fault.ensures).0 ∙ sym t.lengths.numbers_many;
      probabilities_value = ap (λ (n : ℕ). first_of n (probability_fault c.args.probabilities.now)) t.lengths.numbers_many ∙ t.given_none;
    }

pub from_detectors-requires : goal.from_detectors-requires
from_detectors-requires c =
    let k = (goal.at.from_detectors-requires c).After-sparse_fault in
    let t = told k c.in_ok-sparse_fault.ensures in
    let f = (room k c.in_ok-sparse_fault.ensures).1 in
    let d = t.lengths.dets_many in
    record {
      valid = t.valid;
      checks_bound = (omega (arith, t.few.checks_few), omega (arith, t.few.mechanisms_few), omega (arith, d, t.few.edges_few));
      check_var_len = (f.check_var ∙ sym d, f.check_offset);
      var_check_len = (f.var_check ∙ sym d, f.var_message ∙ sym d, f.var_offset);
    }

pub returns : goal.returns
unfolding given_fault
returns c =
    sparse_done _ _ _ _ _ _ _ (graph c.args.size.checks c.args.size.mechanisms c.args.check_var.now c.args.check_offset.now c.args.var_check.now c.args.var_message.now c.args.var_offset.now)
    (fit (goal.at.returns c).After-sparse_fault) c.in_ok-sparse_fault.ensures _ _ refl c.write_priors.ensures c.from_detectors.ensures
