-- `graph_tests::sparse_fault` meets its contract. Each answer is the definition at what the tests before it said. Assumes nothing.
use mathlib.Core.Bool.{Bool, true, ◌&&◌}
use mathlib.Core.Path.{◌≡◌, sym, ap, ◌∙◌}
use lib.ListN.{length}
use Rattle.graph_lists.specs.Model.{sparse_fits}
use Rattle.graph_lists.proofs.ModelTests.{offsets_told}
use Rattle.graph_lists.proofs.SparseTests.{sparse_1, sparse_2, sparse_3, sparse_4, lengths_told}
use Rattle.graph_tests.specs.Numbers.{given_fault}
use Rattle.graph_tests.proofs.sparse_fault.Goals as goal
use Rattle.graph_tests.proofs.sparse_fault.Goals.{Else-not-fit, then-not-model_fits-via-then-not-model_fits, then-not-model_fits-via-else-not-model_fits+then-not-fit}

-- all lengths fit
fit : (c : Else-not-fit) → (sparse_fits c.args.s.mechanisms c.args.s.edges (length c.args.numbers.now) (length c.args.off.now) (length c.args.dets.now) && c.args.fit) ≡ true
fit c = ap (λ (b : Bool). b && c.args.fit) (sym c.if-not-model_fits.ensures) ∙ c.if-not-fit.false

pub returns-then-not-sizes_good : goal.returns-then-not-sizes_good
returns-then-not-sizes_good c = sparse_1 _ _ _ _ _ _ _ _ (sym c.if-not-sizes_good.ensures)

pub returns-then-not-model_fits : goal.returns-then-not-model_fits
returns-then-not-model_fits c = sparse_2 _ _ _ _ _ _ _ _ (sym c.if-not-sizes_good.ensures) (elim c.then-not-model_fits.branch [
  | then-not-model_fits-via-then-not-model_fits w ↦ ap (λ (b : Bool). b && c.args.fit) (sym w.if-not-model_fits.ensures)
  | then-not-model_fits-via-else-not-model_fits+then-not-fit w ↦ ap (λ (b : Bool). b && c.args.fit) (sym w.if-not-model_fits.ensures) ∙ w.if-not-fit.true
])

pub returns-then-not-offsets_good : goal.returns-then-not-offsets_good
returns-then-not-offsets_good c =
    sparse_3 _ _ _ _ _ _ _ _ (sym c.if-not-sizes_good.ensures) (fit (goal.at.returns-then-not-offsets_good c).Else-not-fit) (sym c.if-not-offsets_good.ensures)

pub mechanisms_fault-requires-clause-offsets : goal.mechanisms_fault-requires-clause-offsets
mechanisms_fault-requires-clause-offsets c =
    let l = lengths_told c.args.s.checks c.args.s.mechanisms c.args.s.edges (length c.args.numbers.now) (given_fault c.args.given c.args.numbers.now) c.args.off.now
    c.args.dets.now c.args.fit (fit (goal.at.mechanisms_fault-requires-clause-offsets c).Else-not-fit) in
    offsets_told _ _ _ l.off_many (sym c.if-not-offsets_good.ensures)

pub returns : goal.returns
returns c =
    sparse_4 _ _ _ _ _ _ _ _ _ (sym c.if-not-sizes_good.ensures) (fit (goal.at.returns c).Else-not-fit) (sym c.if-not-offsets_good.ensures) c.mechanisms_fault.ensures
