-- `relay_calls::tests::all_finite` meets its contract. Each element is finite.
-- Assumes nothing.
use Rattle.std.specs.Prelude.{◌↔◌, IsTrue, EachIndex, slice_index_or, length}
use Rattle.std.specs.Float.{nan}
use Rattle.std.proofs.Common.{rules}
use Rattle.numbers.specs.Floats.{is_finite}
use Rattle.relay_calls.specs.Calls.{finite_at, all_finite}
use Rattle.relay_calls.proofs.Every.{every_iff}
use Rattle.relay_calls.proofs.tests.all_finite.Goals as goal

pub returns : goal.returns
unfolding all_finite finite_at
returns c =
    let each : IsTrue c.all.result ↔ EachIndex c.args.xs.now (λ k. IsTrue (is_finite (slice_index_or c.args.xs.now k nan))) = search rules in
    every_iff (length c.args.xs.now) (finite_at c.args.xs.now) c.all.result each
