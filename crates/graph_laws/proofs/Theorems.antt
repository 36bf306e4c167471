-- What a reader may rely on of test 7, as one theorem. Assumes nothing.
use Prim.Native.Nat.{ℕ, ◌≤◌}
use mathlib.Core.Path.{◌≡◌, refl, ap, ◌∙◌, sym}
use mathlib.Core.Bool.{true}
use mathlib.Core.List.{List}
use mathlib.Core.Logic.{◌↔◌}
use lib.Ieee.{Float}
use lib.ListN.{length}
use Rattle.std.specs.Prelude.{Ok}
use Rattle.graph_lists.specs.Graph.{Graph, own_incidence}
use Rattle.graph_lists.specs.Model.{graph_fits, is_graph, BuildOutcome, build_outcome, build_sparse}
use Rattle.graph_lists.proofs.SparseTests.{long_fits}
use Rattle.graph_lists.proofs.QuickTests.{all_long}
use Rattle.graph_lists.proofs.Sameness.{is_graph_told}
use Rattle.graph.proofs.Theorems.{passes_built, sparse_passes, zeroes}

-- some model builds these lists: its edges, priors, detector offsets and detectors, and the lists that were lent. `build_sparse` accepts it, so it is within
-- the limits
pub record Builds (g : Graph) : Type 0 where
  pub edges : ℕ
  pub priors : List Float
  pub offsets : List ℕ
  pub detectors : List ℕ
  pub lent : Graph
  pub built : build_sparse edges priors offsets detectors lent ≡ build_outcome (Ok tt) g

-- "7: graph lists that no model within the limits builds": within the limits of 1, lists pass 7 exactly when some model builds them
pub seven_is_built : (g : Graph) → g.checks ≤ 65536 → g.mechanisms ≤ 65536 → length g.check_var ≤ 1048576 → (is_graph g ≡ true) ↔ Builds g
seven_is_built g hc hm he = (λ h. some h, λ b. passes b)
  where
    fits : is_graph g ≡ true → graph_fits (length g.check_var) g ≡ true
    fits h = long_fits (length g.check_var) g (all_long g.checks g.mechanisms (length g.check_var) g (own_incidence g) refl (is_graph_told g h))

    some : is_graph g ≡ true → Builds g
    some h =
        record {
          edges = length g.check_var;
          priors = zeroes g.mechanisms;
          offsets = g.var_offset;
          detectors = g.var_check;
          lent = g;
          built = passes_built g g h refl refl hc hm he (fits h);
        }

    passes : Builds g → is_graph g ≡ true
    passes b =
        let e = b.built in
        ap (λ (o : BuildOutcome). is_graph o.lists) (sym e)
        ∙ sparse_passes b.edges b.priors b.offsets b.detectors b.lent (ap (λ (o : BuildOutcome). o.answer) e)
