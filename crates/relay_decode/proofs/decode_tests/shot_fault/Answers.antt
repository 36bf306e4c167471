-- `relay_decode::decode_tests::shot_fault` meets its contract. Each test is the definition's, and so is their order; those passed say that what is reckoned next fits.
-- Assumes nothing.
use mathlib.Core.Path.{◌≡◌, sym, ◌∙◌}
use mathlib.Core.List.{[]}
use Rattle.std.proofs.lemmas.Result.{err_from_is_err_and}
use Rattle.graph_lists.specs.Graph.{graph}
use Rattle.refusals.specs.Tests.{or_else}
use Rattle.relay_settings.specs.Settings.{settings_fault}
use Rattle.relay_settings.proofs.Sizes.{size_passed}
use Rattle.relay_record.specs.Kept.{shot_fault}
use Rattle.relay_decode.proofs.WholeGraph.{whole}
use Rattle.relay_decode.proofs.Faults.{mechanisms_few, legs_few, lists_refused, lists_passed}
use Rattle.relay_decode.proofs.decode_tests.shot_fault.Goals as goal
use Rattle.relay_decode.proofs.decode_tests.shot_fault.Goals.{After-check_settings, then-not-records-via-then-not-records, then-not-records-via-else-not-records+then-not-work}

-- the graph's test has passed, so that the settings' is 9 to 19
settled : (c : After-check_settings) → c.check_settings.result ≡ settings_fault
    c.args.t c.args.size.mechanisms
    c.args.gammas.now
settled c =
    c.check_settings.ensures
    ∙ size_passed _ _ _
    (mechanisms_few c.args.size.edges c.args.priors.now (graph
    c.args.size.checks c.args.size.mechanisms c.args.check_var.now
    c.args.check_offset.now c.args.var_check.now c.args.var_message.now c.args.var_offset.now)
    c.in_ok-check_graph.ensures)

pub returns-in_err-check_graph : goal.returns-in_err-check_graph
unfolding shot_fault or_else
returns-in_err-check_graph c =
    let p = err_from_is_err_and c.from_residual.result c.from_residual.ensures.1 in
    rw (p.1, p.2, ← c.in_err-check_graph.ensures)

pub returns-in_err-check_settings : goal.returns-in_err-check_settings
unfolding shot_fault or_else
returns-in_err-check_settings c =
    let p = err_from_is_err_and c.from_residual-in_err-check_settings.result c.from_residual-in_err-check_settings.ensures.1 in
    rw (p.1, p.2, ← c.in_ok-check_graph.ensures, ← (sym c.in_err-check_settings.was ∙ settled (goal.at.returns-in_err-check_settings c).After-check_settings))

pub returns-in_err-syndrome_fault : goal.returns-in_err-syndrome_fault
unfolding shot_fault or_else
returns-in_err-syndrome_fault c =
    let p = err_from_is_err_and c.from_residual-in_err-syndrome_fault.result c.from_residual-in_err-syndrome_fault.ensures.1 in
    rw (p.1, p.2, ← c.in_ok-check_graph.ensures, ← (sym c.in_ok-check_settings.was ∙ settled (goal.at.returns-in_err-syndrome_fault c).After-check_settings), ← c.in_err-syndrome_fault.ensures)

pub returns-in_err-seed_fault : goal.returns-in_err-seed_fault
unfolding shot_fault or_else
returns-in_err-seed_fault c =
    let p = err_from_is_err_and c.from_residual-in_err-seed_fault.result c.from_residual-in_err-seed_fault.ensures.1 in
    rw (p.1, p.2, ← c.in_ok-check_graph.ensures, ← (sym c.in_ok-check_settings.was ∙ settled (goal.at.returns-in_err-seed_fault c).After-check_settings), ← c.in_ok-syndrome_fault.ensures, ← c.in_err-seed_fault.ensures)

pub legs_fit-records-requires : goal.legs_fit-records-requires
legs_fit-records-requires c = (
  legs_few c.args.t c.args.size.mechanisms c.args.gammas.now
      (sym c.in_ok-check_settings.was ∙ settled (goal.at.legs_fit-records-requires c).After-check_settings),
  mechanisms_few c.args.size.edges c.args.priors.now (graph
      c.args.size.checks c.args.size.mechanisms c.args.check_var.now
      c.args.check_offset.now c.args.var_check.now c.args.var_message.now c.args.var_offset.now) c.in_ok-check_graph.ensures,
)

pub returns-then-not-records : goal.returns-then-not-records
unfolding shot_fault or_else
returns-then-not-records c =
    rw (
      ← c.in_ok-check_graph.ensures,
      ← (sym c.in_ok-check_settings.was ∙ settled (goal.at.returns-then-not-records c).After-check_settings),
      ← c.in_ok-syndrome_fault.ensures,
      ← c.in_ok-seed_fault.ensures,
    )
    (lists_refused c.args.size.edges (whole c.args.t c.args.gammas.now c.args.seed
    c.args.syndrome.now c.args.priors.now c.args.check_var.now
    c.args.check_offset.now c.args.var_check.now c.args.var_message.now
    c.args.var_offset.now [] c.args.size.checks c.args.size.mechanisms)
    (record {
      leg_state = c.args.leg_state.now;
      leg_iterations = c.args.leg_iterations.now;
      leg_weight = c.args.leg_weight.now;
      rows = c.args.rows.now;
      correction = c.args.correction.now;
      posterior = c.args.posterior.now;
      gamma = c.args.gamma.now;
      bias = c.args.bias.now;
      c_to_v = c.args.c_to_v.now;
      v_to_c = c.args.v_to_c.now;
    }) _ _ c.legs_fit-records.ensures c.work_fits-work.ensures
    (elim c.then-not-records.branch [
      | then-not-records-via-then-not-records w ↦ rw w.if-not-records.true
      | then-not-records-via-else-not-records+then-not-work w ↦ rw (w.if-not-records.false, w.if-not-work.true)
    ]))

pub returns : goal.returns
unfolding shot_fault or_else
returns c =
    rw (
      ← c.in_ok-check_graph.ensures,
      ← (sym c.in_ok-check_settings.was ∙ settled (goal.at.returns c).After-check_settings),
      ← c.in_ok-syndrome_fault.ensures,
      ← c.in_ok-seed_fault.ensures,
    )
    (lists_passed c.args.size.edges (whole c.args.t c.args.gammas.now c.args.seed
    c.args.syndrome.now c.args.priors.now c.args.check_var.now
    c.args.check_offset.now c.args.var_check.now c.args.var_message.now
    c.args.var_offset.now [] c.args.size.checks c.args.size.mechanisms)
    (record {
      leg_state = c.args.leg_state.now;
      leg_iterations = c.args.leg_iterations.now;
      leg_weight = c.args.leg_weight.now;
      rows = c.args.rows.now;
      correction = c.args.correction.now;
      posterior = c.args.posterior.now;
      gamma = c.args.gamma.now;
      bias = c.args.bias.now;
      c_to_v = c.args.c_to_v.now;
      v_to_c = c.args.v_to_c.now;
    }) _ _ c.legs_fit-records.ensures c.work_fits-work.ensures
    (rw (c.if-not-records.false, c.if-not-work.false)))
