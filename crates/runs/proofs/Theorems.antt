-- R1 to R12 of docs/REFERENCE.md hold of the definitions, by computation. Assumes nothing.
use mathlib.Core.Path.{refl}
use lib.Ieee.{add, sub, mul, neg, lt, le, eq, of_int}
use Rattle.numbers.specs.Floats as Floats
use Rattle.numbers.specs.Draw as Draw
use Rattle.refusals.specs.Tests as Tests
use Rattle.graph_lists.specs.Lists as Lists
use Rattle.graph_lists.specs.Graph as Graph
use Rattle.graph_lists.specs.Messages as Messages
use Rattle.graph_lists.specs.Model as Model
use Rattle.min_sum_pass.specs.MinSum as MinSum
use Rattle.min_sum.specs.Beliefs as Beliefs
use Rattle.relay_settings.specs.Settings as Settings
use Rattle.relay_check.specs.Check as Check
use Rattle.relay_step.specs.Step as Step
use Rattle.relay_orders.specs.Order as Order
use Rattle.relay_step.specs.Leg as Leg
use Rattle.relay_gammas.specs.Gammas as Gammas
use Rattle.relay_stores.specs.Stores as Stores
use Rattle.relay_calls.specs.Records as Records
use Rattle.relay_calls.specs.Decode as Decode
use Rattle.relay_calls.specs.Calls as Calls
use Rattle.runs.specs.Runs.{Table}

-- the twelve runs
pub runs : Table
unfolding add sub mul neg lt le eq of_int
    Floats.abs Floats.is_finite Floats.is_negative Floats.message_sign
    Draw.mixed Draw.unit Draw.gamma
    Tests.unless Tests.or_else Tests.first_of Tests.unless_refused
    Lists.has Lists.passing Lists.joined Lists.start Lists.offsets Lists.stands Lists.places Lists.same_list
    Graph.mechanisms_of Graph.flipped Graph.checks_of Graph.entries Graph.graph_of Graph.among Graph.marked Graph.own_incidence
    Messages.from_variables Messages.cleared Messages.lowered Messages.flipped_by Messages.scanned Messages.scan Messages.total Messages.value_fault Messages.posterior_fault
    Model.graph_fits Model.rising Model.offsets_good Model.prior_good Model.prior_fault Model.detector_fault Model.mechanism_test Model.mechanism_fault Model.same_graph Model.is_graph Model.built Model.sparse_fault Model.build_sparse Model.count_edges Model.dense_fault Model.build_dense Model.graph_fault
    MinSum.sign_without MinSum.sent_at MinSum.sent_to MinSum.check_messages MinSum.skipped MinSum.update_check MinSum.damped MinSum.damped_messages MinSum.raw_posterior MinSum.update_variable MinSum.parallel_check MinSum.checks_to MinSum.variables_to MinSum.parallel_iteration MinSum.serial_check MinSum.serial_to MinSum.serial_iteration MinSum.running_average MinSum.averaged_to MinSum.averaged MinSum.weight_of MinSum.chosen MinSum.chosen_to MinSum.start_round MinSum.iterated MinSum.iterated_in MinSum.outer_round_to MinSum.outer_round MinSum.all_rounds MinSum.min_sum_bp
    Beliefs.beliefs_lists_fit Beliefs.beliefs_fault Beliefs.ran Beliefs.beliefs
    Settings.clip_good Settings.alpha_good Settings.pre_good Settings.leg_iterations_good Settings.interval_good Settings.sets_good Settings.gamma_fault Settings.source_fault Settings.settings_fault Settings.check_settings
    Check.scanned Check.scan Check.saturated Check.weighed Check.clamped Check.clipped Check.sent Check.sent_to Check.check_messages
    Step.update_check Step.written Step.update_variable Step.bias_of Step.biases_to Step.compute_bias Step.check_pass Step.variable_pass Step.flooding_iteration Step.serial_check Step.serial_pass Step.check_serial_iteration
    Order.count Order.once Order.names_once Order.shares Order.above Order.late Order.exchanged Order.names_fault Order.exchange_fault
    Leg.start_leg Leg.hard_bit Leg.hard_decision Leg.parity Leg.matches Leg.satisfied Leg.cost Leg.correction_weight
    Gammas.stream_number Gammas.leg_seed Gammas.start_of Gammas.seed_good Gammas.seed_fault Gammas.drawn_on Gammas.drawn Gammas.relay_gamma Gammas.gamma_of
    Stores.counted_check Stores.store Stores.counted_written Stores.counted_variable Stores.counted_check_pass Stores.counted_variable_pass Stores.counted_flooding Stores.counted_serial_check Stores.counted_serial_pass Stores.counted_serial Stores.degree Stores.squared_degrees Stores.stores_fault
    Records.leg_record
    Decode.iteration_limit Decode.step_of Decode.executed_leg Decode.start_run Decode.recorded Decode.after_leg Decode.legs_from Decode.decode_legs Decode.counted_step_of Decode.counted_leg Decode.leg_stores Decode.stores_from Decode.decode_stores
    Calls.byte_fault Calls.syndrome_fault Calls.step_fits Calls.finite_at Calls.all_finite Calls.state_finite Calls.step_fault Calls.message_finite Calls.mechanism_finite Calls.finite_fault Calls.step_end Calls.stepped Calls.iteration_call Calls.decode_lists_fit Calls.decode_fault Calls.left_by Calls.zeroed Calls.decode_in_order Calls.decode
runs =
    record {
      r1 = (refl, refl);
      r2 = refl;
      r3 = refl;
      r4 = refl;
      r5 = refl;
      r6 = (refl, refl, refl, refl, refl);
      r7 = refl;
      r8 = refl;
      r9 = (refl, refl);
      r10 = refl;
      r11 = refl;
      r12 = (refl, refl);
    }
