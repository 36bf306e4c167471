-- `graph_probabilities::write_priors` meets its contract. The invariant: the priors passed are those of the probabilities passed. Assumes nothing.
use Rattle.refusals.proofs.Tests.{unless_done, first_all}
use Rattle.refusals.specs.declared.Refusal.TheVariants.{BadProbability}
use Rattle.probabilities.specs.Calls.{probability_fault}
use Rattle.graph_probabilities.proofs.write_priors.Goals as goal

pub made_prior-requires : goal.made_prior-requires
unfolding probability_fault
made_prior-requires c =
    unless_done _ (BadProbability c.loop-m.m) (first_all (probability_fault c.args.probabilities.now) _
    c.requires.probabilities_value c.loop-m.m c.loop-m-test.true)
