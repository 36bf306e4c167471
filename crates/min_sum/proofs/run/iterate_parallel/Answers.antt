-- `min_sum::run::iterate_parallel` meets its contract. What its two passes leave is the iteration of the whole graph. Assumes nothing.
use Rattle.min_sum.proofs.Rounds.{parallel_turned}
use Rattle.min_sum.proofs.run.iterate_parallel.Goals as goal

pub returns : goal.returns
returns c =
    parallel_turned _ _ _ _ _ _ _ _ _ _ _ _ _ _ _ _ c.parallel_checks.ensures c.update_and_average.ensures.messages c.update_and_average.ensures.average
