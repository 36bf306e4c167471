-- `min_sum::run::min_sum_bp` meets its contract. What the rounds and the end rule leave is the run of the whole graph. Assumes nothing.
use Rattle.min_sum.proofs.Rounds.{run_is}
use Rattle.min_sum.proofs.run.min_sum_bp.Goals as goal

pub returns : goal.returns
returns c = run_is _ _ _ _ _ _ _ _ _ _ _ _ _ _ _ c.all_rounds.ensures c.choose.ensures
