-- `min_sum::run::iterate_serial` meets its contract. What its two passes leave is the iteration of the whole graph. Assumes nothing.
use Rattle.min_sum.proofs.Rounds.{serial_turned}
use Rattle.min_sum.proofs.run.iterate_serial.Goals as goal

pub returns : goal.returns
returns c = serial_turned _ _ _ _ _ _ _ _ _ _ _ _ _ _ _ _ c.serial_checks.ensures c.average.ensures
