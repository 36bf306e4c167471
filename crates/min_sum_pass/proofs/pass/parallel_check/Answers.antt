-- `min_sum_pass::pass::parallel_check` meets its contract. Too few entries skip the check, and others send. Assumes nothing.
use Rattle.min_sum_pass.proofs.Checks.{parallel_is}
use Rattle.min_sum_pass.proofs.pass.parallel_check.Goals as goal

pub returns : goal.returns
returns c =
    parallel_is _ _ _ _ _ _ _ _ _ _ c.args.c _ _ _
    c.start.ensures.value c.end.ensures.value c.update_part.ensures.skipped _ c.update_part.ensures.messages
