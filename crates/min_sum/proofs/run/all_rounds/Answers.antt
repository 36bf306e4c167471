-- `min_sum::run::all_rounds` meets its contract. One round or two, from the priors; a round reads nothing of the messages before it. Assumes nothing.
use Rattle.min_sum.proofs.Rounds.{one_round, two_rounds}
use Rattle.min_sum.proofs.run.all_rounds.Goals as goal

pub returns-then-n-lt6 : goal.returns-then-n-lt6
returns-then-n-lt6 c = one_round _ _ _ _ _ _ _ _ _ c.if-n-lt6.true
    c.copy.ensures
    c.outer_round.ensures

pub returns : goal.returns
returns c = two_rounds _ _ _ _ _ _ _ _ _ c.if-n-lt6.false
    c.copy.ensures
    c.two_outer_rounds.ensures
