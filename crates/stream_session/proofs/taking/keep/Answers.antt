-- `stream_session::taking::keep` meets its contract. The shorter of the two ends what is kept. Assumes nothing.
use Rattle.std.proofs.Common.{◌∙◌, ap, List, ℕ, ◌++◌, drop}
use Rattle.stream_session.proofs.Keeping.{kept_front}
use Rattle.stream_session.proofs.taking.keep.Goals as goal

pub returns : goal.returns
returns c = ap (λ (xs : List ℕ). xs ++ drop c.min-n.result c.args.list.now) c.copy.ensures
    ∙ kept_front c.args.payload.now c.args.list.now c.min-n.result c.min-n.ensures
