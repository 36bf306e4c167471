-- `stream_session::taking::take_record` meets its contract. Case by case. Assumes nothing.
use Rattle.std.proofs.Common.{take, sym, ap, ◌∙◌}
use Rattle.refusals.specs.Refusal.{Answer}
use Rattle.stream_session.specs.Shots.{Told, taken, record_judged, record_taken}
use Rattle.stream_session.proofs.Cases.{by_case}
use Rattle.stream_session.proofs.taking.take_record.Goals as goal

pub returns-in-Err : goal.returns-in-Err
unfolding record_taken
returns-in-Err c =
    by_case (λ (d : Answer). record_judged c.args.s d (take c.args.s.reader.length
    c.args.kept.now) c.args.model.now c.args.line.now) (ap (λ (t : Told). taken t c.args.model.now) c.stop.ensures) (sym
    c.verdict-a.ensures ∙ c.in-Err.is)

pub returns-in-Ok : goal.returns-in-Ok
unfolding record_taken
returns-in-Ok c =
    by_case (λ (d : Answer). record_judged c.args.s d (take
    c.args.s.reader.length c.args.kept.now) c.args.model.now c.args.line.now) c.take_accepted.ensures (sym
    c.verdict-a.ensures ∙ c.in-Ok.is)
