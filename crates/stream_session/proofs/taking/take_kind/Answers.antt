-- `stream_session::taking::take_kind` meets its contract. Kind by kind. Assumes nothing.
use Rattle.std.proofs.Common.{ℕ, List, sym, ap, ◌∙◌}
use Rattle.stream_session.specs.Shots.{Told, taken, shot_taken}
use Rattle.stream_session.proofs.Cases.{kind_model, kind_settings, kind_shot}
use Rattle.stream_session.proofs.taking.take_kind.Goals as goal

pub returns-then-s-eq1 : goal.returns-then-s-eq1
returns-then-s-eq1 c = kind_model _ _ _ _ _ c.if-s-eq1.true c.take_model.ensures

pub returns-then-is_settings : goal.returns-then-is_settings
returns-then-is_settings c = kind_settings _ _ _ _ _ c.if-s-eq1.false
    (sym c.is_settings.ensures ∙ c.if-is_settings.true) (ap (λ (t : Told). taken t c.args.model.now) c.take_settings.ensures)

pub returns : goal.returns
returns c =
    kind_shot _ _ _ _ _
    c.if-s-eq1.false
    (sym c.is_settings.ensures ∙ c.if-is_settings.false) (ap (λ (t : Told). taken t c.args.model.now)
    (c.take_shot.ensures ∙ ap (λ (m : List ℕ). shot_taken c.args.s m c.args.payload.now c.args.line.now) c.front-n.ensures.1))
