-- A buffer that is too short is Messages.no_room; otherwise load, message, save and the five numbers are Messages.answered.
use mathlib.Core.Path.{ap, ◌∙◌}
use mathlib.Core.List.{[]}
use Rattle.session.specs.Step.{Outcome, in_state}
use Rattle.session.specs.declared.Session.{Session}
use Rattle.session_turn.specs.declared.State.TheVariants.{Closed}
use Rattle.session_bytes.specs.Saved.{kept}
use Rattle.c_session.specs.Session.{has_point, point_number}
use Rattle.c_session.proofs.Messages.{no_room, answered}
use Rattle.c_session.proofs.sudolog_session_message.Goals as goal

pub returns-then-out-lt40 : goal.returns-then-out-lt40
returns-then-out-lt40 c =
    let both = let a = c.args in
    let slice = a.slice.now in
    no_room slice a.s.now a.area.now a.used a.out.now c.if-out-lt40.true _
    (c.save.ensures.slice
    ∙ ap (λ (o : Outcome). kept o.session slice) (c.refuse.ensures [])
    ∙ ap (λ (x : Session). kept (in_state x Closed) slice) c.load-se.ensures) in record { answer = both.0; slice = both.1.0; area = both.1.1.0; out = both.1.1.1 }

pub returns : goal.returns
returns c =
    let both = let a = c.args in
    answered a.slice.now a.s.now a.area.now a.used a.out.now _ c.message-a.result _ _ _ c.load-se.ensures
    c.message-a.ensures c.if-out-lt40.false _ _ _ _ _ c.refusal.ensures c.save-2.ensures.slice (c.from.ensures ∙ c.key.ensures)
    (c.has_point.ensures ∙ ap has_point c.point-point.ensures) (c.point_number.ensures ∙ ap point_number c.point-point.ensures)
    c.state_number.ensures c.lay.ensures.buffer in record { answer = both.0; slice = both.1.0; area = both.1.1.0; out = both.1.1.1 }
