-- Refusal 17, then 18, by the two tests; else Turns.sets: the setting is added up.
use mathlib.Core.Path.{sym, ◌∙◌}
use Rattle.std.proofs.lemmas.Result.{err_from_is_err_and}
use Rattle.conf_read.proofs.Turns.{unknown, wrong, is_set}
use Rattle.conf_read.proofs.survey.take_setting.Goals as goal

pub returns-then-is_unknown : goal.returns-then-is_unknown
returns-then-is_unknown c =
    let a = c.args in
    unknown a.t a.section _ _ (sym c.is_unknown.ensures ∙ c.if-is_unknown.true)

pub returns-in_err-typed : goal.returns-in_err-typed
returns-in_err-typed c =
    let a = c.args in
    let p = err_from_is_err_and c.from_residual.result c.from_residual.ensures.1 in
    p.1 ∙ wrong a.t a.section _ _ p.2 (sym c.is_unknown.ensures ∙ c.if-is_unknown.false) (sym c.in_err-typed.was ∙ c.typed_of.ensures)

pub returns : goal.returns
returns c =
    let a = c.args in
    is_set a.text.now a.t a.section a.k a.v c.requires.0 c.requires.1
    (sym c.is_unknown.ensures ∙ c.if-is_unknown.false) (sym c.in_ok-typed.was ∙ c.typed_of.ensures) c.values_with-values.ensures c.room_after-room.ensures
