-- Each branch by the shape that was matched: its parts are the line's, and it means the content that `turn_of` goes by.
use mathlib.Core.Path.{sym, ap, subst, ◌∙◌}
use Rattle.std.specs.Prelude.{Some, Ok}
use Rattle.std.proofs.lemmas.Result.{err_from_is_err_and}
use Rattle.conf_content.specs.Shape.{Parts}
use Rattle.conf_read.specs.Passes.{as_turn, turn_of}
use Rattle.conf_read.specs.declared.survey.Turn.TheVariants as turn
use Rattle.conf_typed.specs.declared.Section.{Section}
use Rattle.conf_read.proofs.survey.take_line.Goals as goal

pub returns-in_err-shape : goal.returns-in_err-shape
unfolding turn_of
returns-in_err-shape c =
    let p = err_from_is_err_and c.from_residual.result c.from_residual.ensures.1 in
    rw (p.1, p.2, c.in_err-shape.was)

pub section_of-requires : goal.section_of-requires
section_of-requires c =
    let n = c.in-Some-Header in
    subst (Parts c.args.text.now) (c.in_ok-shape.was ∙ ap Ok (n.is ∙ ap Some n.field-0-is)) c.requires

pub take_setting-requires : goal.take_setting-requires
take_setting-requires c =
    let n = c.in-Some-Setting in
    subst (Parts c.args.text.now) (c.in_ok-shape.was ∙ ap Ok (n.is ∙ ap Some n.field-0-is)) c.requires

pub returns-in-None : goal.returns-in-None
unfolding turn_of
returns-in-None c = rw (c.in_ok-shape.was, c.in-None.is)

pub returns-in-Some-Header : goal.returns-in-Some-Header
unfolding turn_of
returns-in-Some-Header c =
    let n = c.in-Some-Header in
    rw (c.in_ok-shape.was, n.is, n.field-0-is) (ap (λ (s : Section). Ok (turn.Opens s)) c.section_of.ensures)

pub returns-in_err-take_setting-in-Some-Setting : goal.returns-in_err-take_setting-in-Some-Setting
unfolding turn_of
returns-in_err-take_setting-in-Some-Setting c =
    let n = c.in-Some-Setting in
    let p = err_from_is_err_and c.from_residual-in_err-take_setting-in-Some-Setting.result c.from_residual-in_err-take_setting-in-Some-Setting.ensures.1 in
    rw (p.1, p.2, c.in_ok-shape.was, n.is, n.field-0-is) (ap as_turn (sym c.in_err-take_setting-in-Some-Setting.was ∙ c.take_setting.ensures))

pub returns-in_ok-take_setting-in-Some-Setting : goal.returns-in_ok-take_setting-in-Some-Setting
unfolding turn_of
returns-in_ok-take_setting-in-Some-Setting c =
    let n = c.in-Some-Setting in
    rw (c.in_ok-shape.was, n.is, n.field-0-is) (ap as_turn (sym c.in_ok-take_setting-in-Some-Setting.was ∙ c.take_setting.ensures))
