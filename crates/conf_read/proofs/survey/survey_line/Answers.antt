-- What a line does is Surveys.a_line, over the contracts of line_at, take_line and place_after.
use mathlib.Core.Path.{sym, subst, ap, ◌∙◌}
use Rattle.conf_read.specs.Passes.{surveyed_of, Surveys}
use Rattle.conf_read.proofs.Surveys.{a_line}
use Rattle.conf_read.proofs.survey.survey_line.Goals as goal

pub take_line-turn-requires : goal.take_line-turn-requires
take_line-turn-requires c = c.line_at-l.ensures.parts

pub returns : goal.returns
returns c =
    let a = c.args in
    let s = a.text.now in
    let r = c.line_at-l.result in
    subst (Surveys s a.p) (sym (c.place_after.ensures ∙ ap (surveyed_of a.p r.next) c.take_line-turn.ensures))
    (a_line s a.p r c.line_at-l.ensures)
