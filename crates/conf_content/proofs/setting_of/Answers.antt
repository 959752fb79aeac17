-- Any other line: the cases of Shapes, over advance's contract.
use Rattle.conf_content.proofs.Shapes.{shaped_setting, shaped_no_key, shaped_no_equals}
use Rattle.conf_content.proofs.setting_of.Goals as goal

pub returns-in_default : goal.returns-in_default
returns-in_default c =
    let a = c.args in
    shaped_no_equals a.text.now a.at a.m c.requires.measured c.requires.first.0 c.requires.first.1 c.in_default.is

pub returns-then-e-eq0 : goal.returns-then-e-eq0
returns-then-e-eq0 c =
    let a = c.args in
    shaped_no_key a.text.now a.at a.m c.requires.measured c.requires.first.0 c.requires.first.1 c.in-Some.is c.if-e-eq0.true

pub returns : goal.returns
returns c =
    let a = c.args in
    shaped_setting a.text.now a.at a.m c.requires.measured c.requires.first.0 c.requires.first.1 c.in-Some.is c.if-e-eq0.false _ _
    (rw c.at.ensures.place at c.advance.ensures) c.saturating_sub.ensures
