-- Each branch by the shape that was matched: Writes.passes where nothing is listed, Writes.writes for a setting; no line is bad.
use mathlib.Core.Path.{ap, subst, ◌∙◌}
use Rattle.std.specs.Prelude.{Some, Ok}
use native.Mathlib.Omega.{arith}
use Rattle.conf_content.specs.Shape.{Parts}
use Rattle.conf_read.proofs.Writes.{empty_says, header_says, setting_says, bad_says, passes, room_for_lem, writes}
use Rattle.conf_read.proofs.write_line.Goals as goal

pub section_of-requires : goal.section_of-requires
section_of-requires c =
    subst (Parts c.args.text.now) (c.in-Ok.is ∙ ap Ok (c.in-Some.is ∙ ap Some c.in-Header.is)) c.line_at-l.ensures.parts

pub put_setting-requires : goal.put_setting-requires
put_setting-requires c =
    let a = c.args in
    let l = c.line_at-l.ensures in
    let p = subst (Parts a.text.now) (c.in-Ok.is ∙ ap Ok (c.in-Some.is ∙ ap Some c.in-Setting.is)) l.parts in
    let e = setting_says l a.w.section (c.in-Ok.is ∙ ap Ok (c.in-Some.is ∙ ap Some c.in-Setting.is)) in
    (p.0, p.1, room_for_lem a.text.now a.w c.line_at-l.result.next c.in-Setting.k c.in-Setting.v e c.requires.good c.requires.room)

pub returns-in_default-found : goal.returns-in_default-found
returns-in_default-found c =
    let a = c.args in
    let l = c.line_at-l.ensures in
    passes a.out.now a.text.now a.w c.line_at-l.result.next a.w.section l.moved c.requires.good
    (empty_says l a.w.section (c.in-Ok.is ∙ ap Ok c.in_default-found.is)) (omega (arith, c.requires.room))

pub returns-in-Header : goal.returns-in-Header
returns-in-Header c =
    let a = c.args in
    let l = c.line_at-l.ensures in
    passes a.out.now a.text.now a.w c.line_at-l.result.next c.section_of.result l.moved c.requires.good
    (header_says l a.w.section (c.in-Ok.is ∙ ap Ok (c.in-Some.is ∙ ap Some c.in-Header.is)) c.section_of.ensures) (omega (arith, c.requires.room))

pub returns-in-Setting : goal.returns-in-Setting
returns-in-Setting c =
    let a = c.args in
    let l = c.line_at-l.ensures in
    writes a.text.now a.w c.line_at-l.result.next c.in-Setting.k c.in-Setting.v (setting_says l a.w.section (c.in-Ok.is ∙ ap Ok (c.in-Some.is ∙ ap Some c.in-Setting.is))) c.requires.good
    l.moved c.put_setting.ensures

pub returns-in_default : goal.returns-in_default
returns-in_default c =
    let a = c.args in
    absurd (bad_says c.line_at-l.ensures a.w.section c.in_default.is c.requires.good)
