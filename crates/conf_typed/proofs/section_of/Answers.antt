-- The loop keeps: the sections from the index on decide. A section is Sections.section_here or section_behind, the end no_section.
use mathlib.Core.Path.{sym, ap, ◌∙◌}
use Rattle.conf_lines.specs.Span.{spanned}
use Rattle.conf_typed.specs.Typed.{same, lower}
use Rattle.conf_typed.proofs.Sections.{named, section_here, section_behind, no_section}
use Rattle.conf_typed.proofs.section_of.Goals as goal

pub loop-section-init : goal.loop-section-init
loop-section-init c = named _

pub loop-section-preserved : goal.loop-section-preserved
loop-section-preserved c =
    let n = lower (spanned c.args.text.now c.args.name) in
    let e = ap (same n) (sym c.name.ensures) ∙ sym c.is_word.ensures ∙ c.if-is_word.false in
    section_behind n _ _ _ c.loop-section-test.true e ∙ c.loop-section.invariant

pub returns-then-is_word : goal.returns-then-is_word
returns-then-is_word c =
    let n = lower (spanned c.args.text.now c.args.name) in
    let e = ap (same n) (sym c.name.ensures) ∙ sym c.is_word.ensures ∙ c.if-is_word.true in
    section_here n _ _ _ c.loop-section-test.true e ∙ c.loop-section.invariant

pub returns : goal.returns
returns c = no_section _ _ _ c.loop-section-test.false ∙ c.loop-section.invariant
