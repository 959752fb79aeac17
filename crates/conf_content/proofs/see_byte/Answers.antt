-- By whether the byte is a blank: the cases of Sees.
use mathlib.Core.Path.{sym, ◌∙◌}
use Rattle.conf_content.proofs.Sees.{see_blank, see_other}
use Rattle.conf_content.proofs.see_byte.Goals as goal

pub returns-then-is_blank : goal.returns-then-is_blank
returns-then-is_blank c =
    let a = c.args in
    see_blank a.m a.b _ c.first_with-first.ensures c.equals_with-equals.ensures (sym c.is_blank.ensures ∙ c.if-is_blank.true)

pub returns : goal.returns
returns c =
    let a = c.args in
    see_other a.m a.b _ c.first_with-first.ensures c.equals_with-equals.ensures (sym c.is_blank.ensures ∙ c.if-is_blank.false)
