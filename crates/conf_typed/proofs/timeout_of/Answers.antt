-- The number that `decimal_of` returns decides as the definition `timeout_of` does: Numbers.timeout_from_lem.
use mathlib.Core.Path.{sym, ap, ◌∙◌}
use borrow.Author.Tests.{le-leb, lt-leb}
use Rattle.conf_lines.specs.Span.{spanned}
use Rattle.conf_typed.proofs.Numbers.{timeout_from, timeout_from_lem}
use Rattle.conf_typed.proofs.timeout_of.Goals as goal

pub returns-then-n-le4294967295 : goal.returns-then-n-le4294967295
returns-then-n-le4294967295 c =
    let a = c.args in
    let n = sym c.decimal_of.ensures ∙ c.in-Some.is in
    sym (rw (le-leb _ 4294967295 c.if-n-le4294967295.true) at (ap timeout_from n)) ∙ timeout_from_lem (spanned a.text.now a.v)

pub returns-else-n-le4294967295 : goal.returns-else-n-le4294967295
returns-else-n-le4294967295 c =
    let a = c.args in
    let n = sym c.decimal_of.ensures ∙ c.in-Some.is in
    sym (rw (lt-leb _ 4294967295 c.if-n-le4294967295.false) at (ap timeout_from n)) ∙ timeout_from_lem (spanned a.text.now a.v)

pub returns-in_default : goal.returns-in_default
returns-in_default c =
    let a = c.args in
    let other = sym c.decimal_of.ensures ∙ c.in_default.is in
    sym (ap timeout_from other) ∙ timeout_from_lem (spanned a.text.now a.v)
