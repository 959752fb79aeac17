-- The number that `decimal_of` returns decides as the definition `maxseq_of` does: Numbers.maxseq_from_lem.
use Rattle.std.specs.Prelude.{Ok}
use native.Mathlib.Omega.{arith}
use mathlib.Core.Path.{sym, ap, ◌∙◌}
use borrow.Author.Tests.{le-leb}
use Rattle.conf_lines.specs.Span.{spanned}
use Rattle.conf_typed.proofs.Numbers.{least, maxseq_from, maxseq_from_lem}
use Rattle.conf_typed.proofs.maxseq_of.Goals as goal

pub returns-then-n-eq0 : goal.returns-then-n-eq0
returns-then-n-eq0 c =
    let a = c.args in
    let n = sym c.decimal_of.ensures ∙ c.in-Some.is in
    sym (rw c.if-n-eq0.true at (ap maxseq_from n)) ∙ maxseq_from_lem (spanned a.text.now a.v)

pub returns : goal.returns
returns c =
    let a = c.args in
    let n = sym c.decimal_of.ensures ∙ c.in-Some.is in
    let some = le-leb 1 c.in-Some.n (omega (arith, c.if-n-eq0.false)) in
    ap Ok (c.min.ensures ∙ least c.in-Some.n 2176782336) ∙ sym (rw some at (ap maxseq_from n)) ∙ maxseq_from_lem (spanned a.text.now a.v)

pub returns-in_default : goal.returns-in_default
returns-in_default c =
    let a = c.args in
    let other = sym c.decimal_of.ensures ∙ c.in_default.is in
    sym (ap maxseq_from other) ∙ maxseq_from_lem (spanned a.text.now a.v)
