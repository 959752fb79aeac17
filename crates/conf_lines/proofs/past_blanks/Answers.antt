-- The loop keeps: the blanks before the place go. A blank is Blanks.blank_goes, any other byte Blanks.other_stays, the end Blanks.end_stays.
use mathlib.Core.Path.{sym, ◌∙◌}
use native.Mathlib.Omega.{arith}
use Rattle.conf_lines.proofs.Blanks.{blank_goes, other_stays, end_stays}
use Rattle.conf_lines.proofs.past_blanks.Goals as goal

pub loop-at-preserved : goal.loop-at-preserved
loop-at-preserved c =
    let l = c.loop-at in
    let a = c.args in
    let blank = sym c.is_blank.ensures ∙ c.if-is_blank.true in
    (omega (arith, l.invariant.0), blank_goes a.text.now l.at c.loop-at-test.true blank ∙ l.invariant.1)

pub returns-after-loop-at : goal.returns-after-loop-at
returns-after-loop-at c =
    let l = c.loop-at in
    record { rest = end_stays c.args.text.now l.at c.loop-at-test.false ∙ l.invariant.1; ahead = l.invariant.0 }

pub returns-else-is_blank : goal.returns-else-is_blank
returns-else-is_blank c =
    let l = c.loop-at in
    let other = sym c.is_blank.ensures ∙ c.if-is_blank.false in
    record { rest = other_stays c.args.text.now l.at c.loop-at-test.true other ∙ l.invariant.1; ahead = l.invariant.0 }
