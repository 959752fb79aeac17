-- The loop keeps Cursors.Left. A line feed is Cursors.ended_feed, the end of the text Cursors.ended_out.
use native.Mathlib.Omega.{arith}
use mathlib.Core.Path.{refl}
use Rattle.conf_lines.proofs.Cursors.{left_more, ended_feed, ended_out}
use Rattle.conf_lines.proofs.past_line.Goals as goal

pub returns-then-text-at-eq10 : goal.returns-then-text-at-eq10
returns-then-text-at-eq10 c =
    let a = c.args in
    let l = c.loop-at in
    ended_feed a.text.now a.c _ l.at l.invariant c.loop-at-test.true c.if-text-at-eq10.true refl refl

pub loop-at-preserved : goal.loop-at-preserved
loop-at-preserved c =
    let a = c.args in
    left_more a.text.now a.c.at c.loop-at.at c.loop-at.invariant c.loop-at-test.true c.if-text-at-eq10.false

pub returns : goal.returns
returns c =
    let a = c.args in
    ended_out a.text.now a.c _ c.loop-at.at c.loop-at.invariant c.loop-at-test.false
    (omega (arith, c.max.ensures)) (omega (arith, c.max.ensures)) refl
