-- The loop keeps Walks.Walking, over next_byte's contract: a byte is walk_on, the line's end walk_out.
use mathlib.Core.Path.{subst}
use Rattle.conf_lines.specs.Scan.{Stepped}
use Rattle.conf_content.proofs.Walks.{walk_on, walk_out}
use Rattle.conf_content.proofs.advance.Goals as goal

pub loop-i-preserved : goal.loop-i-preserved
loop-i-preserved c =
    let a = c.args in
    let s = a.text.now in
    let w = c.loop-i.w in
    walk_on s a.from a.n w c.loop-i._i c.loop-i.invariant _ _
    (subst (Stepped s w) c.in-Byte.is c.next_byte.ensures) c.loop-i-test.true

pub returns-in-End : goal.returns-in-End
returns-in-End c =
    let a = c.args in
    let s = a.text.now in
    let w = c.loop-i.w in
    walk_out s a.from a.n w c.loop-i._i c.loop-i.invariant _
    (subst (Stepped s w) c.in-End.is c.next_byte.ensures)
