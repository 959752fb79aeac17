-- The loop keeps: what is left from i on parts where what is left from `from` on does. A byte that is the same is
-- Laws.same_byte, one that differs Laws.other_byte, the end of the shorter Laws.shorter_ends.
use mathlib.Core.Path.{refl}
use native.Mathlib.Omega.{arith}
use Rattle.file_parting.proofs.Laws.{same_byte, other_byte, shorter_ends}
use Rattle.file_parting.proofs.parting_from.Goals as goal

pub loop-i-init : goal.loop-i-init
loop-i-init c = refl

pub returns-then-a-i : goal.returns-then-a-i
returns-then-a-i c =
    let l = c.loop-i in
    let a = c.args in
    omega (arith, l.invariant, other_byte a.a.now a.b.now l.i (omega arith) (omega arith) c.if-a-i.true)

pub loop-i-preserved : goal.loop-i-preserved
loop-i-preserved c =
    let l = c.loop-i in
    let a = c.args in
    omega (arith, l.invariant, same_byte a.a.now a.b.now l.i (omega arith) (omega arith) c.if-a-i.false)

pub returns : goal.returns
returns c =
    let l = c.loop-i in
    let a = c.args in
    omega (arith, l.invariant, shorter_ends a.a.now a.b.now l.i (omega (arith, c.min-end.ensures)))
