-- The loop keeps Walks.Passing, over next_byte's contract: a byte is pass_on, the line's end pass_ends.
use mathlib.Core.Path.{subst}
use native.Mathlib.Omega.{arith}
use Rattle.conf_lines.specs.Scan.{Stepped}
use Rattle.conf_content.proofs.Walks.{pass_starts, pass_on, pass_counts}
use Rattle.conf_content.proofs.measure_line.Goals as goal

pub loop-b-init : goal.loop-b-init
loop-b-init c = let a = c.args in pass_starts a.text.now a.c

pub see_byte-m-requires : goal.see_byte-m-requires
see_byte-m-requires c =
    let a = c.args in
    let s = a.text.now in
    let w = c.loop-b.w in
    let g = subst (Stepped s w) c.in-Byte.is c.next_byte.ensures in
    let n = pass_counts s a.c c.loop-b.m w c.loop-b.invariant _ _ g in
    omega (arith, n, g.inside)

pub loop-b-preserved : goal.loop-b-preserved
loop-b-preserved c =
    let a = c.args in
    let s = a.text.now in
    let w = c.loop-b.w in
    pass_on s a.c c.loop-b.m w c.loop-b.invariant _ _ _
    (subst (Stepped s w) c.in-Byte.is c.next_byte.ensures) c.see_byte-m.ensures
