-- The loop keeps: what is left to read at c is the line from w on. A join is Cursors.same_then, a step Cursors.stepped_then, over
-- pass_byte's contract.
use mathlib.Core.Path.{subst}
use native.Mathlib.Omega.{arith}
use Rattle.conf_lines.specs.Scan.{line_from, Passed}
use Rattle.conf_lines.proofs.Cursors.{same_self, same_then, stepped_then}
use Rattle.conf_lines.proofs.step_past_joins.Goals as goal

pub loop-step-init : goal.loop-step-init
loop-step-init c = let a = c.args in same_self a.text.now a.c

pub returns-in-Stepped : goal.returns-in-Stepped
returns-in-Stepped c =
    let a = c.args in
    let s = a.text.now in
    let w = c.loop-step.w in
    stepped_then s a.c w c.in-Stepped.step c.loop-step.invariant (subst (Passed s w) c.in-Stepped.is c.pass_byte.ensures)

pub loop-step-smaller : goal.loop-step-smaller
loop-step-smaller c =
    let s = c.args.text.now in
    let r = subst (Passed s c.loop-step.w) c.in-Join.is c.pass_byte.ensures in
    omega (arith, r.moved, r.inside)

pub loop-step-preserved : goal.loop-step-preserved
loop-step-preserved c =
    let a = c.args in
    let s = a.text.now in
    let w = c.loop-step.w in
    let r = subst (Passed s w) c.in-Join.is c.pass_byte.ensures in
    same_then s a.c (line_from s a.c) w _ c.loop-step.invariant r.same
