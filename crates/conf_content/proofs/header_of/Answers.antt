-- A line that starts with `[`: the cases of Shapes, over advance's contract.
use native.Mathlib.Omega.{arith}
use mathlib.Core.Path.{◌≡◌}
use Rattle.conf_content.proofs.Shapes.{shaped_header, shaped_short, shaped_open}
use Rattle.conf_content.proofs.header_of.Goals.{else-m-eq93-via-then-m-eq93+else-m-ge2, else-m-eq93-via-else-m-eq93}
use Rattle.conf_content.proofs.header_of.Goals as goal

pub returns-then-m-ge2 : goal.returns-then-m-ge2
returns-then-m-ge2 c =
    let a = c.args in
    let closed : a.m.last ≡ 93 = omega arith in
    shaped_header a.text.now a.at a.m c.requires.measured c.requires.first.0 c.requires.first.1 closed c.if-m-ge2.true _
    (rw c.at.ensures.place at c.advance.ensures)

pub returns : goal.returns
returns c =
    let a = c.args in
    elim c.else-m-eq93.branch [
      | else-m-eq93-via-then-m-eq93+else-m-ge2 w ↦ shaped_short a.text.now a.at a.m c.requires.measured c.requires.first.0 c.requires.first.1 w.if-m-ge2.false
      | else-m-eq93-via-else-m-eq93 w ↦ shaped_open a.text.now a.at a.m c.requires.measured c.requires.first.0 c.requires.first.1 w.if-m-eq93.false
    ]
