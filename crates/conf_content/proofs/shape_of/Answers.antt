-- By the line's length and first byte.
use Rattle.conf_content.proofs.Shapes.{shaped_empty}
use Rattle.conf_content.proofs.shape_of.Goals as goal

pub returns-then-m-eq0 : goal.returns-then-m-eq0
returns-then-m-eq0 c =
    let a = c.args in
    shaped_empty a.text.now a.at a.m c.requires c.if-m-eq0.true
