-- Cursors.joins, over the contracts of past_line and past_blanks.
use Rattle.conf_lines.proofs.Cursors.{joins}
use Rattle.conf_lines.proofs.past_join.Goals as goal

pub returns : goal.returns
returns c =
    let a = c.args in
    let rest = c.past_blanks-at in
    joins a.text.now a.c _ _ c.past_line-next.ensures rest.ensures.rest rest.ensures.ahead _
