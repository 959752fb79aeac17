-- By the byte behind the blanks: a `;` is Cursors.skips, over past_line's contract, any other Cursors.begins_byte, the end of the text
-- Cursors.begins_end.
use Rattle.conf_lines.proofs.Cursors.{skips, begins_byte, begins_end}
use Rattle.conf_lines.proofs.line_start.Goals.{else-at-text-via-then-at-text+else-text-at-eq59, else-at-text-via-else-at-text}
use Rattle.conf_lines.proofs.line_start.Goals as goal

pub returns-then-text-at-eq59 : goal.returns-then-text-at-eq59
returns-then-text-at-eq59 c =
    let a = c.args in
    skips a.text.now a.c _ _ c.past_blanks-at.ensures.rest c.if-at-text.true c.if-text-at-eq59.true c.past_line.ensures

pub returns : goal.returns
returns c =
    let a = c.args in
    let e = c.past_blanks-at.ensures in
    elim c.else-at-text.branch [
      | else-at-text-via-then-at-text+else-text-at-eq59 w ↦ begins_byte a.text.now a.c _ e.rest e.ahead w.if-at-text.true w.if-text-at-eq59.false _
      | else-at-text-via-else-at-text w ↦ begins_end a.text.now a.c _ e.rest e.ahead w.if-at-text.false _
    ]
