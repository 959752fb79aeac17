-- By the byte at the cursor. The end of the text is Cursors.over_end, a line feed Cursors.over_feed, `#` Cursors.over_comment over past_line's
-- contract, a `\` that joins Cursors.rejoins over past_join's; any other byte is Cursors.gives.
use mathlib.Core.Path.{sym, ◌∙◌}
use Rattle.conf_lines.proofs.Cursors.{over_end, over_feed, over_comment, gives, rejoins}
use Rattle.conf_lines.proofs.Steps.{backslash_emits, other_emits}
use Rattle.conf_lines.proofs.pass_byte.Goals.{else-b-eq92-via-then-b-eq92+else-piece_ends, else-b-eq92-via-else-b-eq92}
use Rattle.conf_lines.proofs.pass_byte.Goals as goal

pub returns-then-text-c : goal.returns-then-text-c
returns-then-text-c c =
    let a = c.args in
    over_end a.text.now a.c c.if-text-c.true

pub returns-then-b-eq10 : goal.returns-then-b-eq10
returns-then-b-eq10 c =
    let a = c.args in
    over_feed a.text.now a.c c.if-text-c.false c.if-b-eq10.true _

pub returns-then-b-eq35 : goal.returns-then-b-eq35
returns-then-b-eq35 c =
    let a = c.args in
    over_comment a.text.now a.c _ c.if-text-c.false c.if-b-eq35.true c.past_line.ensures

pub returns-then-piece_ends : goal.returns-then-piece_ends
returns-then-piece_ends c =
    let a = c.args in
    let ends = sym c.piece_ends.ensures ∙ c.if-piece_ends.true in
    rejoins a.text.now a.c _ c.if-text-c.false c.if-b-eq92.true ends _ c.past_join.ensures

pub returns : goal.returns
returns c =
    let a = c.args in
    gives a.text.now a.c c.if-text-c.false
    (elim c.else-b-eq92.branch [
      | else-b-eq92-via-then-b-eq92+else-piece_ends w ↦ backslash_emits _ _ w.if-b-eq92.true (sym w.piece_ends.ensures ∙ w.if-piece_ends.false)
      | else-b-eq92-via-else-b-eq92 w ↦ other_emits _ _ c.if-b-eq10.false c.if-b-eq35.false w.if-b-eq92.false
    ])
    _
