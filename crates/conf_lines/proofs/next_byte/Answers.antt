-- The end of the text is Cursors.over_end, a byte of the line Cursors.gives; `#`, `\` and a line feed are step_past_joins's.
use Rattle.conf_lines.proofs.Cursors.{over_end, gives}
use Rattle.conf_lines.proofs.Steps.{other_emits}
use Rattle.conf_lines.proofs.next_byte.Goals as goal

pub returns-then-text-c : goal.returns-then-text-c
returns-then-text-c c =
    let a = c.args in
    over_end a.text.now a.c c.if-text-c.true

pub returns : goal.returns
returns c =
    let a = c.args in
    gives a.text.now a.c c.if-text-c.false (other_emits _ _ c.if-b-eq10.false c.if-b-eq35.false c.if-b-eq92.false) _
