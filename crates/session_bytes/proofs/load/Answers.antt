-- Hands the five numbers of a slice of 40 bytes to `read`, and any other length to `unread`.
use mathlib.Core.Path.{◌∙◌}
use Rattle.session_bytes.proofs.Slices.{read, unread}
use Rattle.session_bytes.proofs.load.Goals as goal

pub returns-then-slice-eq40 : goal.returns-then-slice-eq40
returns-then-slice-eq40 c =
    let slice = c.args.slice.now in
    c.from_numbers.ensures
    ∙ read slice c.if-slice-eq40.true _ _ _ _ _
    c.number_at.ensures c.number_at-then-slice-eq40.ensures c.number_at-then-slice-eq40-2.ensures c.number_at-then-slice-eq40-3.ensures c.number_at-then-slice-eq40-4.ensures

pub returns : goal.returns
returns c = c.closed.ensures ∙ unread c.args.slice.now c.if-slice-eq40.false
