-- Each case of the check, and of no_member, is one of `decode_number`.
use Rattle.wire.specs.Read.{decode_number, check_number}
use mathlib.Core.Path.{sym, ◌∙◌}
use Rattle.wire.proofs.decode.Goals as goal

pub returns-then-no_member : goal.returns-then-no_member
unfolding decode_number check_number
returns-then-no_member c =
    rw (sym c.check.ensures ∙ c.in-Ok.is, sym c.no_member.ensures ∙ c.if-no_member.true)

pub returns-in-Err : goal.returns-in-Err
unfolding decode_number check_number
returns-in-Err c = rw (sym c.check.ensures ∙ c.in-Err.is)

pub returns-else-no_member : goal.returns-else-no_member
unfolding decode_number check_number
returns-else-no_member c =
    rw (sym c.check.ensures ∙ c.in-Ok.is, sym c.no_member.ensures ∙ c.if-no_member.false)
