-- Both cases of what varint_at answers are those of `number_read`.
use mathlib.Core.Path.{sym, ap, ◌∙◌}
use Rattle.std.specs.Prelude.{Err}
use Rattle.wire_value.specs.Field.{number_read}
use Rattle.wire_value.proofs.number_at.Goals as goal

pub returns-in-Ok : goal.returns-in-Ok
unfolding number_read
returns-in-Ok c = rw (sym c.varint_at.ensures ∙ c.in-Ok.is)

pub returns-in-Err-PastEnd : goal.returns-in-Err-PastEnd
unfolding number_read
returns-in-Err-PastEnd c = rw (sym c.varint_at.ensures ∙ c.in-Err-PastEnd.is) (ap Err c.at_place.ensures)

pub returns-in-Err-TooLong : goal.returns-in-Err-TooLong
unfolding number_read
returns-in-Err-TooLong c = rw (sym c.varint_at.ensures ∙ c.in-Err-TooLong.is) (ap Err c.at_place-in-Err-TooLong.ensures)
