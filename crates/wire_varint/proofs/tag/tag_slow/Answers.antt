-- Each case of what varint_slow answers is one of `tag_at`; a value's tag is tag_of's contract.
use mathlib.Core.Path.{sym, ◌∙◌}
use Rattle.wire_varint.specs.Tag.{tag_at, tag_of}
use Rattle.wire_varint.proofs.tag.tag_slow.Goals as goal

pub returns-in-Ok : goal.returns-in-Ok
unfolding tag_at
returns-in-Ok c = rw (sym c.varint_slow.ensures ∙ c.in-Ok.is) c.tag_of.ensures

pub returns-in-Err-PastEnd : goal.returns-in-Err-PastEnd
unfolding tag_at tag_of
returns-in-Err-PastEnd c = rw (sym c.varint_slow.ensures ∙ c.in-Err-PastEnd.is)

pub returns-in-Err-TooLong : goal.returns-in-Err-TooLong
unfolding tag_at tag_of
returns-in-Err-TooLong c = rw (sym c.varint_slow.ensures ∙ c.in-Err-TooLong.is)
