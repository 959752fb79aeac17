-- A tag of one byte is Varints.one_byte's; any other is tag_slow's contract.
use mathlib.Core.Path.{sym}
use Rattle.wire_varint.specs.Tag.{tag_at}
use Rattle.wire_varint.proofs.Varints.{one_byte}
use Rattle.wire_varint.proofs.tag.tag_at.Goals as goal

pub returns-then-b-lt128 : goal.returns-then-b-lt128
unfolding tag_at
returns-then-b-lt128 c =
    let a = c.args in
    let one = one_byte a.s.now a.at c.from-b.result c.if-at-s.true (sym c.from-b.ensures) c.if-b-lt128.true in
    rw one c.tag_of.ensures
