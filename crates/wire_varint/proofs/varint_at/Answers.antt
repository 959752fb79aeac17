-- A varint of one byte is Varints.one_byte's; any other is varint_long's contract.
use mathlib.Core.Path.{sym}
use Rattle.wire_varint.proofs.Varints.{one_byte}
use Rattle.wire_varint.proofs.varint_at.Goals as goal

pub returns-then-first-lt128 : goal.returns-then-first-lt128
returns-then-first-lt128 c =
    let a = c.args in
    sym (one_byte a.s.now a.from c.from-first.result c.if-from-s.true (sym c.from-first.ensures) c.if-first-lt128.true)
