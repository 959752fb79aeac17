-- A length of one byte that fits is Varints.one_byte's; any other is part_slow's contract.
use Prim.Native.Nat.{◌<◌}
use native.Mathlib.Omega.{arith}
use mathlib.Core.Path.{sym}
use borrow.Author.Tests.{le-leb}
use Rattle.wire_value.specs.Field.{part_of}
use Rattle.wire_varint.proofs.Varints.{one_byte}
use Rattle.wire_value.proofs.part_at.Goals as goal

pub returns-then-length-left : goal.returns-then-length-left
unfolding part_of
returns-then-length-left c =
    let a = c.args in
    let short : c.from-length.result < 128 = omega arith in
    let one = one_byte a.s.now a.at c.from-length.result c.if-at-s.true (sym c.from-length.ensures) short in
    rw (one, le-leb _ _ c.if-length-left.true)
