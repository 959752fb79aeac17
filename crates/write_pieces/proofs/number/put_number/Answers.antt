-- A number left out puts nothing; any other is its tag and its value, Fields.number_in, with the room that Fields.length_number says.
use Rattle.write_pieces.proofs.Fields.{number_out, number_in, length_number}
use Rattle.base_copy.proofs.Puts.{nothing, puts}
use native.Mathlib.Omega.{arith}
use Rattle.write_pieces.proofs.number.put_number.Goals as goal

pub returns-then-left_out : goal.returns-then-left_out
returns-then-left_out c =
    let a = c.args in
    rw (number_out a.f a.v a.always c.left_out.ensures c.if-left_out.true)
    (nothing a.out.now a.at (omega arith))

pub put_varint-a-requires : goal.put_varint-a-requires
put_varint-a-requires c =
    let a = c.args in
    omega (arith, length_number a.f a.v a.always c.left_out.ensures c.if-left_out.false)

pub put_varint-requires : goal.put_varint-requires
put_varint-requires c =
    let a = c.args in
    omega (arith, length_number a.f a.v a.always c.left_out.ensures c.if-left_out.false)

pub returns : goal.returns
returns c =
    let a = c.args in
    rw (number_in a.f a.v a.always c.left_out.ensures c.if-left_out.false) (search puts)
