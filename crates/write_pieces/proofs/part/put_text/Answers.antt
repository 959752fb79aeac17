-- No bytes put nothing, Fields.text_none; any other is head and bytes, Fields.text_some, with the room of Fields.length_text.
use Rattle.write_pieces.proofs.Fields.{text_none, text_some, length_text}
use Rattle.base_copy.proofs.Puts.{nothing, puts}
use native.Mathlib.Omega.{arith}
use Rattle.write_pieces.proofs.part.put_text.Goals as goal

pub returns-then-d-eq0 : goal.returns-then-d-eq0
returns-then-d-eq0 c = let a = c.args in rw (text_none a.f a.d.now c.if-d-eq0.true) (nothing a.out.now a.at (omega arith))

pub put_head-a-requires : goal.put_head-a-requires
put_head-a-requires c =
    omega (arith, length_text c.args.f c.args.d.now c.if-d-eq0.false)

pub put_raw-requires : goal.put_raw-requires
put_raw-requires c =
    omega (arith, length_text c.args.f c.args.d.now c.if-d-eq0.false)

pub returns : goal.returns
returns c =
    rw (text_some c.args.f c.args.d.now c.if-d-eq0.false) (search puts)
