-- The loop keeps Puts.Filling: what is put, with the text of the bytes from its place on behind it, is all; a turn is fill_more, the end fill_end.
use Prim.Native.Nat.{◌+◌}
use native.Mathlib.Omega.{arith}
use lib.ListN.{drop, get_or}
use Rattle.base_copy.proofs.Puts.{fill_start, fill_room, fill_more, fill_end}
use Rattle.show_escape.specs.Escape.{escaped_byte, escaped}
use Rattle.show_escape.proofs.Texts.{next_byte, no_byte}
use Rattle.show_escape.proofs.put_text.Goals as goal

pub loop-b-init : goal.loop-b-init
loop-b-init c = let a = c.args in fill_start a.out.now 0 (escaped a.bytes.now)

pub put_byte-at-requires : goal.put_byte-at-requires
put_byte-at-requires c =
    let l = c.loop-b in
    let bs = c.args.bytes.now in
    fill_room l.invariant (escaped_byte (get_or bs l.b-index 0)) (escaped (drop (l.b-index + 1) bs))
    (next_byte bs l.b-index c.loop-b-test.true) (omega arith)

pub loop-b-preserved : goal.loop-b-preserved
loop-b-preserved c =
    let l = c.loop-b in
    fill_more l.invariant _ (next_byte c.args.bytes.now l.b-index c.loop-b-test.true) c.put_byte-at.ensures

pub shape_of-out : goal.shape_of-out
shape_of-out c = omega (arith, c.loop-b.invariant.size)

pub returns : goal.returns
returns c =
    let l = c.loop-b in
    fill_end l.invariant (no_byte c.args.bytes.now l.b-index c.loop-b-test.false) (omega arith)
