-- The loop keeps Puts.Filling: what is put, with the numbers from here on behind it, is all; a turn is fill_more, the end fill_end.
use Rattle.write_forms.specs.Pieces.{varint, packed}
use lib.ListN.{drop, get_or}
use Rattle.write_lists.proofs.Packed.{next_number_lem, no_number}
use Rattle.base_copy.proofs.Puts.{fill_start, fill_room, fill_more, fill_end}
use native.Mathlib.Omega.{arith}
use Prim.Native.Nat.{◌+◌}
use Rattle.write_lists.proofs.put_packed.Goals as goal

pub loop-v-init : goal.loop-v-init
loop-v-init c = let a = c.args in fill_start a.out.now a.at (packed a.numbers.now)

pub put_varint-o-requires : goal.put_varint-o-requires
put_varint-o-requires c =
    let l = c.loop-v in
    let vs = c.args.numbers.now in
    fill_room l.invariant (varint (get_or vs l.v-index 0)) (packed (drop (l.v-index + 1) vs))
    (next_number_lem vs l.v-index c.loop-v-test.true) c.requires

pub loop-v-preserved : goal.loop-v-preserved
loop-v-preserved c =
    let l = c.loop-v in
    fill_more l.invariant _ (next_number_lem c.args.numbers.now l.v-index c.loop-v-test.true)
    c.put_varint-o.ensures

pub shape_of-out : goal.shape_of-out
shape_of-out c = omega (arith, c.loop-v.invariant.size)

pub returns : goal.returns
returns c =
    let l = c.loop-v in
    fill_end l.invariant (no_number c.args.numbers.now l.v-index c.loop-v-test.false) c.requires
