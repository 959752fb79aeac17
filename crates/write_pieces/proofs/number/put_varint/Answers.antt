-- The loop keeps Varints.Putting: the bytes of v up to i are put, those of x are left; a turn is put_more, the end put_end.
use native.Mathlib.Omega.{arith}
use borrow.Author.Rules.{rules}
use Rattle.write_pieces.proofs.Varints.{put_start, put_room, put_more, put_end}
use Rattle.write_pieces.proofs.number.put_varint.Goals as goal

pub loop-x-init : goal.loop-x-init
loop-x-init c = put_start c.args.out.now c.args.at c.args.v (search rules)

pub bounds-out-i : goal.bounds-out-i
bounds-out-i c = put_room c.loop-x.invariant c.requires

pub loop-x-smaller : goal.loop-x-smaller
loop-x-smaller c = omega arith

pub loop-x-preserved : goal.loop-x-preserved
loop-x-preserved c = put_more c.loop-x.invariant c.requires c.loop-x-test.true

pub bounds-out-i-2 : goal.bounds-out-i-2
bounds-out-i-2 c = put_room c.loop-x.invariant c.requires

pub returns : goal.returns
returns c = put_end c.loop-x.invariant c.requires c.loop-x-test.false
