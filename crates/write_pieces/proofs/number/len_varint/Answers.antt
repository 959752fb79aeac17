-- The loop keeps Varints.Counting: n bytes are counted, those of x are still to count; a turn is count_more, the end count_end.
use native.Mathlib.Omega.{arith}
use borrow.Author.Rules.{rules}
use Rattle.write_pieces.proofs.Varints.{length_varint, count_start, count_more, count_end}
use Rattle.write_pieces.proofs.number.len_varint.Goals as goal

pub loop-x-init : goal.loop-x-init
loop-x-init c = count_start c.args.v (search rules)

pub overflow_add-n : goal.overflow_add-n
overflow_add-n c = omega (arith, c.loop-x.invariant.all, length_varint 9 c.args.v)

pub loop-x-smaller : goal.loop-x-smaller
loop-x-smaller c = omega arith

pub loop-x-preserved : goal.loop-x-preserved
loop-x-preserved c = count_more c.loop-x.invariant c.loop-x-test.true

pub returns : goal.returns
returns c = count_end c.loop-x.invariant c.loop-x-test.false
