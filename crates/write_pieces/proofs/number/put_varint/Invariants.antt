-- The loop keeps Varints.Putting: the bytes of v up to i are put, those of x are left; a turn is put_more, the end put_end.
use Rattle.write_pieces.proofs.Varints.{Putting}
use Rattle.write_pieces.proofs.number.put_varint.Given as goal

abbrev pub invariant-loop-x : goal.invariant-loop-x
invariant-loop-x l = Putting l.initial.out l.at l.v l.out l.x l.i

abbrev pub decreases-loop-x : goal.decreases-loop-x
decreases-loop-x l = l.x
