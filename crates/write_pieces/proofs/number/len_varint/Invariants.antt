-- The loop keeps Varints.Counting: n bytes are counted, those of x are still to count; a turn is count_more, the end count_end.
use Rattle.write_pieces.proofs.Varints.{Counting}
use Rattle.write_pieces.proofs.number.len_varint.Given as goal

abbrev pub invariant-loop-x : goal.invariant-loop-x
invariant-loop-x l = Counting l.v l.x l.n

abbrev pub decreases-loop-x : goal.decreases-loop-x
decreases-loop-x l = l.x
