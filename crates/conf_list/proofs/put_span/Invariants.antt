-- The loop keeps Spans.Copying: what is put, with the bytes of the span from i on behind it, is all. A turn is copy_more, the end copy_end.
use Prim.Native.Nat.{◌+◌}
use Rattle.conf_list.proofs.Spans.{Copying}
use Rattle.conf_list.proofs.put_span.Given as goal

abbrev pub invariant-loop-i : goal.invariant-loop-i
invariant-loop-i l = Copying l.initial.out l.at l.text l.in_lower l.p.length l.fn.p.at l.out l.w (l.at + l.i) l.i
