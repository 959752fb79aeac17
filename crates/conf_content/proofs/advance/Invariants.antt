-- The loop keeps Walks.Walking, over next_byte's contract: a byte is walk_on, the line's end walk_out.
use Rattle.conf_content.proofs.Walks.{Walking}
use Rattle.conf_content.proofs.advance.Given as goal

abbrev pub invariant-loop-i : goal.invariant-loop-i
invariant-loop-i l = Walking l.text l.initial.w l.n l.w l._i
