-- The loop keeps Walks.Passing, over next_byte's contract: a byte is pass_on, the line's end pass_ends.
use Prim.Native.Nat.{◌-◌}
use lib.ListN.{length}
use Rattle.conf_content.proofs.Walks.{Passing}
use Rattle.conf_content.proofs.measure_line.Given as goal

abbrev pub invariant-loop-b : goal.invariant-loop-b
invariant-loop-b l = Passing l.text l.initial.w l.m l.w

abbrev pub decreases-loop-b : goal.decreases-loop-b
decreases-loop-b l = length l.text - l.w.at
