-- The loop keeps: the bytes before i agree. A block that does not differ is Laws.twice_joined; where one differs the place is
-- parting_from's by Laws.from_there, and where none does it is the end by Laws.at_the_end.
use Prim.Native.Nat.{◌-◌, ◌≤◌}
use Rattle.file_parting.specs.Parting.{Agree}
use Rattle.file_parting.proofs.by_blocks.Given as goal

abbrev pub invariant-loop-i : goal.invariant-loop-i
invariant-loop-i l = (l.i ≤ l.n) × Agree l.a l.b 0 l.i

abbrev pub decreases-loop-i : goal.decreases-loop-i
decreases-loop-i l = l.n - l.i
