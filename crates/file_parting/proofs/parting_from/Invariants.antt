-- The loop keeps: what is left from i on parts where what is left from `from` on does. A byte that is the same is
-- Laws.same_byte, one that differs Laws.other_byte, the end of the shorter Laws.shorter_ends.
use mathlib.Core.Path.{◌≡◌}
use Prim.Native.Nat.{◌+◌}
use lib.ListN.{drop}
use Rattle.file_parting.specs.Parting.{parting}
use Rattle.file_parting.proofs.parting_from.Given as goal

abbrev pub invariant-loop-i : goal.invariant-loop-i
invariant-loop-i l = l.from + parting (drop l.from l.a) (drop l.from l.b) ≡ l.i + parting (drop l.i l.a) (drop l.i l.b)
