-- The loop keeps Times.Going: the check and the last numbers from `at` on are the whole's; each turn is one lemma of Times on its TagAt.
use Prim.Native.Nat.{◌-◌}
use lib.ListN.{length}
use Rattle.wire_walk_io.proofs.Times.{Going}
use Rattle.wire_walk_io.proofs.time.time_spec.Given as goal

abbrev pub invariant-loop-at : goal.invariant-loop-at
invariant-loop-at l = Going l.s l.at l.time

abbrev pub decreases-loop-at : goal.decreases-loop-at
decreases-loop-at l = length l.s - l.at
