-- The loop keeps Ios.Walked: the check, the last delay and the last data from `at` on are the whole's; each turn is one lemma of Ios on its TagAt or DelayAt.
use Prim.Native.Nat.{◌-◌}
use lib.ListN.{length}
use Rattle.wire_walk_io.proofs.Ios.{Walked}
use Rattle.wire_walk_io.proofs.io.io_buffer.Given as goal

abbrev pub invariant-loop-at : goal.invariant-loop-at
invariant-loop-at l = Walked l.s l.at l.delay l.contents

abbrev pub decreases-loop-at : goal.decreases-loop-at
decreases-loop-at l = length l.s - l.at
