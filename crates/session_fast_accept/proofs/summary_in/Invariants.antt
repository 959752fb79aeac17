-- Invariant: `Told`, what the fields before `at` show. Hands a field to `flagged`, `entered` or `dated`, the end to `finish`; of `Other` nothing is claimed.
use Prim.Native.Nat.{◌-◌}
use lib.ListN.{length}
use Rattle.session_fast_accept.proofs.Summaries.{Told}
use Rattle.session_fast_accept.proofs.summary_in.Given as goal

abbrev pub invariant-loop-at : goal.invariant-loop-at
invariant-loop-at l = Told l.s l.at l.expect l.keys

abbrev pub decreases-loop-at : goal.decreases-loop-at
decreases-loop-at l = length l.s - l.at
