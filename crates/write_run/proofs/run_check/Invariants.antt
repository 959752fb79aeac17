-- The loop keeps "the run's check from `at` on is the whole's"; an entry is Runs.reached and Runs.run_next, the end Runs.run_end.
use Rattle.write_forms.specs.Run.{run_at}
use lib.ListN.{length}
use Prim.Native.Nat.{◌-◌, ◌≤◌}
use mathlib.Core.Path.{◌≡◌}
use Rattle.write_run.proofs.run_check.Given as goal

abbrev pub invariant-loop-at : goal.invariant-loop-at
invariant-loop-at l = (l.at ≤ length l.s) × (run_at l.field l.s l.at ≡ run_at l.field l.s 0)

abbrev pub decreases-loop-at : goal.decreases-loop-at
decreases-loop-at l = length l.s - l.at
