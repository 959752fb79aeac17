-- The loop keeps "the check from `at` on is the whole's"; the recursion's measure is the message's length.
use Prim.Native.Nat.{◌-◌, ◌≤◌}
use mathlib.Core.Path.{◌≡◌}
use lib.ListN.{length}
use Rattle.wire_check_field.specs.Check.{check_at}
use Rattle.wire_check.proofs.+check.Given as goal

abbrev pub decreases-check : goal.decreases-check
decreases-check l = length l.s.now

abbrev pub invariant-loop-at : goal.invariant-loop-at
invariant-loop-at l = (l.at ≤ length l.s) × (check_at l.message l.s l.at ≡ check_at l.message l.s 0)

abbrev pub decreases-loop-at : goal.decreases-loop-at
decreases-loop-at l = length l.s - l.at
