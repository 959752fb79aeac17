-- The loop keeps "the last from `at` on, after what is found, is the last of all"; a turn follows its field (Follow), the end is Follow.none.
use mathlib.Core.Path.{◌≡◌}
use Prim.Native.Nat.{◌-◌, ◌≤◌}
use lib.ListN.{length}
use Rattle.wire_fields.specs.Fields.{fields_at, last_of, last_in}
use Rattle.wire_fields.proofs.last_in.Given as goal

abbrev pub invariant-loop-at : goal.invariant-loop-at
invariant-loop-at l = (l.at ≤ length l.s) × (last_of l.lo l.hi l.found (fields_at l.s l.at) ≡ last_in l.lo l.hi l.s)

abbrev pub decreases-loop-at : goal.decreases-loop-at
decreases-loop-at l = length l.s - l.at
