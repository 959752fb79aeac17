-- The loop keeps "the check from `at` on is the whole's"; a string is Entries.passed, the end Checks.at_end, anything else says nothing.
use Prim.Native.Nat.{◌≤◌, ◌-◌}
use mathlib.Core.Path.{◌≡◌}
use lib.ListN.{length}
use Rattle.wire_schema.specs.Schema.{StringList}
use Rattle.wire_check_field.specs.Check.{check_at, check_of}
use Rattle.wire_check.proofs.entry.plain_strings.Given as goal

abbrev pub invariant-loop-at : goal.invariant-loop-at
invariant-loop-at l = (l.at ≤ length l.s) × (check_at StringList l.s l.at ≡ check_of StringList l.s)

abbrev pub decreases-loop-at : goal.decreases-loop-at
decreases-loop-at l = length l.s - l.at
