-- The loop keeps "the first from `at` on is the first of all"; a turn follows its field (Follow), the end is Follow.none.
use mathlib.Core.Path.{◌≡◌}
use Prim.Native.Nat.{◌-◌}
use lib.ListN.{length}
use Rattle.wire_fields.specs.Fields.{fields_at, first_of}
use Rattle.wire_fields.proofs.next_part.Given as goal

abbrev pub invariant-loop-at : goal.invariant-loop-at
invariant-loop-at l = first_of l.number (fields_at l.s l.at) ≡ first_of l.number (fields_at l.s l.from)

abbrev pub decreases-loop-at : goal.decreases-loop-at
decreases-loop-at l = length l.s - l.at
