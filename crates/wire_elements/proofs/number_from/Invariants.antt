-- The loop keeps "the fields from `at` on have the first number of those from `from` on"; a turn is Numbers.at_field, the end Numbers.at_end.
use mathlib.Core.Path.{◌≡◌}
use Prim.Native.Nat.{◌-◌}
use lib.ListN.{length}
use Rattle.wire_fields.specs.Fields.{fields_at}
use Rattle.wire_elements.specs.Elements.{first_number}
use Rattle.wire_elements.proofs.number_from.Given as goal

abbrev pub invariant-loop-at : goal.invariant-loop-at
invariant-loop-at l = first_number l.s (fields_at l.s l.at) ≡ first_number l.s (fields_at l.s l.from)

abbrev pub decreases-loop-at : goal.decreases-loop-at
decreases-loop-at l = length l.s - l.at
