-- The loop keeps "the entries from `at` on fit where all do"; an entry found is Elements.found_part, none Elements.found_none.
use Rattle.wire_range.specs.Limits.{entries_fit}
use Rattle.wire_message.specs.Message.{Bytes, entry, entries}
use Rattle.wire_elements.specs.Elements.{elements_at}
use Rattle.wire_fields.specs.Items.{items}
use lib.ListN.{length}
use mathlib.Core.List.{map}
use Prim.Native.Nat.{◌-◌}
use mathlib.Core.Path.{◌≡◌}
use Rattle.wire_range.proofs.limits.entries_fit.Given as goal

abbrev pub invariant-loop-start : goal.invariant-loop-start
invariant-loop-start l = entries_fit (map (λ (d : Bytes). entry (items d)) (elements_at l.number l.s l.at)) ≡ entries_fit (entries l.number (items l.s))

abbrev pub decreases-loop-start : goal.decreases-loop-start
decreases-loop-start l = length l.s - l.at
