-- Invariants: the entries from `at` on have key k as all of them do; the keys from k on decide `missing`. Hands over to `found_key`, `not_found` and `all_found`.
use Prim.Native.Nat.{◌-◌, ◌≤◌}
use mathlib.Core.Path.{◌≡◌}
use lib.ListN.{length}
use Rattle.wire_fields.specs.Items.{items}
use Rattle.wire_message.specs.Message.{entries}
use Rattle.session_entries.specs.Required.{has, missing_from, missing}
use Rattle.session_entries.proofs.Laws.{entries_at}
use Rattle.session_entries.proofs.missing_key.Given as goal

abbrev pub invariant-loop-start : goal.invariant-loop-start
invariant-loop-start l = has l.k (entries_at l.field l.s l.at) ≡ has l.k (entries l.field (items l.s))

abbrev pub decreases-loop-start : goal.decreases-loop-start
decreases-loop-start l = length l.s - l.at

abbrev pub invariant-keys : goal.invariant-keys
invariant-keys l = (l.k ≤ 4) × (missing_from l.k (4 - l.k) (entries l.field (items l.s)) ≡ missing (entries l.field (items l.s)))

abbrev pub decreases-keys : goal.decreases-keys
decreases-keys l = 4 - l.k
