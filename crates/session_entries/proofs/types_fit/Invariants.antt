-- Invariant: the keys from k on decide `types_fit`. Hands a key that fits to `type_fits`, one that does not to `type_other`, the end to `types_done`.
use Prim.Native.Nat.{◌-◌, ◌≤◌}
use mathlib.Core.Path.{◌≡◌}
use Rattle.wire_fields.specs.Items.{items}
use Rattle.wire_message.specs.Message.{entries}
use Rattle.session_entries.specs.Required.{types_from, types_fit}
use Rattle.session_entries.proofs.types_fit.Given as goal

abbrev pub invariant-loop-k : goal.invariant-loop-k
invariant-loop-k l = (l.k ≤ 4) × (types_from l.k (4 - l.k) (entries l.field (items l.s)) ≡ types_fit (entries l.field (items l.s)))
