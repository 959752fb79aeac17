-- Invariant: `fits` and the entries from `at` on give the last entry's answer. Hands an entry to `fits_next`, the end to `entries_none`, bounds to `found_in_bounds`.
use Prim.Native.Nat.{◌-◌}
use mathlib.Core.Path.{◌≡◌}
use lib.ListN.{length}
use Rattle.wire_fields.specs.Items.{items}
use Rattle.wire_message.specs.Message.{entries}
use Rattle.session_entries.specs.Required.{last_value, string_or_none}
use Rattle.session_entries.proofs.Laws.{entries_at, fits_from}
use Rattle.session_entries.proofs.key_fits.Given as goal

abbrev pub invariant-loop-start : goal.invariant-loop-start
invariant-loop-start l = fits_from l.k l.fits (entries_at l.field l.s l.at) ≡ string_or_none (last_value l.k (entries l.field (items l.s)))

abbrev pub decreases-loop-start : goal.decreases-loop-start
decreases-loop-start l = length l.s - l.at
