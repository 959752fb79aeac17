-- The loop keeps: the blanks before the place go. A blank is Blanks.blank_goes, any other byte Blanks.other_stays, the end Blanks.end_stays.
use mathlib.Core.Path.{◌≡◌}
use Prim.Native.Nat.{◌-◌, ◌≤◌}
use lib.ListN.{length, drop}
use Rattle.conf_lines.specs.Lines.{lead}
use Rattle.conf_lines.proofs.past_blanks.Given as goal

abbrev pub invariant-loop-at : goal.invariant-loop-at
invariant-loop-at l = (l.from ≤ l.at) × (lead (drop l.at l.text) ≡ lead (drop l.from l.text))

abbrev pub decreases-loop-at : goal.decreases-loop-at
decreases-loop-at l = length l.text - l.at
