-- The loop keeps Puts.Filling: what is put, with the list of the lines from the cursor on behind it, is the whole list. A turn is fill_more over
-- write_line's contract, the end fill_end.
use Prim.Native.Nat.{◌-◌}
use lib.ListN.{length}
use Rattle.base_copy.proofs.Puts.{Filling}
use Rattle.conf_list.specs.Listing.{listing}
use Rattle.conf_read.specs.Config.{statements_of}
use Rattle.conf_read.specs.Passes.{ahead, Good, listed}
use Rattle.conf_read.proofs.write_list.Given as goal

abbrev pub invariant-loop-w : goal.invariant-loop-w
invariant-loop-w l =
    Good (ahead l.text l.w.cursor l.w.section)
    × Filling l.initial.out 0 (listing (listed (statements_of l.text))) l.out l.w.at (listing (listed (ahead l.text l.w.cursor l.w.section)))

abbrev pub decreases-loop-w : goal.decreases-loop-w
decreases-loop-w l = length l.text - l.w.cursor.at
